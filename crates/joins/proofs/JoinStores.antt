-- The store of a join: what is known after k turns, of the text, the columns and the flags.
use mathlib.Core.Path.{◌≡◌, refl, sym, ap, ◌∙◌}
use mathlib.Core.Bool.{Bool}
use mathlib.Core.List.{List, [], ◌∷◌}
use Prim.Native.Nat.{ℕ, suc, ◌+◌, ◌-◌, ◌≤◌, ◌<◌}
use native.Mathlib.Omega.{arith}
use native.Mathlib.Numerals.{add-one}
use lib.ListN.{length, take, get_or, set, length-take}
use lib.Seq.{length-take-le}
use Rattle.promise.specs.Slices.{over}
use Rattle.promise.proofs.Lists.{over-more}
use Rattle.text.specs.declared.Span.{Span}
use Rattle.text.specs.Rows.{Line, line, last_row, row_len, row_start, span}
use Rattle.text.specs.Text.{is_lf, renewed}
use Rattle.edit.specs.Edits.{gap, join_row, join_cols, join_flags}
use Rattle.joins.specs.declared.JoinTurn.{JoinTurn}
use Rattle.joins.specs.Turns.{join_turn, joins, slices, filled}
use Rattle.text.proofs.Walks.{span-parts}
use Rattle.text.proofs.Renewed.{renewed-text, renewed-same}
use Rattle.joins.proofs.Splices.{replaced_in, turned}
use Rattle.joins.proofs.JoinRows.{gap_length, gap-take}
use Rattle.joins.proofs.JoinTurns.{below_of, row_to, below_count, turn, turn_size, row_size, turn_gap, turn_small, joins-none, Starts, joins-cols, joins-flags}

pub record Stored (text₀ cols₀ flags₀ : List ℕ) (used r : ℕ) (b : Bool) (text cols flags : List ℕ) (n left k : ℕ) : Type 0 where
  pub n_is : n ≡ length (joins (take used text₀) r b k).text
  pub left_is : left ≡ length (row_to (take used text₀) r b k).body
  pub text-is : text ≡ renewed text₀ used (joins (take used text₀) r b k).text
  pub cols_is : cols ≡ over (joins (take used text₀) r b k).inverse.first cols₀
  pub flags_is : flags ≡ over (joins (take used text₀) r b k).inverse.second flags₀

abbrev pub Storing : List ℕ → List ℕ → List ℕ → ℕ → ℕ → Bool → ℕ → ℕ → List ℕ → List ℕ → List ℕ → ℕ → ℕ → ℕ → Type 0
Storing text₀ cols₀ flags₀ used count b start len text cols flags n left k =
    (r : ℕ) → Starts (take used text₀) r (start + len) len → count ≤ length (below_of (take used text₀) r) → Stored text₀ cols₀ flags₀ used r b text cols flags n left k

pub storing_none : (text cols flags : List ℕ) (used count : ℕ) (b : Bool) (start len : ℕ) → used ≤ length text → Storing text cols flags used count b start len text cols flags used len 0
unfolding join_row row_len
storing_none text cols flags used count b start len h r q m =
    let t = take used text in
    let z : (joins t r b 0).text ≡ t = joins-none t r b q.within in
    record {
      n_is = sym (ap length z ∙ length-take-le used text h);
      left_is = q.long;
      text-is = rw z (renewed-same text used h);
      cols_is = unfold joins join_cols in refl;
      flags_is = unfold joins join_flags in refl;
    }

module _ (text₀ cols₀ flags₀ : List ℕ) (used r : ℕ) (b : Bool) (text cols flags : List ℕ) (n left k : ℕ) (s : Stored text₀ cols₀ flags₀ used r b text cols flags n left k)
    (h : r ≤ last_row is_lf (take used text₀)) (l : k < length (below_of (take used text₀) r)) (start : ℕ) (b₀ : start ≡ row_start is_lf (take used text₀) r) where
  abbrev t₀ : List ℕ
  t₀ = take used text₀

  abbrev now : List ℕ
  now = (joins t₀ r b k).text

  abbrev y₀ : Line ℕ
  y₀ = get_or (below_of t₀ r) k (line [] [])

  now_is : take n text ≡ now
  now_is = rw (s.text-is, s.n_is) (renewed-text text₀ used now)

  place : start + left ≡ row_start is_lf t₀ r + length (row_to t₀ r b k).body
  place = omega (arith, s.left_is)

  pub store_within : start + left + 1 ≤ n
  store_within = omega (arith, (turn t₀ r h b k l).within, place, s.n_is)

  module _ (j : JoinTurn) (e : j ≡ join_turn (take n text) (start + left) left b) where
    store_len : j.len ≡ length y₀.body
    store_len = ap (λ (j : JoinTurn). j.len) e ∙ rw (now_is, place) (turn t₀ r h b k l).len

    store_gap : j.gap ≡ length (gap 32 b (row_to t₀ r b k).body y₀.body)
    store_gap = turn_gap t₀ r h b k l j left s.left_is store_len (rw e)

    store_put : take j.gap (32 ∷ []) ≡ gap 32 b (row_to t₀ r b k).body y₀.body
    store_put = rw (store_gap, gap_length 32 b (row_to t₀ r b k).body y₀.body) (gap-take b (row_to t₀ r b k).body y₀.body)

    pub store_sizes : (j.gap ≤ 1) × (start + left + 1 + j.len ≤ n)
    store_sizes =
        let q = turn_small (take n text) (start + left) left b j e in
        let w = store_within in
        (q.0, omega (arith, length-take n text))

    module _ (room : used ≤ length text₀) (m : n ≤ used) (text' : List ℕ) (p : text' ≡ replaced_in text n (start + left) (start + left + 1) (take j.gap (32 ∷ []))) where
      stored-text : text' ≡ renewed text₀ used (joins t₀ r b (suc k)).text
      stored-text =
          turned text₀ text text' used n (start + left) (start + left + 1) (take j.gap (32 ∷ [])) now (joins t₀ r b (suc k)).text s.text-is s.n_is
          (rw (store_put, place) (turn t₀ r h b k l).text) p (omega (arith, s.n_is)) room (omega (arith, turn_size t₀ r h b k l, store_gap, store_sizes.0, s.n_is))

      pub stored_more : k < length cols₀ → k < length flags₀ → Stored text₀ cols₀ flags₀ used r b text' (set cols k left) (set flags k j.gap) (n - 1 + j.gap) (left + j.gap + j.len) (k + 1)
      stored_more lc lf = rw (add-one k) (record {
        n_is = omega (arith, turn_size t₀ r h b k l, store_gap, store_within, s.n_is);
        left_is = omega (arith, row_size t₀ r h b k l, store_gap, store_len, s.left_is);
        text-is = stored-text;
        cols_is = rw ((turn t₀ r h b k l).cols, ← s.left_is) (over-more cols (joins t₀ r b k).inverse.first cols₀ k left s.cols_is (joins-cols t₀ r b k (omega arith)) lc);
        flags_is = rw ((turn t₀ r h b k l).flags, ← store_gap) (over-more flags (joins t₀ r b k).inverse.second flags₀ k j.gap s.flags_is (joins-flags t₀ r b k (omega arith)) lf);
      })

module _ (text₀ cols₀ flags₀ : List ℕ) (used count : ℕ) (b : Bool) (start len : ℕ) (text cols flags : List ℕ) (n left k : ℕ) (s : Storing text₀ cols₀ flags₀ used count b start len text cols flags n left k) where
  module _ (l : k < count) (j : JoinTurn) (e : j ≡ join_turn (take n text) (start + left) left b) (room : used ≤ length text₀) (m : n ≤ used) (text' : List ℕ)
      (p : text' ≡ replaced_in text n (start + left) (start + left + 1) (take j.gap (32 ∷ []))) where
    pub storing_more : k < length cols₀ → k < length flags₀ → Storing text₀ cols₀ flags₀ used count b start len text' (set cols k left) (set flags k j.gap) (n - 1 + j.gap) (left + j.gap + j.len) (k + 1)
    storing_more lc lf r q c = stored_more text₀ cols₀ flags₀ used r b text cols flags n left k (s r q c) q.within (omega arith) start (omega (arith, q.ends, q.long)) j e room m text' p lc lf

  module _ (f : Span) (h : f ≡ span is_lf (take used text₀) f.row.0) (x : start ≡ f.start.0) (y : len ≡ f.end.0 - f.start.0) (m : count ≤ last_row is_lf (take used text₀) - f.row.0) where
    starts : Starts (take used text₀) f.row.0 (start + len) len
    starts = let q = span-parts (take used text₀) f h in record { within = q.0; ends = omega (arith, q.1, q.2); long = omega (arith, q.1, q.2) }

    many : count ≤ length (below_of (take used text₀) f.row.0)
    many = omega (arith, below_count (take used text₀) f.row.0)

    stored : Stored text₀ cols₀ flags₀ used f.row.0 b text cols flags n left k
    stored = s f.row.0 starts many

    pub storing_within : k < count → start + left + 1 ≤ n
    storing_within l = store_within text₀ cols₀ flags₀ used f.row.0 b text cols flags n left k stored starts.within (omega (arith, many)) start (omega (arith, starts.ends, starts.long))

    pub storing_sizes : k < count → (j : JoinTurn) → j ≡ join_turn (take n text) (start + left) left b → (j.gap ≤ 1) × (start + left + 1 + j.len ≤ n)
    storing_sizes l j e = store_sizes text₀ cols₀ flags₀ used f.row.0 b text cols flags n left k stored starts.within (omega (arith, many)) start (omega (arith, starts.ends, starts.long)) j e

    pub storing_all : k ≡ count → slices text cols flags ≡ filled (slices text₀ cols₀ flags₀) used (joins (take used text₀) f.row.0 b count)
    storing_all z = rw (stored.text-is, stored.cols_is, stored.flags_is, z)
