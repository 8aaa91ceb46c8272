-- The store of a split: what is known of the buffer once the columns from index k on were taken.
use mathlib.Core.Path.{◌≡◌, sym, ap, subst, ◌∙◌}
use mathlib.Core.List.{List, [], ◌∷◌}
use Prim.Native.Nat.{ℕ, suc, ◌+◌, ◌-◌, ◌≤◌, ◌<◌}
use native.Mathlib.Omega.{arith}
use lib.ListN.{length, take, drop, get_or}
use lib.Seq.{slice, drop-length, length-take-le}
use Rattle.text.specs.declared.Span.{Span}
use Rattle.text.specs.Rows.{row_start, span}
use Rattle.text.specs.Text.{is_lf, renewed}
use Rattle.text.proofs.Texts.{front}
use Rattle.text.proofs.Renewed.{renewed-text, renewed-same}
use Rattle.text.proofs.Changes.{row_of}
use Rattle.edit.specs.Edits.{split}
use Rattle.edit.specs.Refusals.{is_space, spaces}
use Rattle.joins.specs.declared.SplitTurn.{SplitTurn}
use Rattle.joins.specs.Turns.{split_turn}
use Rattle.joins.proofs.Splices.{replaced_in, turned}
use Rattle.joins.proofs.SplitRows.{least}
use Rattle.joins.proofs.SplitTurns.{split_to, left_to, splits_none, now_slice, Spans, turn_at, turn_text, turn_one, turn_size, splits_grow, spans_at}

pub record Put (text₀ : List ℕ) (used r : ℕ) (cs fs : List ℕ) (text : List ℕ) (n end k : ℕ) : Type 0 where
  pub text-is : text ≡ renewed text₀ used (split_to (take used text₀) r cs fs k)
  pub n_is : n ≡ length (split_to (take used text₀) r cs fs k)
  pub end_is : end ≡ row_start is_lf (take used text₀) r + left_to (take used text₀) r cs k

abbrev pub Putting : List ℕ → ℕ → List ℕ → List ℕ → ℕ → ℕ → List ℕ → ℕ → ℕ → ℕ → Type 0
Putting text₀ used cs fs start end₀ text n end k = (r : ℕ) → Spans (take used text₀) r start end₀ → length (split is_lf is_space spaces (take used text₀) r cs fs).text ≤ length text₀ → Put text₀ used r cs fs text n end k

pub putting_none : (text cs fs : List ℕ) (used start end : ℕ) → used ≤ length text → Putting text used cs fs start end text used end (length cs)
unfolding least
putting_none text cs fs used start end h r s room =
    let t = take used text in
    let z : split_to t r cs fs (length cs) ≡ t = splits_none t r s.within cs fs in
    record {
      text-is = rw z (renewed-same text used h);
      n_is = sym (ap length z ∙ length-take-le used text h);
      end_is = rw (drop-length cs) s.ends;
    }

module _ (text₀ : List ℕ) (used : ℕ) (cs fs : List ℕ) (start end₀ : ℕ) (text : List ℕ) (n end : ℕ) where
  module _ (r : ℕ) (s : Spans (take used text₀) r start end₀) (j : ℕ) (p : Put text₀ used r cs fs text n end (suc j)) (l : j < length cs) (f : ℕ) (ef : f ≡ get_or fs j 0) (y : SplitTurn) (e : y ≡ split_turn (take n text) start end (get_or cs j 0) f) where
    abbrev t₀ : List ℕ
    t₀ = take used text₀

    abbrev before : List ℕ
    before = split_to t₀ r cs fs (suc j)

    put-now : take n text ≡ before
    put-now = rw (p.text-is, p.n_is) (renewed-text text₀ used before)

    put-slice : slice (row_start is_lf t₀ r) (row_start is_lf t₀ r + left_to t₀ r cs (suc j)) before ≡ take (left_to t₀ r cs (suc j)) (row_of t₀ r).body
    put-slice = now_slice t₀ r s.within (drop (suc j) cs) (drop (suc j) fs)

    put-turn : y ≡ split_turn before (row_start is_lf t₀ r) (row_start is_lf t₀ r + left_to t₀ r cs (suc j)) (get_or cs j 0) (get_or fs j 0)
    put-turn =
        let b : start ≡ row_start is_lf t₀ r = s.begins in
        let d : end ≡ row_start is_lf t₀ r + left_to t₀ r cs (suc j) = p.end_is in
        e ∙ rw (put-now, b, d, ef)

    put-size : length (split_to t₀ r cs fs j) + y.gone ≡ n + 1
    put-size = omega (arith, turn_size t₀ r s.within cs fs j l before put-slice y put-turn, p.n_is)

    put_one : y.gone ≤ 1
    put_one = turn_one t₀ r s.within cs fs j l before put-slice y put-turn

    module _ (room : length (split is_lf is_space spaces t₀ r cs fs).text ≤ length text₀) where
      put-room : n + 1 ≤ length text₀ + y.gone
      put-room = omega (arith, put-size, splits_grow t₀ r s.within cs fs j (omega arith))

      put-more : used ≤ length text₀ → (text' : List ℕ) → text' ≡ replaced_in text n y.at.0 (y.at.0 + y.gone) (10 ∷ []) → Put text₀ used r cs fs text' (n + 1 - y.gone) y.at.0 j
      put-more h text' g = record {
        text-is = turned text₀ text text' used n y.at.0 (y.at.0 + y.gone) (10 ∷ []) before (split_to t₀ r cs fs j) p.text-is p.n_is
            (turn_text t₀ r s.within cs fs j l before put-slice y put-turn) g (omega (arith, put-size, put_one, p.n_is)) h (omega (arith, put-size, put-room));
        n_is = omega (arith, put-size, put_one);
        end_is = turn_at t₀ r s.within cs fs j l before put-slice y put-turn;
      }

  module _ (k : ℕ) (p : Putting text₀ used cs fs start end₀ text n end k) (h : 0 < k) (l : k ≤ length cs) (f : ℕ) (ef : f ≡ get_or fs (k - 1) 0) (y : SplitTurn) (e : y ≡ split_turn (take (n - 0) (drop 0 text)) start end (get_or cs (k - 1) 0) f) where
    lent-turn : y ≡ split_turn (take n text) start end (get_or cs (k - 1) 0) f
    lent-turn = e ∙ rw (front text n)

    put-at : (r : ℕ) → Put text₀ used r cs fs text n end k → Put text₀ used r cs fs text n end (suc (k - 1))
    put-at r q = let z : k ≡ suc (k - 1) = omega arith in subst (λ (i : ℕ). Put text₀ used r cs fs text n end i) z q

    pub putting_room : (g : Span) → g ≡ span is_lf (take used text₀) g.row.0 → start ≡ g.start.0 → end₀ ≡ g.end.0 → length (split is_lf is_space spaces (take used text₀) g.row.0 cs fs).text ≤ length text₀ → n + 1 ≤ length text₀ + y.gone
    putting_room g eg es ee room =
        let s : Spans (take used text₀) g.row.0 start end₀ = rw (es, ee) (spans_at (take used text₀) g eg) in
        put-room g.row.0 s (k - 1) (put-at g.row.0 (p g.row.0 s room)) (omega arith) f ef y lent-turn room

    pub putting_more : used ≤ length text₀ → (text' : List ℕ) → text' ≡ replaced_in text n y.at.0 (y.at.0 + y.gone) (10 ∷ []) → Putting text₀ used cs fs start end₀ text' (n + 1 - y.gone) y.at.0 (k - 1)
    putting_more u text' g r s room = put-more r s (k - 1) (put-at r (p r s room)) (omega arith) f ef y lent-turn room u text' g

pub putting_all : (text₀ : List ℕ) (used : ℕ) (cs fs text : List ℕ) (n end k : ℕ) (g : Span) → g ≡ span is_lf (take used text₀) g.row.0 → Putting text₀ used cs fs g.start.0 g.end.0 text n end k
    → length (split is_lf is_space spaces (take used text₀) g.row.0 cs fs).text ≤ length text₀ → k ≡ 0 → text ≡ renewed text₀ used (split is_lf is_space spaces (take used text₀) g.row.0 cs fs).text
putting_all text₀ used cs fs text n end k g e p room z =
    (subst (λ (i : ℕ). Put text₀ used g.row.0 cs fs text n end i) z (p g.row.0 (spans_at (take used text₀) g e) room)).text-is
