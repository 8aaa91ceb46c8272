-- The k-th join of row r of the text t.
use mathlib.Core.Path.{◌≡◌, refl, sym, ap, ◌∙◌}
use mathlib.Core.Bool.{Bool}
use mathlib.Core.List.{List, [], ◌∷◌, ◌++◌}
use mathlib.Core.Logic.{◌⊎◌, inl, inr}
use Prim.Native.Nat.{ℕ, zero, suc, ◌+◌, ◌-◌, ◌≤◌, ◌<◌, min, max}
use native.Mathlib.Omega.{arith}
use lib.ListN.{length, take, drop, get_or, length-append, length-take, length-drop, drop_of_length-le}
use lib.Seq.{take-suc, drop-cons, get_or-drop, take_all, length-take-le}
use Rattle.text.specs.Rows.{Line, line, lines, unlines, row_count, last_row, row_len, row_start, row_end, spliced}
use Rattle.text.specs.Text.{is_lf}
use Rattle.text.proofs.Laws.{unlines-lines, len_le}
use Rattle.text.proofs.Ended.{Ended}
use Rattle.text.proofs.Changes.{row_of, row_from, rows-around, rows-below}
use Rattle.edit.specs.Edits.{gap, join_next, join_row, joined}
use Rattle.edit.specs.Refusals.{is_space, spaces}
use Rattle.edit.proofs.Joins.{join-broken, join_cols-length, join_flags-length, join_row-snoc, join_cols-snoc, join_flags-snoc}
use Rattle.joins.specs.declared.JoinTurn.{JoinTurn}
use Rattle.joins.specs.Turns.{gap_len, join_turn, joins}
use Rattle.text.proofs.Texts.{front}
use Rattle.joins.proofs.Splices.{replaced_in}
use Rattle.joins.proofs.JoinRows.{gap-one, gap_length, next_len, lf_within, join-spliced}

-- the rows below row r
abbrev pub below_of : List ℕ → ℕ → List (Line ℕ)
below_of t r = drop (suc r) (lines is_lf t)

-- row r after k joins
abbrev pub row_to : List ℕ → ℕ → Bool → ℕ → Line ℕ
row_to t r b k = join_row 32 b (row_of t r) (take k (below_of t r))

-- what ended row k of row r and those below, in the text at first
abbrev pub after_of : List ℕ → ℕ → ℕ → List ℕ
after_of t r k = (get_or (row_of t r ∷ below_of t r) k (line [] [])).after

pub row_at : (t : List ℕ) (r k : ℕ) → r ≤ last_row is_lf t → get_or (row_of t r ∷ below_of t r) k (line [] []) ≡ row_of t (r + k)
row_at t r k h = rw (← row_from t r h) (get_or-drop r (lines is_lf t) k (line [] []))

pub below_count : (t : List ℕ) (r : ℕ) → length (below_of t r) ≡ last_row is_lf t - r
unfolding last_row row_count
below_count t r = rw (length-drop (suc r) (lines is_lf t)) (omega arith)

-- ---- a turn

-- the k-th join: the LF that it takes the place of, the row behind that, and what it leaves
pub record Turn (t : List ℕ) (r : ℕ) (b : Bool) (k : ℕ) : Type 0 where
  pub within : row_start is_lf t r + length (row_to t r b k).body + 1 ≤ length (joins t r b k).text
  pub len : row_len is_lf (drop (row_start is_lf t r + length (row_to t r b k).body + 1) (joins t r b k).text) 0 ≡ length (get_or (below_of t r) k (line [] [])).body
  pub text : (joins t r b (suc k)).text ≡ spliced (joins t r b k).text (row_start is_lf t r + length (row_to t r b k).body) (row_start is_lf t r + length (row_to t r b k).body + 1) (gap 32 b (row_to t r b k).body (get_or (below_of t r) k (line [] [])).body)
  pub row : row_to t r b (suc k) ≡ join_next 32 b (row_to t r b k) (get_or (below_of t r) k (line [] []))
  pub cols : (joins t r b (suc k)).inverse.first ≡ (joins t r b k).inverse.first ++ (length (row_to t r b k).body ∷ [])
  pub flags : (joins t r b (suc k)).inverse.second ≡ (joins t r b k).inverse.second ++ (length (gap 32 b (row_to t r b k).body (get_or (below_of t r) k (line [] [])).body) ∷ [])

module _ (t : List ℕ) (r : ℕ) (h : r ≤ last_row is_lf t) (b : Bool) (k : ℕ) (l : k < length (below_of t r)) where
  abbrev y : Line ℕ
  y = get_or (below_of t r) k (line [] [])

  below_cons : drop k (below_of t r) ≡ y ∷ drop (suc k) (below_of t r)
  below_cons = drop-cons (below_of t r) k (line [] []) l

  below_snoc : take (suc k) (below_of t r) ≡ take k (below_of t r) ++ (y ∷ [])
  below_snoc = take-suc (below_of t r) k (line [] []) l

  ended_now : Ended (row_to t r b k ∷ y ∷ drop (suc k) (below_of t r))
  ended_now = rw (← below_cons) (join-broken is_lf 32 tt b k (row_of t r) (below_of t r) (rows-below t r h))

  row_next : row_to t r b (suc k) ≡ join_next 32 b (row_to t r b k) y
  row_next = rw below_snoc (join_row-snoc b y (row_of t r) (take k (below_of t r)))

  pub turn : Turn t r b k
  unfolding joins row_start
  turn =
      let A = take r (lines is_lf t) in
      let z = row_to t r b k in
      let C = drop (suc k) (below_of t r) in
      record {
        within = rw below_cons (lf_within A z y C ended_now);
        len = rw below_cons (next_len A z y C ended_now);
        text = rw (row_next, below_cons) (join-spliced A z y C ended_now (gap 32 b z.body y.body));
        row = row_next;
        cols = rw below_snoc (join_cols-snoc b y (row_of t r) (take k (below_of t r)));
        flags = rw below_snoc (join_flags-snoc b y (row_of t r) (take k (below_of t r)));
      }

  -- a join takes the place of an LF
  pub turn_size : length (joins t r b (suc k)).text + 1 ≡ length (joins t r b k).text + length (gap 32 b (row_to t r b k).body y.body)
  turn_size =
      let u = (joins t r b k).text in
      let e = row_start is_lf t r + length (row_to t r b k).body in
      let w = turn.within in
      rw turn.text (simp (length-append, length-take, length-drop) (omega arith))

  pub row_size : length (row_to t r b (suc k)).body ≡ length (row_to t r b k).body + (length (gap 32 b (row_to t r b k).body y.body) + length y.body)
  row_size = rw turn.row (simp length-append)

  pub turn_gap : (j : JoinTurn) (left : ℕ) → left ≡ length (row_to t r b k).body → j.len ≡ length y.body → j.gap ≡ gap_len b left j.len → j.gap ≡ length (gap 32 b (row_to t r b k).body y.body)
  turn_gap j left e l g = g ∙ rw (l, e) (sym (gap_length 32 b (row_to t r b k).body y.body))

-- a text and a space as they are lent
pub turn_lent : (text : List ℕ) (n e left : ℕ) (b : Bool) (j : JoinTurn) → j ≡ join_turn (take (n - 0) (drop 0 text)) e left b → j ≡ join_turn (take n text) e left b
turn_lent text n e left b j q = q ∙ rw (front text n)

pub space_lent : (t : List ℕ) (n a e g : ℕ) (u : List ℕ) → u ≡ replaced_in t n a e (take (g - 0) (drop 0 (32 ∷ []))) → u ≡ replaced_in t n a e (take g (32 ∷ []))
space_lent t n a e g u q = q ∙ rw (front (32 ∷ []) g)

-- what a turn finds is no longer than what is left
pub turn_small : (t : List ℕ) (e left : ℕ) (b : Bool) (j : JoinTurn) → j ≡ join_turn t e left b → (j.gap ≤ 1) × (j.len ≤ length t - (e + 1))
turn_small t e left b j q =
    let n : ℕ = row_len is_lf (drop (e + 1) t) 0 in
    let g : j.gap ≡ gap_len b left n = ap (λ (j : JoinTurn). j.gap) q in
    let l : j.len ≡ n = ap (λ (j : JoinTurn). j.len) q in
    (omega (arith, gap-one b left n), omega (arith, len_le is_lf (drop (e + 1) t) 0, length-drop (e + 1) t))

pub joins-none : (t : List ℕ) (r : ℕ) (b : Bool) → r ≤ last_row is_lf t → (joins t r b 0).text ≡ t
unfolding joins join_row
joins-none t r b h = ap unlines (sym (rows-around t r h)) ∙ unlines-lines is_lf t

-- joins make no text longer
pub joins-small : (t : List ℕ) (r : ℕ) (b : Bool) (k : ℕ) → r ≤ last_row is_lf t → k ≤ length (below_of t r) → length (joins t r b k).text ≤ length t
joins-small t r b zero h l = omega (arith, ap length (joins-none t r b h))
joins-small t r b (suc k) h l =
    let y = get_or (below_of t r) k (line [] []) in
    let z = row_to t r b k in
    omega (arith, joins-small t r b k h (omega arith), turn_size t r h b k l, gap_length 32 b z.body y.body, gap-one b (length z.body) (length y.body))

-- row r begins the walk
pub record Starts (t : List ℕ) (r end len : ℕ) : Type 0 where
  pub within : r ≤ last_row is_lf t
  pub ends : end ≡ row_end is_lf t r
  pub long : len ≡ row_len is_lf t r

-- ---- as many joins as there are rows for, or as are asked for

pub joins-same : (t : List ℕ) (r : ℕ) (b : Bool) (k m : ℕ) → k ≤ length (below_of t r) → k ≤ m → (length (below_of t r) ≤ k) ⊎ (m ≤ k) → joins t r b k ≡ joins t r b m
unfolding joins
joins-same t r b k m h l (inr e) = let z : k ≡ m = omega arith in rw z
joins-same t r b k m h l (inl e) =
    let B = below_of t r in
    let tk : take k B ≡ B = take_all k B e in
    let tm : take m B ≡ B = take_all m B (omega arith) in
    let dk : drop k B ≡ [] = drop_of_length-le B e in
    let dm : drop m B ≡ [] = drop_of_length-le B {i = m} (omega arith) in
    rw (tk, tm, dk, dm)

pub joined-joins : (t : List ℕ) (r : ℕ) (count : ℕ) (b : Bool) → r ≤ last_row is_lf t → joined is_lf is_space spaces t r count b ≡ joins t r b (max count 1)
unfolding joined joins
joined-joins t r count b h = let m : min r (last_row is_lf t) ≡ r = omega arith in rw m

pub joins-cols : (t : List ℕ) (r : ℕ) (b : Bool) (k : ℕ) → k ≤ length (below_of t r) → length (joins t r b k).inverse.first ≡ k
unfolding joins
joins-cols t r b k h = join_cols-length b (row_of t r) (take k (below_of t r)) ∙ length-take-le k (below_of t r) h

pub joins-flags : (t : List ℕ) (r : ℕ) (b : Bool) (k : ℕ) → k ≤ length (below_of t r) → length (joins t r b k).inverse.second ≡ k
unfolding joins
joins-flags t r b k h = join_flags-length b (row_of t r) (take k (below_of t r)) ∙ length-take-le k (below_of t r) h

pub joins-payload : (t : List ℕ) (r : ℕ) (b : Bool) (k : ℕ) → length (joins t r b k).inverse.payload ≡ 0
unfolding joins
joins-payload t r b k = refl
