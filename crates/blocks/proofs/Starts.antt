-- Where the rows of a block start: each behind the row before, in the text as it then is.
use mathlib.Core.Path.{◌≡◌, sym, ◌∙◌, ap}
use mathlib.Core.List.{List, [], ◌∷◌, ◌++◌, append-nil}
use Prim.Native.Nat.{ℕ, suc, ◌+◌, ◌-◌, ◌≤◌, ◌<◌}
use native.Mathlib.Nat.{add-zero}
use native.Mathlib.Omega.{arith}
use lib.ListN.{length, take, drop, length-append, length-take, length-drop, take-append-drop}
use Rattle.promise.proofs.Lists.{tail_whole}
use Rattle.text.specs.Rows.{lines, unlines, row_count, last_row, row_len, row_start, row_end}
use Rattle.text.specs.Text.{is_lf, all}
use Rattle.text.proofs.Laws.{row_at, len_le, count_last}
use Rattle.text.proofs.Spots.{row_within}
use Rattle.text.proofs.Broken.{unlines-append}
use Rattle.text.proofs.Ended.{Plain, ended_at}
use Rattle.text.proofs.Changes.{row_of, rows-below}
use Rattle.text.proofs.Turns.{new_row, Turned, from_turned}

-- what a scan from s on finds
module _ (t : List ℕ) (s n : ℕ) (f : n ≡ row_len is_lf (take (length t - s) (drop s t)) 0) where
  pub scan_within : s ≤ length t → s + n ≤ length t
  scan_within h = omega (arith, f, len_le is_lf (take (length t - s) (drop s t)) 0, length-take (length t - s) (drop s t), length-drop s t)

  pub scan_row : (r : ℕ) → s ≡ row_start is_lf t r → n ≡ row_len is_lf t r
  scan_row r e = f ∙ rw (tail_whole t s, e) (row_at is_lf t r)

pub plain-none : Plain []
unfolding all
plain-none = tt

-- row r, spliced, and the start of the next
module _ (t : List ℕ) (r a e : ℕ) (x : List ℕ) (h : r < last_row is_lf t) (ha : a ≤ row_len is_lf t r) (he : e ≤ row_len is_lf t r) (p : Plain x) (u : List ℕ) (q : Turned t r a e x u) where
  there : r ≤ last_row is_lf t
  there = omega arith

  lf_behind : (row_of t r).after ≡ 10 ∷ []
  unfolding row_count
  lf_behind = (ended_at 0 (rows-below t r there) (omega (arith, length-drop (suc r) (lines is_lf t), count_last is_lf t))).0

  new_length : length (new_row t r a e x).body ≡ a + length x + (row_len is_lf t r - e)
  unfolding row_len
  new_length =
      let b = (row_of t r).body in
      omega (arith, length-append (take a b) (x ++ drop e b), length-append x (drop e b), length-take a b, length-drop e b)

  pub start-turned : row_start is_lf u (suc r) ≡ row_start is_lf t r + (a + length x + (row_len is_lf t r - e)) + 1
  unfolding row_start unlines
  start-turned =
      let A = take r (lines is_lf t) in
      let n = new_row t r a e x in
      let w : unlines (take (suc r) (lines is_lf u)) ≡ unlines (A ++ n ∷ []) = rw append-nil at (from_turned t r a e x there ha he p u q []) in
      omega (arith, ap length w, ap length (unlines-append A (n ∷ [])), length-append (unlines A) (unlines (n ∷ [])), length-append n.body (n.after ++ []), length-append n.after [], ap length lf_behind, new_length)

pub start-next : (t : List ℕ) (r : ℕ) → r < last_row is_lf t → row_start is_lf t (suc r) ≡ row_end is_lf t r + 1
start-next t r h =
    start-turned t r 0 0 [] h (omega arith) (omega arith) plain-none t (sym (take-append-drop (row_start is_lf t r + 0) t)) ∙ omega arith

-- ---- a loop over n rows from r on

pub row_there : (t : List ℕ) (r k n : ℕ) → k < n → n ≤ row_count is_lf t - r → r + k ≤ last_row is_lf t
row_there t r k n h l = omega (arith, count_last is_lf t)

-- it is at its k-th row, which starts at s
abbrev pub Begins : List ℕ → ℕ → ℕ → ℕ → ℕ → Type 0
Begins t r n k s = k < n → s ≡ row_start is_lf t (r + k)

pub begins-first : (t : List ℕ) (r n s : ℕ) → s ≡ row_start is_lf t r → Begins t r n 0 s
begins-first t r n s e m = e ∙ rw add-zero

-- the row ends at e
module _ (t : List ℕ) (r k e : ℕ) (q : e ≡ row_end is_lf t (r + k)) where
  pub end-within : e ≤ length t
  end-within = rw q (row_within is_lf t (r + k))

  pub begins-next : (n : ℕ) → n ≤ row_count is_lf t - r → Begins t r n (k + 1) (e + 1)
  begins-next n h m =
      let o : r + (k + 1) ≡ suc (r + k) = omega arith in
      rw (q, o) (sym (start-next t (r + k) (omega (arith, row_there t r (k + 1) n m h))))
