-- One join more, on the rows and on the flat text.
use mathlib.Core.Path.{◌≡◌, refl, ◌∙◌}
use mathlib.Core.Bool.{Bool, true, false, cond, ◌&&◌}
use lib.Dec.{ltb}
use mathlib.Core.List.{List, [], ◌∷◌, ◌++◌, append_assoc}
use Prim.Native.Nat.{ℕ, suc, ◌+◌, ◌-◌, ◌≤◌}
use native.Mathlib.Omega.{arith}
use borrow.Author.Tests.{lt-ltb}
use lib.ListN.{length, take, drop, length-append, length-drop}
use lib.Seq.{drop-append-add, take-append_seam, take_all}
use Rattle.text.specs.Rows.{Line, line, unlines, row_len, spliced}
use Rattle.text.specs.Text.{is_lf}
use Rattle.text.proofs.Broken.{unlines-append, first_len}
use Rattle.text.proofs.Ended.{Ended, ended_lf}
use Rattle.edit.specs.Edits.{gap}
use Rattle.joins.specs.Turns.{gap_len, join_turn}

-- ---- what comes between two rows, from their lengths

pub gap_length : {A : Type 0} (space : A) (b : Bool) (r s : List A) → length (gap space b r s) ≡ gap_len b (length r) (length s)
unfolding gap gap_len
gap_length space true (x ∷ r) (y ∷ s) = rw (lt-ltb 0 (suc (length r)) (omega arith), lt-ltb 0 (suc (length s)) (omega arith))
gap_length space true (x ∷ r) [] = rw (lt-ltb 0 (suc (length r)) (omega arith))
gap_length space true [] s = refl
gap_length space false r s = refl

pub gap-take : (b : Bool) (r s : List ℕ) → take (gap_len b (length r) (length s)) (32 ∷ []) ≡ gap 32 b r s
unfolding gap gap_len
gap-take true (x ∷ r) (y ∷ s) = rw (lt-ltb 0 (suc (length r)) (omega arith), lt-ltb 0 (suc (length s)) (omega arith))
gap-take true (x ∷ r) [] = rw (lt-ltb 0 (suc (length r)) (omega arith))
gap-take true [] s = refl
gap-take false r s = refl

pub gap-one : (b : Bool) (m n : ℕ) → gap_len b m n ≤ 1
unfolding gap_len
gap-one b m n = go (b && ltb 0 m && ltb 0 n)
  where
    go : (q : Bool) → cond q 1 0 ≤ 1
    go true = omega arith
    go false = omega arith

-- what a turn finds, from the length of the row behind the LF; the text from there on as it is lent
module _ (t : List ℕ) (e left len : ℕ) (b : Bool) (l : len ≡ row_len is_lf (take (length t - (e + 1)) (drop (e + 1) t)) 0) where
  turn_len : len ≡ row_len is_lf (drop (e + 1) t) 0
  turn_len = l ∙ rw (take_all (length t - (e + 1)) (drop (e + 1) t) (simp length-drop (omega arith)))

  pub turn_spaced : (b && ltb 0 left && ltb 0 len) ≡ true → record { gap = 1; len = len } ≡ join_turn t e left b
  unfolding gap_len
  turn_spaced q = rw (← turn_len, q)

  pub turn_bare : (b && ltb 0 left && ltb 0 len) ≡ false → record { gap = 0; len = len } ≡ join_turn t e left b
  unfolding gap_len
  turn_bare q = rw (← turn_len, q)

-- ---- a row z with y below it, behind the rows A

module _ (A : List (Line ℕ)) (z y : Line ℕ) (C : List (Line ℕ)) (h : Ended (z ∷ y ∷ C)) where
  abbrev front : List ℕ
  front = unlines A ++ z.body

  front_length : length front ≡ length (unlines A) + length z.body
  front_length = length-append (unlines A) z.body

  around : unlines (A ++ z ∷ y ∷ C) ≡ front ++ 10 ∷ unlines (y ∷ C)
  unfolding unlines
  around = rw (unlines-append A (z ∷ y ∷ C), (ended_lf h).0) (simp append_assoc)

  around_drop : drop (length (unlines A) + length z.body + 1) (unlines (A ++ z ∷ y ∷ C)) ≡ unlines (y ∷ C)
  around_drop = rw (around, ← front_length) (drop-append-add front (10 ∷ unlines (y ∷ C)) 1)

  around_take : take (length (unlines A) + length z.body) (unlines (A ++ z ∷ y ∷ C)) ≡ front
  around_take = rw (around, ← front_length) (take-append_seam front (10 ∷ unlines (y ∷ C)))

  pub lf_within : length (unlines A) + length z.body + 1 ≤ length (unlines (A ++ z ∷ y ∷ C))
  lf_within = rw around (omega (arith, front_length, length-append front (10 ∷ unlines (y ∷ C))))

  pub next_len : row_len is_lf (drop (length (unlines A) + length z.body + 1) (unlines (A ++ z ∷ y ∷ C))) 0 ≡ length y.body
  next_len = rw around_drop (first_len is_lf (ended_lf h).1)

  pub join-spliced : (g : List ℕ) → unlines (A ++ line (z.body ++ (g ++ y.body)) y.after ∷ C) ≡ spliced (unlines (A ++ z ∷ y ∷ C)) (length (unlines A) + length z.body) (length (unlines A) + length z.body + 1) g
  unfolding unlines
  join-spliced g = rw (around_take, around_drop, unlines-append A (line (z.body ++ (g ++ y.body)) y.after ∷ C)) (simp append_assoc)
