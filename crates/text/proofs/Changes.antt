-- A text around one of its rows, and a change of that row as a splice of the text.
use mathlib.Core.Path.{◌≡◌, sym, ◌∙◌, ap}
use mathlib.Core.List.{List, [], ◌∷◌, ◌++◌, append_assoc}
use Prim.Native.Nat.{ℕ, suc, ◌+◌, ◌≤◌, ◌<◌}
use native.Mathlib.Omega.{arith}
use lib.ListN.{length, take, drop, get_or, take-append-drop}
use lib.Seq.{drop-cons, take-append-le, drop-append-le, take-append-add, drop-append-add}
use Rattle.text.specs.Rows.{Line, line, lines, unlines, row_count, last_row, row_start, spliced}
use Rattle.text.specs.Text.{is_lf}
use Rattle.text.proofs.Laws.{unlines-lines, count_last}
use Rattle.text.proofs.Broken.{lines-broken, lines-unlines, unlines-append, broken_right, broken_change}
use Rattle.text.proofs.Ended.{Ended}

abbrev pub row_of : List ℕ → ℕ → Line ℕ
row_of t r = get_or (lines is_lf t) r (line [] [])

-- a row with what ends it
abbrev pub whole_row : Line ℕ → List ℕ
whole_row x = x.body ++ x.after

module _ (t : List ℕ) (r : ℕ) (h : r ≤ last_row is_lf t) where
  pub row_exists : r < length (lines is_lf t)
  unfolding row_count
  row_exists = omega (arith, count_last is_lf t)

  pub row_from : drop r (lines is_lf t) ≡ row_of t r ∷ drop (suc r) (lines is_lf t)
  row_from = drop-cons (lines is_lf t) r (line [] []) row_exists

  pub rows-around : lines is_lf t ≡ take r (lines is_lf t) ++ row_of t r ∷ drop (suc r) (lines is_lf t)
  rows-around = sym (take-append-drop r (lines is_lf t)) ∙ ap (λ (l : List (Line ℕ)). take r (lines is_lf t) ++ l) row_from

  -- the rows from r on replaced by others, with what ends them as a text has it
  pub rows-changed : (new : List (Line ℕ)) → Ended new → lines is_lf (unlines (take r (lines is_lf t) ++ new)) ≡ take r (lines is_lf t) ++ new
  rows-changed new k =
      let e : Ended (take r (lines is_lf t) ++ row_of t r ∷ drop (suc r) (lines is_lf t)) = rw (← rows-around) (lines-broken is_lf t) in
      lines-unlines is_lf (broken_change is_lf (take r (lines is_lf t)) (row_of t r) (drop (suc r) (lines is_lf t)) new e k)

  pub rows-below : Ended (row_of t r ∷ drop (suc r) (lines is_lf t))
  rows-below = broken_right is_lf (take r (lines is_lf t)) (row_of t r) (drop (suc r) (lines is_lf t)) (rw (← rows-around) (lines-broken is_lf t))

  pub text-around : t ≡ unlines (take r (lines is_lf t)) ++ (whole_row (row_of t r) ++ unlines (drop (suc r) (lines is_lf t)))
  unfolding unlines
  text-around =
      sym (unlines-lines is_lf t) ∙ ap unlines rows-around ∙ unlines-append (take r (lines is_lf t)) (row_of t r ∷ drop (suc r) (lines is_lf t))
      ∙ ap (λ (l : List ℕ). unlines (take r (lines is_lf t)) ++ l) (sym (append_assoc (row_of t r).body (row_of t r).after (unlines (drop (suc r) (lines is_lf t)))))

  -- rows N in place of row r, where their text is row r's after a splice
  pub row_splice : (N : List (Line ℕ)) (a e : ℕ) (x : List ℕ) → a ≤ length (whole_row (row_of t r)) → e ≤ length (whole_row (row_of t r))
      → unlines N ≡ spliced (whole_row (row_of t r)) a e x
      → unlines (take r (lines is_lf t) ++ (N ++ drop (suc r) (lines is_lf t))) ≡ spliced t (row_start is_lf t r + a) (row_start is_lf t r + e) x
  unfolding row_start
  row_splice N a e x ha he q =
      let A : List ℕ = unlines (take r (lines is_lf t)) in
      let w : List ℕ = whole_row (row_of t r) in
      let B : List ℕ = unlines (drop (suc r) (lines is_lf t)) in
      let p : take (length A + a) t ≡ A ++ take a w = ap (take (length A + a)) text-around ∙ take-append-add A (w ++ B) a ∙ ap (λ (l : List ℕ). A ++ l) (take-append-le a w B ha) in
      let s : drop (length A + e) t ≡ drop e w ++ B = ap (drop (length A + e)) text-around ∙ drop-append-add A (w ++ B) e ∙ drop-append-le e w B he in
      rw (unlines-append (take r (lines is_lf t)) (N ++ drop (suc r) (lines is_lf t)), unlines-append N (drop (suc r) (lines is_lf t)), q, p, s) (simp append_assoc)
