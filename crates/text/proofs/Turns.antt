-- A text after one of its rows changed: the other rows are as they were.
use mathlib.Core.Path.{◌≡◌, sym, ◌∙◌, ap}
use mathlib.Core.List.{List, [], ◌∷◌, ◌++◌, append_assoc, append-nil}
use Prim.Native.Nat.{ℕ, suc, ◌+◌, ◌≤◌}
use native.Mathlib.Omega.{arith}
use lib.ListN.{length, take, drop, length-append}
use lib.Seq.{append_snoc, take_at, drop_at, take-append-le, drop-append-le, length-take-le}
use Rattle.text.specs.Rows.{Line, line, lines, unlines, row_count, last_row, row_len, row_start, spliced}
use Rattle.text.specs.Text.{is_lf}
use Rattle.text.proofs.Alls.{all_append, all_take, all_drop}
use Rattle.text.proofs.Broken.{first_unbroken, first_body}
use Rattle.text.proofs.Ended.{not_lf, Plain}
use Rattle.text.proofs.Changes.{row_of, row_exists, rows-around, rows-changed, rows-below, row_splice}

pub plain-spliced : (t x : List ℕ) (a e : ℕ) → Plain t → Plain x → Plain (spliced t a e x)
plain-spliced t x a e p q = all_append not_lf (take a t) (x ++ drop e t) (all_take not_lf a t p) (all_append not_lf x (drop e t) q (all_drop not_lf e t p))

-- row r of t, spliced, in its place
module _ (t : List ℕ) (r a e : ℕ) (x : List ℕ) where
  abbrev pub new_row : Line ℕ
  new_row = line (spliced (row_of t r).body a e x) (row_of t r).after

  abbrev pub Turned : List ℕ → Type 0
  Turned u = u ≡ spliced t (row_start is_lf t r + a) (row_start is_lf t r + e) x

module _ (t : List ℕ) (r a e : ℕ) (x : List ℕ) (h : r ≤ last_row is_lf t) (ha : a ≤ row_len is_lf t r) (he : e ≤ row_len is_lf t r) (p : Plain x) (u : List ℕ) (q : Turned t r a e x u) where
  pub row_plain : Plain (row_of t r).body
  row_plain = first_unbroken is_lf (rows-below t r h)

  turned_text : u ≡ unlines (take r (lines is_lf t) ++ new_row t r a e x ∷ drop (suc r) (lines is_lf t))
  unfolding row_len unlines
  turned_text =
      let b : List ℕ = (row_of t r).body in
      let z : List ℕ = (row_of t r).after in
      let ta : take a (b ++ z) ≡ take a b = take-append-le a b z ha in
      let de : drop e (b ++ z) ≡ drop e b ++ z = drop-append-le e b z he in
      let n : spliced b a e x ++ (z ++ []) ≡ spliced (b ++ z) a e x = rw (ta, de) (simp (append_assoc, append-nil)) in
      q ∙ sym (row_splice t r h (new_row t r a e x ∷ []) a e x (omega (arith, length-append b z)) (omega (arith, length-append b z)) n)

  pub lines-turned : lines is_lf u ≡ take r (lines is_lf t) ++ new_row t r a e x ∷ drop (suc r) (lines is_lf t)
  lines-turned =
      ap (lines is_lf) turned_text ∙ rows-changed t r h (new_row t r a e x ∷ drop (suc r) (lines is_lf t)) (first_body is_lf (spliced (row_of t r).body a e x) (plain-spliced (row_of t r).body x a e row_plain p) (rows-below t r h))

  above_long : length (take r (lines is_lf t) ++ new_row t r a e x ∷ []) ≡ suc r
  above_long = omega (arith, length-append (take r (lines is_lf t)) (new_row t r a e x ∷ []), length-take-le r (lines is_lf t) (omega (arith, row_exists t r h)))

  above_turned : take (suc r) (lines is_lf u) ≡ take r (lines is_lf t) ++ new_row t r a e x ∷ []
  above_turned =
      rw (lines-turned, ← append_snoc (take r (lines is_lf t)) (new_row t r a e x) (drop (suc r) (lines is_lf t)))
      (take_at (take r (lines is_lf t) ++ new_row t r a e x ∷ []) (drop (suc r) (lines is_lf t)) (suc r) above_long)

  pub below_turned : drop (suc r) (lines is_lf u) ≡ drop (suc r) (lines is_lf t)
  below_turned =
      rw (lines-turned, ← append_snoc (take r (lines is_lf t)) (new_row t r a e x) (drop (suc r) (lines is_lf t)))
      (drop_at (take r (lines is_lf t) ++ new_row t r a e x ∷ []) (drop (suc r) (lines is_lf t)) (suc r) above_long)

  pub count_turned : row_count is_lf u ≡ row_count is_lf t
  unfolding row_count
  count_turned =
      ap length lines-turned ∙ length-append (take r (lines is_lf t)) (new_row t r a e x ∷ drop (suc r) (lines is_lf t))
      ∙ sym (ap length (rows-around t r h) ∙ length-append (take r (lines is_lf t)) (row_of t r ∷ drop (suc r) (lines is_lf t)))

  -- rows changed from the next on are rows changed from this one on
  pub from_turned : (new : List (Line ℕ)) → unlines (take (suc r) (lines is_lf u) ++ new) ≡ unlines (take r (lines is_lf t) ++ new_row t r a e x ∷ new)
  from_turned new = rw (above_turned, append_snoc (take r (lines is_lf t)) (new_row t r a e x) new)
