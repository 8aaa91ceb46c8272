-- The box walk, character by character, is the rows one after another.
use mathlib.Core.Path.{◌≡◌, refl, ◌∙◌}
use mathlib.Core.Bool.{Bool, true, false, cond, not, ◌&&◌}
use mathlib.Core.List.{List, [], ◌∷◌}
use Prim.Native.Nat.{ℕ, suc, ◌+◌, ◌-◌, ◌≤◌, ◌<◌}
use native.Mathlib.Numerals.{add-one}
use borrow.Author.Tests.{leb-true, not-false, eq-eqb, ne_eqb, lt-ltb, le-ltb}
use lib.Dec.{ltb}
use lib.ListN.{length, take, drop, get_or, drop_of_length-le}
use Rattle.text.specs.Rows.{Line, line, lines, onto, at}
use Rattle.text.specs.Text.{is_lf, text_ok}
use Rattle.promise.specs.Paper.{Paper, done, refused}
use Rattle.edit.specs.Refusals.{small}
use Rattle.edit.specs.Call.{first_of}
use Rattle.cells.specs.Cells.{cell_after, first_outside_from}
use Rattle.fit.specs.Calls.{Fit, all_fit, leaves, row_or, first_over, fits_in}
use Rattle.text.proofs.Laws.{lines_cons}
use Rattle.text.proofs.Texts.{front}
use Rattle.promise.proofs.Bools.{both}
use Rattle.promise.proofs.Lists.{next}

module _ (cells tab : ℕ) where
  -- what is left of a text, at row r, after `cell` cells and c characters of it
  unfoldable pub walk : ℕ → ℕ → ℕ → List ℕ → Fit
  walk r cell c [] = all_fit
  walk r cell c (x ∷ t) =
      cond (is_lf x) (walk (suc r) 0 0 t) (cond (ltb cells (cell_after tab cell x)) (leaves (at r c)) (walk r (cell_after tab cell x) (suc c) t))

  -- the rows of t, when so much of the first is behind
  rest : ℕ → ℕ → ℕ → List (Line ℕ) → Fit
  rest r cell c [] = all_fit
  rest r cell c (l ∷ ls) = row_or r (first_outside_from cells tab cell c l.body) (first_over cells tab (suc r) ls)

  rest_none : (r : ℕ) (ls : List (Line ℕ)) → rest r 0 0 ls ≡ first_over cells tab r ls
  unfolding rest first_over
  rest_none r [] = refl
  rest_none r (l ∷ ls) = refl

  walked : (t : List ℕ) (r cell c : ℕ) → walk r cell c t ≡ rest r cell c (lines is_lf t)
  unfolding walk lines onto rest first_over first_outside_from row_or
  walked [] r cell c = refl
  walked (x ∷ t) r cell c = go (is_lf x) (ltb cells (cell_after tab cell x)) refl (lines is_lf t) (lines_cons is_lf t).2 (walked t (suc r) 0 0) (walked t r (cell_after tab cell x) (suc c))
    where
      go : (b d : Bool) → ltb cells (cell_after tab cell x) ≡ d → (l : List (Line ℕ)) → l ≡ (lines_cons is_lf t).0 ∷ (lines_cons is_lf t).1 → walk (suc r) 0 0 t ≡ rest (suc r) 0 0 l
          → walk r (cell_after tab cell x) (suc c) t ≡ rest r (cell_after tab cell x) (suc c) l
          → cond b (walk (suc r) 0 0 t) (cond d (leaves (at r c)) (walk r (cell_after tab cell x) (suc c) t)) ≡ rest r cell c (cond b (line [] (x ∷ []) ∷ l) (onto x l))
      go true d q l e ih k = ih ∙ rest_none (suc r) l
      go false d q [] e ih k = cc
      go false true q (y ∷ l) e ih k = rw q
      go false false q (y ∷ l) e ih k = rw q k

  pub walk_rows : (t : List ℕ) → walk 0 0 0 t ≡ first_over cells tab 0 (lines is_lf t)
  walk_rows t = walked t 0 0 0 ∙ rest_none 0 (lines is_lf t)

-- the walk at index i of a scan
module _ (cells tab r cell c : ℕ) (s : List ℕ) (i : ℕ) where
  pub walk_end : length s ≤ i → walk cells tab r cell c (drop i s) ≡ all_fit
  unfolding walk
  walk_end h = rw (drop_of_length-le s h)

  pub walk_lf : i < length s → get_or s i 0 ≡ 10 → walk cells tab r cell c (drop i s) ≡ walk cells tab (r + 1) 0 0 (drop (i + 1) s)
  unfolding walk
  walk_lf h e = rw (next s i h, eq-eqb (get_or s i 0) 10 e, add-one r)

  pub walk_out : i < length s → (get_or s i 0 ≡ 10 → ⊥) → cells < cell_after tab cell (get_or s i 0) → walk cells tab r cell c (drop i s) ≡ leaves (at r c)
  unfolding walk
  walk_out h e k = rw (next s i h, ne_eqb (get_or s i 0) 10 e, lt-ltb cells (cell_after tab cell (get_or s i 0)) k)

  pub walk_on : i < length s → (get_or s i 0 ≡ 10 → ⊥) → cell_after tab cell (get_or s i 0) ≤ cells
      → walk cells tab r cell c (drop i s) ≡ walk cells tab r (cell_after tab cell (get_or s i 0)) (c + 1) (drop (i + 1) s)
  unfolding walk
  walk_on h e k = rw (next s i h, ne_eqb (get_or s i 0) 10 e, le-ltb cells (cell_after tab cell (get_or s i 0)) k, add-one c)

-- a box and a tab that are not too big
pub box_small : (cells tab : ℕ) → not (small cells && small tab) ≡ false → (cells ≤ 1_000_000) × (tab ≤ 1_000_000)
box_small cells tab h =
    let b = both (small cells) (small tab) (not-false (small cells && small tab) h) in (leb-true cells 1_000_000 b.0, leb-true tab 1_000_000 b.1)

-- the whole call: refused by 1, refused by 2, or answered
module _ (buffer : List ℕ) (used cells tab : ℕ) (good : Bool) (e : good ≡ text_ok buffer used) where
  pub fit_no_text : not good ≡ true → refused 1 0 ≡ fits_in buffer used cells tab
  unfolding fits_in first_of
  fit_no_text h = rw (← e, h)

  pub fit_too_big : not good ≡ false → not (small cells && small tab) ≡ true → refused 2 0 ≡ fits_in buffer used cells tab
  unfolding fits_in first_of
  fit_too_big h k = rw (← e, h, k)

  pub fit_found : (x : Fit) → not good ≡ false → not (small cells && small tab) ≡ false
      → x ≡ first_over cells tab 0 (lines is_lf (take (used - 0) (drop 0 buffer))) → done x ≡ fits_in buffer used cells tab
  unfolding fits_in first_of
  fit_found x h k q = rw (← e, h, k, ← front buffer used, q)
