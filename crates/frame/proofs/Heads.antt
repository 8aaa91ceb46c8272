-- What a line's form is, by its head.
use mathlib.Core.Path.{◌≡◌, refl, ap, subst}
use mathlib.Core.Bool.{Bool, true, false, cond, ◌&&◌}
use mathlib.Core.List.{List, [], ◌∷◌}
use Prim.Native.Nat.{ℕ, suc, ◌-◌, ◌%◌, ◌≤◌}
use native.Mathlib.Omega.{arith}
use borrow.Author.Tests.{leb-true, eqb-true}
use lib.Dec.{leb, eqb}
use lib.ListN.{length, drop, get_or, length-drop}
use Rattle.promise.proofs.Bools.{both}
use Rattle.text.specs.declared.Position.{Position}
use Rattle.text.specs.Text.{all}
use Rattle.edit.specs.declared.Edit.{Edit}
use Rattle.edit.specs.declared.Edit.TheVariants.{InsertChar, InsertStr, DeleteRange, JoinLines, SplitLines, Replace, InsertBlock, DeleteBlockChunks}
use Rattle.select.specs.declared.Sel.{Sel}
use Rattle.frame.specs.declared.Head.{Head}
use Rattle.frame.specs.Numbers.{position_in}
use Rattle.frame.specs.Forms.{Form, malformed, text, mark, edit, plain, Cut, broken, cut, mark_form, insert_form, kind_form, delete_form, join_form, columns_in, flags_in, flagged, split_form, replace_form, strings_in, block_of, block_form, widths_in, pads_in, chunks_form, form_by, form_of, head_of}
use Rattle.frame.specs.declared.Head.TheVariants as as_head

-- what a form f of the bytes b is, and how many bytes there are, where the head is the one given
abbrev pub Said : List ℕ → Form → Head → Type 0
Said b f as_head.Malformed = f ≡ malformed
Said b f as_head.Text = (1 ≤ length b) × (f ≡ text (drop 1 b))
Said b f (as_head.Mark m) = f ≡ mark m
Said b f (as_head.Edit (InsertChar p)) = ⊥
Said b f (as_head.Edit (InsertStr p)) = (9 ≤ length b) × (f ≡ edit (InsertStr p) 9 (drop 9 b ∷ []) [] [])
Said b f (as_head.Edit (DeleteRange p q k)) = f ≡ plain (DeleteRange p q k)
Said b f (as_head.Edit (JoinLines r n s)) = f ≡ plain (JoinLines r n s)
Said b f (as_head.Edit (SplitLines r)) = (5 ≤ length b) × (length (drop 5 b) % 5 ≡ 0) × (f ≡ edit (SplitLines r) 0 [] (columns_in (drop 5 b)) (flags_in (drop 5 b)))
Said b f (as_head.Edit (Replace p q)) = (17 ≤ length b) × (f ≡ edit (Replace p q) 17 (drop 17 b ∷ []) [] [])
Said b f (as_head.Edit (InsertBlock p)) = (9 ≤ length b) × (ks : List (List ℕ)) × (strings_in (drop 9 b) ≡ cut ks) × (f ≡ edit (InsertBlock p) 13 ks [] [])
Said b f (as_head.Edit (DeleteBlockChunks p)) =
    (9 ≤ length b) × (length (drop 9 b) % 8 ≡ 0) × (f ≡ edit (DeleteBlockChunks p) 0 [] (widths_in (drop 9 b)) (pads_in (drop 9 b)))

abbrev Told : List ℕ → Form → Type 0
Told b f = Said b f (head_of f)

by_test : (b : List ℕ) (t : Bool) (f g : Form) → (t ≡ true → Told b f) → Told b g → Told b (cond t f g)
by_test b true f g y n = y refl
by_test b false f g y n = n

none : (b : List ℕ) → Told b malformed
unfolding head_of
none b = refl

told_mark_lem : (b : List ℕ) → Told b (mark_form b)
unfolding mark_form head_of
told_mark_lem b = by_test b (eqb (length b) 17) _ malformed (λ e. refl) (none b)

told_insert : (b : List ℕ) → Told b (insert_form b)
unfolding insert_form head_of
told_insert b = by_test b (leb 9 (length b)) _ malformed (λ e. (leb-true 9 (length b) e, refl)) (none b)

told_kind : (b : List ℕ) (k : ℕ) (p q : Position) → Told b (kind_form k p q)
unfolding kind_form head_of
told_kind b k p q =
    by_test b (eqb k 0) _ _ (λ e. refl) (by_test b (eqb k 1) _ _ (λ e. refl) (by_test b (eqb k 2) _ malformed (λ e. refl) (none b)))

told_delete : (b : List ℕ) → Told b (delete_form b)
unfolding delete_form
told_delete b = by_test b (eqb (length b) 18) _ malformed (λ e. told_kind b (get_or b 1 0) (position_in b 2) (position_in b 10)) (none b)

told_join : (b : List ℕ) → Told b (join_form b)
unfolding join_form head_of
told_join b = by_test b (eqb (length b) 10 && leb (get_or b 9 0) 1) _ malformed (λ e. refl) (none b)

told_split : (b : List ℕ) → Told b (split_form b)
unfolding split_form flagged head_of
told_split b =
    by_test b (leb 5 (length b) && flagged (drop 5 b)) _ malformed
    (λ e. let w = both (leb 5 (length b)) (flagged (drop 5 b)) e in
    let m = both (eqb (length (drop 5 b) % 5) 0) (all (λ x. leb x 1) (flags_in (drop 5 b))) w.1 in
    (leb-true 5 (length b) w.0, eqb-true (length (drop 5 b) % 5) 0 m.0, refl))
    (none b)

told_replace : (b : List ℕ) → Told b (replace_form b)
unfolding replace_form head_of
told_replace b = by_test b (leb 17 (length b)) _ malformed (λ e. (leb-true 17 (length b) e, refl)) (none b)

told_blocks : (b : List ℕ) (p : Position) (c : Cut) → strings_in (drop 9 b) ≡ c → 9 ≤ length b → Told b (block_of p c)
unfolding block_of head_of
told_blocks b p broken e h = refl
told_blocks b p (cut ks) e h = (h, ks, e, refl)

told_block : (b : List ℕ) → Told b (block_form b)
unfolding block_form
told_block b =
    by_test b (leb 9 (length b)) _ malformed (λ e. told_blocks b (position_in b 1) (strings_in (drop 9 b)) refl (leb-true 9 (length b) e)) (none b)

told_chunks : (b : List ℕ) → Told b (chunks_form b)
unfolding chunks_form head_of
told_chunks b =
    by_test b (leb 9 (length b) && eqb ((length b - 9) % 8) 0) _ malformed
    (λ e. let w = both (leb 9 (length b)) (eqb ((length b - 9) % 8) 0) e in
    let m : length (drop 9 b) % 8 ≡ 0 = rw length-drop (eqb-true ((length b - 9) % 8) 0 w.1) in
    (leb-true 9 (length b) w.0, m, refl))
    (none b)

-- a first byte is there
first_there : (b : List ℕ) (k : ℕ) → eqb (get_or b 0 0) (suc k) ≡ true → 1 ≤ length b
first_there [] k e = let z : 0 ≡ suc k = eqb-true 0 (suc k) e in absurd (omega arith)
first_there (x ∷ b) k e = omega arith

told : (b : List ℕ) → Told b (form_of b)
unfolding form_by head_of
told b =
    let k = get_or b 0 0 in
    by_test b (eqb k 0x01) _ _ (λ e. (first_there b 0 e, refl))
    (by_test b (eqb k 0x02) _ _ (λ e. told_mark_lem b)
    (by_test b (eqb k 0x10) _ _ (λ e. told_insert b)
    (by_test b (eqb k 0x11) _ _ (λ e. told_delete b)
    (by_test b (eqb k 0x12) _ _ (λ e. told_join b)
    (by_test b (eqb k 0x13) _ _ (λ e. told_split b)
    (by_test b (eqb k 0x14) _ _ (λ e. told_replace b)
    (by_test b (eqb k 0x15) _ _ (λ e. told_block b)
    (by_test b (eqb k 0x16) _ malformed (λ e. told_chunks b) (none b)))))))))

-- the form of bytes by their head
pub form_by-head : (b : List ℕ) (h : Head) → head_of (form_of b) ≡ h → Said b (form_of b) h
form_by-head b h e = subst (Said b (form_of b)) e (told b)

-- the form that has the head of a malformed line, and of a mark
pub malformed_by_head : (g : Form) → head_of g ≡ as_head.Malformed → g ≡ malformed
unfolding head_of
malformed_by_head malformed e = refl
malformed_by_head (text s) e = let z : ◌≡◌ {A = ℕ} 0 1 = cc in absurd (omega arith)
malformed_by_head (mark m) e = let z : ◌≡◌ {A = ℕ} 0 1 = cc in absurd (omega arith)
malformed_by_head (edit d at ks f s) e = let z : ◌≡◌ {A = ℕ} 0 1 = cc in absurd (omega arith)

pub mark_by_head : (g : Form) (k : Sel) → head_of g ≡ as_head.Mark k → g ≡ mark k
unfolding head_of
mark_by_head malformed k e = let z : ◌≡◌ {A = ℕ} 0 1 = cc in absurd (omega arith)
mark_by_head (text s) k e = let z : ◌≡◌ {A = ℕ} 0 1 = cc in absurd (omega arith)
mark_by_head (mark m) k e = let q : m ≡ k = cc in ap mark q
mark_by_head (edit d at ks f s) k e = let z : ◌≡◌ {A = ℕ} 0 1 = cc in absurd (omega arith)
