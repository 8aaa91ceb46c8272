-- Lines that are read, in their place.
use mathlib.Core.Path.{◌≡◌, refl, sym, ap, ◌∙◌}
use mathlib.Core.Bool.{Bool, true, false, cond, not, ◌&&◌}
use mathlib.Core.List.{List}
use mathlib.Core.Logic.{◌⊎◌, inl, inr, ⊎_elim}
use Prim.Native.Nat.{ℕ, ◌<◌}
use native.Mathlib.Omega.{arith}
use borrow.Author.Tests.{ltb-true}
use lib.Dec.{ltb}
use Rattle.promise.specs.Paper.{done}
use Rattle.promise.proofs.Bools.{both}
use Rattle.text.specs.Rows.{in_text}
use Rattle.text.specs.Text.{is_lf}
use Rattle.edit.specs.declared.Edit.{Edit}
use Rattle.edit.specs.Edits.{Whole}
use Rattle.select.specs.declared.Sel.{Sel}
use Rattle.frame.specs.declared.Head.{Head}
use Rattle.frame.specs.declared.Head.TheVariants as as_head
use Rattle.frame.specs.Format as format
use Rattle.frame.specs.Forms.{Form, malformed, text, mark, edit, head_of}
use Rattle.frame.specs.Reads.{Contents, chars, bad_from, text_of, edit_of, read_form}
use Rattle.place.specs.declared.Place.{Place}
use Rattle.place.specs.Places.{mark_limit, mark_ok, placed, seen}

-- a form that reads as a frame of one kind is of that kind
text-no_edit : (c : Contents) (w : Whole ℕ) → text_of c ≡ done (format.edit w) → ⊥
unfolding text_of
text-no_edit (chars xs) w e = let z : ◌≡◌ {A = ℕ} 0 1 = cc in omega arith
text-no_edit (bad_from k) w e = let z : ◌≡◌ {A = ℕ} 0 1 = cc in omega arith

edit_no_text : (e : Edit) (f s : List ℕ) (c : Contents) (cs : List ℕ) → edit_of e f s c ≡ done (format.text cs) → ⊥
unfolding edit_of
edit_no_text e f s (chars xs) cs h = let z : ◌≡◌ {A = ℕ} 0 1 = cc in omega arith
edit_no_text e f s (bad_from k) cs h = let z : ◌≡◌ {A = ℕ} 0 1 = cc in omega arith

mark_or : (b : Bool) (m : Sel) → (cond b (mark m) malformed ≡ mark m) ⊎ (cond b (mark m) malformed ≡ malformed)
mark_or true m = inl refl
mark_or false m = inr refl

text-or : (b : Bool) (s : List ℕ) → (cond b malformed (text s) ≡ text s) ⊎ (cond b malformed (text s) ≡ malformed)
text-or true s = inr refl
text-or false s = inl refl

mark_if : (b : Bool) (a m : Sel) → cond b (mark a) malformed ≡ mark m → b ≡ true
mark_if true a m e = refl
mark_if false a m e = let z : ◌≡◌ {A = ℕ} 0 1 = cc in absurd (omega arith)

module _ (p : Place) (t : List ℕ) where
  -- an edit is in its place anywhere
  pub edit_placed : (g : Form) (w : Whole ℕ) → read_form g ≡ done (format.edit w) → placed p t g ≡ g
  unfolding placed read_form
  edit_placed malformed w e = refl
  edit_placed (text s) w e = absurd (text-no_edit _ w e)
  edit_placed (mark m) w e = let z : ◌≡◌ {A = ℕ} 0 1 = cc in absurd (omega arith)
  edit_placed (edit d at ks f s) w e = refl

  -- a text before every sound line
  pub text-placed : (g : Form) (cs : List ℕ) → p.sound ≡ false → read_form g ≡ done (format.text cs) → placed p t g ≡ g
  unfolding placed read_form
  text-placed malformed cs n e = refl
  text-placed (text s) cs n e = rw n
  text-placed (mark m) cs n e = let z : ◌≡◌ {A = ℕ} 0 1 = cc in absurd (omega arith)
  text-placed (edit d at ks f s) cs n e = absurd (edit_no_text d f s _ cs e)

  -- a line is judged to be what it is, or malformed
  pub placed-or : (g : Form) → (placed p t g ≡ g) ⊎ (placed p t g ≡ malformed)
  unfolding placed
  placed-or malformed = inl refl
  placed-or (text s) = text-or p.sound s
  placed-or (mark m) = mark_or (mark_ok p t m) m
  placed-or (edit d at ks f s) = inl refl

  pub in_place : (g : Form) (h : Head) → head_of (placed p t g) ≡ h → (h ≡ as_head.Malformed → ⊥) → placed p t g ≡ g
  unfolding head_of
  in_place g h e n = ⊎_elim (λ q. q) (λ q. absurd (n (sym e ∙ ap head_of q))) (placed-or g)

  -- a mark that is in its place has room
  pub mark_few : (g : Form) (m : Sel) → placed p t g ≡ mark m → p.marks < mark_limit
  unfolding placed
  mark_few malformed m e = let z : ◌≡◌ {A = ℕ} 0 1 = cc in absurd (omega arith)
  mark_few (text s) m e =
      ⊎_elim (λ q. let z : ◌≡◌ {A = ℕ} 0 1 = cc in absurd (omega arith)) (λ q. let z : ◌≡◌ {A = ℕ} 0 1 = cc in absurd (omega arith)) (text-or p.sound s)
  mark_few (mark a) m e =
      let b = not p.edited in
      let c = ltb p.marks mark_limit in
      let d = in_text is_lf t a.anchor in
      let k = (both (b && c && d) (in_text is_lf t a.head) (mark_if (mark_ok p t a) a m e)).0 in
      ltb-true p.marks mark_limit (both b c (both (b && c) d k).0).1
  mark_few (edit d at ks f s) m e = let z : ◌≡◌ {A = ℕ} 0 1 = cc in absurd (omega arith)

-- an edit leaves the count of marks
pub edit_seen : (p : Place) (g : Form) (d : Edit) → head_of g ≡ as_head.Edit d → (seen p g).marks ≡ p.marks
unfolding head_of seen
edit_seen p malformed d e = let z : ◌≡◌ {A = ℕ} 0 1 = cc in absurd (omega arith)
edit_seen p (text s) d e = let z : ◌≡◌ {A = ℕ} 0 1 = cc in absurd (omega arith)
edit_seen p (mark m) d e = let z : ◌≡◌ {A = ℕ} 0 1 = cc in absurd (omega arith)
edit_seen p (edit b at ks f s) d e = refl
