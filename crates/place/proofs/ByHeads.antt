-- What is seen and judged, by a form's head alone.
use mathlib.Core.Path.{◌≡◌, refl, sym, ap, ◌∙◌}
use mathlib.Core.Bool.{Bool, true, false, cond}
use mathlib.Core.List.{List}
use Prim.Native.Nat.{ℕ, ◌+◌}
use native.Mathlib.Numerals.{add-one}
use Rattle.select.specs.declared.Sel.{Sel}
use Rattle.frame.specs.declared.Head.{Head}
use Rattle.frame.specs.declared.Head.TheVariants as as_head
use Rattle.frame.specs.Forms.{Form, malformed, text, mark, edit, head_of}
use Rattle.place.specs.declared.Place.{Place}
use Rattle.place.specs.Places.{mark_ok, placed, seen}

abbrev seen_as : Place → Head → Place
seen_as p as_head.Malformed = p
seen_as p as_head.Text = record { sound = true; marks = p.marks; edited = p.edited }
seen_as p (as_head.Mark m) = record { sound = true; marks = p.marks + 1; edited = p.edited }
seen_as p (as_head.Edit e) = record { sound = true; marks = p.marks; edited = true }

seen_as_lem : (p : Place) (g : Form) → seen_as p (head_of g) ≡ seen p g
unfolding seen head_of
seen_as_lem p malformed = refl
seen_as_lem p (text s) = refl
seen_as_lem p (mark m) = rw add-one
seen_as_lem p (edit e at ks f s) = refl

-- h is the head that was matched, k what it is
pub seen-told : (p : Place) (h k : Head) → h ≡ k → (g : Form) → head_of g ≡ h → seen_as p k ≡ seen p g
seen-told p h k e g f = ap (seen_as p) (sym (f ∙ e)) ∙ seen_as_lem p g

abbrev placed_as : Place → List ℕ → Head → Head
placed_as p t as_head.Malformed = as_head.Malformed
placed_as p t as_head.Text = cond p.sound as_head.Malformed as_head.Text
placed_as p t (as_head.Mark m) = cond (mark_ok p t m) (as_head.Mark m) as_head.Malformed
placed_as p t (as_head.Edit e) = as_head.Edit e

text-as : (b : Bool) (s : List ℕ) → cond b as_head.Malformed as_head.Text ≡ head_of (cond b malformed (text s))
unfolding head_of
text-as true s = refl
text-as false s = refl

mark_as : (b : Bool) (m : Sel) → cond b (as_head.Mark m) as_head.Malformed ≡ head_of (cond b (mark m) malformed)
unfolding head_of
mark_as true m = refl
mark_as false m = refl

module _ (p : Place) (t : List ℕ) where
  placed-as : (g : Form) → placed_as p t (head_of g) ≡ head_of (placed p t g)
  unfolding placed head_of
  placed-as malformed = refl
  placed-as (text s) = text-as p.sound s
  placed-as (mark m) = mark_as (mark_ok p t m) m
  placed-as (edit e at ks f s) = refl

  -- h is the head that was matched
  module _ (g : Form) (h : Head) (r : h ≡ head_of g) where
    pub judged-told : (k : Head) → h ≡ k → placed_as p t k ≡ head_of (placed p t g)
    judged-told k e = ap (placed_as p t) (sym e ∙ r) ∙ placed-as g

    pub judged-late : h ≡ as_head.Text → p.sound ≡ true → as_head.Malformed ≡ head_of (placed p t g)
    judged-late e s = ap (λ (b : Bool). cond b as_head.Malformed as_head.Text) (sym s) ∙ judged-told as_head.Text e

    pub judged-text : h ≡ as_head.Text → p.sound ≡ false → as_head.Text ≡ head_of (placed p t g)
    judged-text e s = ap (λ (b : Bool). cond b as_head.Malformed as_head.Text) (sym s) ∙ judged-told as_head.Text e

    module _ (m : Sel) (b : Bool) (e : h ≡ as_head.Mark m) (n : b ≡ mark_ok p t m) where
      pub judged-mark : b ≡ true → as_head.Mark m ≡ head_of (placed p t g)
      judged-mark y = ap (λ (b : Bool). cond b (as_head.Mark m) as_head.Malformed) (sym y ∙ n) ∙ judged-told (as_head.Mark m) e

      pub judged-misplaced : b ≡ false → as_head.Malformed ≡ head_of (placed p t g)
      judged-misplaced y = ap (λ (b : Bool). cond b (as_head.Mark m) as_head.Malformed) (sym y ∙ n) ∙ judged-told (as_head.Mark m) e
