-- Lines among edits, and what was read of an edit line applied.
use mathlib.Core.Path.{◌≡◌, refl, sym, ap, ◌∙◌}
use mathlib.Core.List.{List, []}
use Prim.Native.Nat.{ℕ, ◌-◌}
use native.Mathlib.Omega.{arith}
use lib.ListN.{take, drop}
use Rattle.promise.specs.Paper.{Paper, refused}
use Rattle.text.proofs.Texts.{front}
use Rattle.edit.specs.declared.View.{View}
use Rattle.edit.specs.declared.Edit.{Edit}
use Rattle.edit.specs.Call.{Outcome, outcome, lent, applied}
use Rattle.frame.specs.declared.Head.{Head}
use Rattle.frame.specs.declared.Head.TheVariants as as_head
use Rattle.frame.specs.Format.{Frame}
use Rattle.frame.specs.Forms.{Form, malformed, text, mark, edit, head_of}
use Rattle.frame.specs.Reads.{read_form}
use Rattle.place.specs.Places.{placed}
use Rattle.place.proofs.InPlace.{in_place}
use Rattle.reader.proofs.EditLines.{Held}
use Rattle.framed.specs.Calls.{frame_applied, among_edits}

-- ---- an edit is as it is, and nothing else is in its place

edit_among : (g : Form) (e : Edit) → head_of (placed among_edits [] g) ≡ as_head.Edit e → (head_of g ≡ as_head.Edit e) × (placed among_edits [] g ≡ g)
edit_among g e h =
    let k = in_place among_edits [] g (as_head.Edit e) h (λ m. let z : ◌≡◌ {A = ℕ} 0 1 = cc in omega arith) in
    (ap head_of (sym k) ∙ h, k)

-- what has no edit's head is refused by 10
other_among : (g : Form) → ((e : Edit) → head_of (placed among_edits [] g) ≡ as_head.Edit e → ⊥) → read_form (placed among_edits [] g) ≡ refused 10 0
unfolding placed head_of read_form
other_among malformed n = refl
other_among (text s) n = refl
other_among (mark m) n = refl
other_among (edit d at ks f s) n = absurd (n d refl)

-- h is the head of a line of form g as it was judged
module _ (g : Form) (h : Head) (j : h ≡ head_of (placed among_edits [] g)) where
  pub edit_head : (e : Edit) → h ≡ as_head.Edit e → (b : Edit) × (head_of g ≡ as_head.Edit b)
  edit_head e q = (e, (edit_among g e (sym j ∙ q)).0)

  module _ (v : View) (b ox of os : List ℕ) where
    pub edit_applied : (e : Edit) → h ≡ as_head.Edit e → (o : Outcome) → o ≡ frame_applied (read_form g) v b ox of os
        → o ≡ frame_applied (read_form (placed among_edits [] g)) v b ox of os
    edit_applied e q o z = z ∙ ap (λ (f : Form). frame_applied (read_form f) v b ox of os) (sym (edit_among g e (sym j ∙ q)).1)

    pub other_applied : ((e : Edit) → h ≡ as_head.Edit e → ⊥) → outcome (refused 10 0) b ox of os ≡ frame_applied (read_form (placed among_edits [] g)) v b ox of os
    unfolding frame_applied
    other_applied n = rw (other_among g (λ e q. n e (j ∙ q)))

-- ---- what was read, applied

module _ (p : Paper Frame) (v : View) (b ox of os : List ℕ) where
  pub held-applied : (e : Edit) (x : List ℕ) (n : ℕ) (f : List ℕ) (i : ℕ) (g : List ℕ) (j : ℕ) → Held p e x n f i g j → (o : Outcome)
      → o ≡ applied v e (lent b (take (n - 0) (drop 0 x)) (take (i - 0) (drop 0 f)) (take (j - 0) (drop 0 g)) ox of os) → o ≡ frame_applied p v b ox of os
  unfolding frame_applied
  held-applied e x n f i g j q o z = rw q.3 (rw (front x n, front f i, front g j) at z)

  pub refusal_applied : (n k : ℕ) → p ≡ refused n k → outcome (refused n k) b ox of os ≡ frame_applied p v b ox of os
  unfolding frame_applied
  refusal_applied n k q = rw q
