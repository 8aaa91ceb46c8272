-- From the call to the worker of its kind, and back.
use mathlib.Core.Path.{◌≡◌, refl, sym, ◌∙◌, ap, subst}
use Prim.Native.Nat.{◌≤◌}
use lib.ListN.{length}
use Rattle.promise.specs.Paper.{done, refused}
use Rattle.text.specs.declared.Position.{Position}
use Rattle.edit.specs.declared.View.{View}
use Rattle.edit.specs.declared.MotionKind.{MotionKind}
use Rattle.edit.specs.declared.Edit.{Edit}
use Rattle.edit.specs.declared.Edit.TheVariants.{DeleteRange}
use Rattle.edit.specs.declared.Refusal.{Refusal}
use Rattle.edit.specs.Refusals.{within_ok}
use Rattle.edit.specs.Call.{paper, number_of, offset_of, verdict_of, Lent, Outcome, outcome, text_of, result_of, given_tests, finished, applied}
use Rattle.edit.proofs.Workers.{applied-refused, applied-finished, Passed, given_passed, fine_text}
use Rattle.std.specs.Prelude.{Result, Ok, Err}

module _ (v : View) (e : Edit) (l : Lent) where
  module _ (x : Result (Unit {0}) Refusal) (h : paper x ≡ verdict_of (given_tests v e l)) where
    pub refuses : (r : Refusal) → x ≡ Err r → outcome (refused (number_of r) (offset_of r)) l.buffer l.out_payload l.out_first l.out_second ≡ applied v e l
    refuses r q = applied-refused v e l (number_of r) (offset_of r) (rw q at h)

    pub passes : x ≡ Ok tt → verdict_of (given_tests v e l) ≡ done tt
    passes q = sym h ∙ ap paper q

  module _ (h : verdict_of (given_tests v e l) ≡ done tt) where
    pub admitted : (v.used ≤ length l.buffer) × (v.used ≤ 16_384)
    admitted = fine_text v e l (Ok tt) (sym h) refl

    module _ (k : Edit) (same : e ≡ k) where
      -- what the worker of a kind may rely on
      pub handed : Passed v k l
      handed = subst (λ (f : Edit). Passed v f l) same (given_passed v e l (sym h))

      -- what it finishes is the whole call
      pub finishes : (o : Outcome) → o ≡ finished (within_ok (text_of v l) k l.first l.second) v l (result_of v k l) → o ≡ applied v e l
      finishes o f = subst (λ (g : Edit). o ≡ applied v g l) (sym same) (f ∙ applied-finished v k l (subst (λ (g : Edit). done tt ≡ verdict_of (given_tests v g l)) same (sym h)))

pub ranged : (e : Edit) (p q : Position) (m k : MotionKind) → e ≡ DeleteRange p q m → m ≡ k → e ≡ DeleteRange p q k
ranged e p q m k h g = h ∙ ap (λ (x : MotionKind). DeleteRange p q x) g
