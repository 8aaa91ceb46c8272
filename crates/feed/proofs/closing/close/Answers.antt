use mathlib.Core.Path.{ap, sym, ◌∙◌}
use mathlib.Core.Bool.{cond}
use mathlib.Core.List.{List, [], ◌∷◌}
use Prim.Native.Nat.{ℕ}
use native.Mathlib.Omega.{arith}
use lib.Dec.{eqb}
use lib.ListN.{length, length-append}
use Rattle.promise.specs.Slices.{over}
use Rattle.printing.specs.Prints.{printed_as}
use Rattle.loading.specs.States.{State, state_of}
use Rattle.step.specs.Steps.{ending}
use Rattle.feed.proofs.Ends.{behind}
use Rattle.feed.proofs.Closings.{closed}
use Rattle.feed.proofs.closing.close.Goals as goal

pub returns : goal.returns
returns c = let a = c.args in let p = c.cut_line-start in let m = c.print_ending-more in
    let s : State = state_of a.script a.text.now a.marks.now in
    let x : List ℕ = cond (eqb a.pending 0) [] (printed_as (10 ∷ [])) in
    let e = closed s a.pending in (
      behind x (ending s) a.out.now _ _ p.result p.ensures.1 p.ensures.0 m.ensures.0 ∙ ap (λ (v : List ℕ). over v a.out.now) (sym e),
      omega (arith, p.ensures.1, m.ensures.1, length-append x (ending s), ap length e),
      omega (arith, p.ensures.2, m.ensures.2),
    )
