use mathlib.Core.Path.{ap, sym, ◌∙◌}
use mathlib.Core.List.{List, [], ◌∷◌}
use Prim.Native.Nat.{ℕ}
use native.Mathlib.Omega.{arith}
use lib.ListN.{length}
use Rattle.promise.specs.Slices.{over}
use Rattle.printing.proofs.Printed.{printed-length}
use Rattle.feed.proofs.Closings.{cut_none, cut_some}
use Rattle.feed.proofs.closing.cut_line.Goals as goal

pub returns-then-pending-eq0 : goal.returns-then-pending-eq0
returns-then-pending-eq0 c = let a = c.args in let e = cut_none a.pending c.if-pending-eq0.true in (ap (λ (v : List ℕ). over v a.out.now) (sym e), ap length (sym e), omega arith)

pub returns : goal.returns
returns c = let a = c.args in let e = cut_some a.pending c.if-pending-eq0.false in (c.print_byte.ensures ∙ ap (λ (v : List ℕ). over v a.out.now) (sym e), sym (printed-length (10 ∷ [])) ∙ ap length (sym e), omega arith)
