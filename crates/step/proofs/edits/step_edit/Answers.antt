use Prim.Native.Nat.{ℕ}
use native.Mathlib.Omega.{arith}
use lib.ListN.{length-replicate}
use Rattle.reader.proofs.EditLines.{zeros_roomy}
use Rattle.step.proofs.edits.step_edit.Goals as goal

pub step_read-requires : goal.step_read-requires
step_read-requires c = let p = c.requires in let t = c.if-line-le-SHORT_LINE.true in (p.0, p.1, p.2, (omega (arith, t, length-replicate {A = ℕ} 256 0), omega (arith, t, length-replicate {A = ℕ} 64 0), omega (arith, t, length-replicate {A = ℕ} 52 0)))

pub returns-then-line-le-SHORT_LINE : goal.returns-then-line-le-SHORT_LINE
returns-then-line-le-SHORT_LINE c = c.step_read.ensures

pub step_read-requires-2 : goal.step_read-requires-2
step_read-requires-2 c = let p = c.requires in (p.0, p.1, p.2, zeros_roomy c.args.line.now p.2.0 p.2.1)

pub returns : goal.returns
returns c = c.step_read-2.ensures
