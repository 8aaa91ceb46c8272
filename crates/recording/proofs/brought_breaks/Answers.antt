use native.Mathlib.Omega.{arith}
use Rattle.recording.proofs.Totals.{brought-few, brought-is}
use Rattle.recording.proofs.brought_breaks.Goals as goal

pub overflow_add-result : goal.overflow_add-result
overflow_add-result c = let a = c.args in omega (arith, brought-few a.made a.pad _ _ a.part.now c.made_breaks.ensures c.breaks_in.ensures)

pub returns : goal.returns
returns c = let a = c.args in brought-is a.made a.pad _ _ a.part.now c.made_breaks.ensures c.breaks_in.ensures
