use mathlib.Core.Path.{sym, ◌∙◌}
use Rattle.std.proofs.Common.{length}
use Rattle.scriptrun.specs.Runs.{brought}
use Rattle.scriptrun.proofs.Bytes.{stands_still}
use Rattle.scriptrun.proofs.take_read.Goals as goal

pub returns-then-count-eq0-clause-stands : goal.returns-then-count-eq0-clause-stands
returns-then-count-eq0-clause-stands c =
    let a = c.args in let t = c.take_nothing in
    stands_still a.stand.script t.result.script a.stand.pending t.result.pending (brought a.got (length a.input.now)) a.line.now a.text.now a.marks.now a.input.now t.ensures.0 t.ensures.1
    (sym c.brought-count.ensures ∙ c.if-count-eq0.true)
