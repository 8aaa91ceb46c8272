use Rattle.std.proofs.Common.{arith}
use Rattle.loading.specs.States.{state_of}
use Rattle.scriptrun.proofs.Bytes.{come_first, prints_last}
use Rattle.scriptrun.proofs.run.Goals as goal

pub read_all-last-requires-clause-come : goal.read_all-last-requires-clause-come
read_all-last-requires-clause-come c = come_first c.opening.result c.args.text.now c.args.marks.now c.opening.ensures c.requires.1

pub print-requires : goal.print-requires
print-requires c =
    let r = c.read_all-last in let e = c.end-size in
    prints_last (state_of r.result.script r.new.text r.new.marks) r.new.line _ _ e.result r.result.pending (omega (arith, r.ensures.ready_2.1, r.auto.line, c.requires.2)) e.ensures.0 e.ensures.1 r.ensures.come_2
