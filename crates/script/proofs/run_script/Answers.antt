use Rattle.std.proofs.lemmas.Result.{err_from_is_err_and}
use Rattle.feed.specs.Scripts.{output}
use Rattle.script.proofs.Twice.{ran-not, ran-whole}
use Rattle.script.proofs.run_script.Goals as goal

pub returns-in_err-run_over : goal.returns-in_err-run_over
returns-in_err-run_over c = let a = c.args in let r = c.run_over in let p = err_from_is_err_and c.from_residual.result c.from_residual.ensures.1 in
    rw p.1 (ran-not (output a.input.now) a.out.now r.result _ r.ensures _ c.in_err-run_over.was)

pub returns : goal.returns
returns c = let a = c.args in let r = c.run_over in let q = c.run_over-2 in ran-whole (output a.input.now) a.out.now r.result _ r.ensures _ c.in_ok-run_over.was q.result _ q.ensures
