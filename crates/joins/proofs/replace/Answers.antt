use Rattle.joins.proofs.Splices.{replaced-open, replaced-out, replaced-over}
use Rattle.std.proofs.Common.{◌≢◌, length}
use Rattle.std.proofs.lemmas.Bool.Decides.{nat_tests}
use native.Mathlib.Omega.{arith}
use Rattle.joins.proofs.replace.Goals as goal

pub returns-then-eq : goal.returns-then-eq
returns-then-eq c = let a = c.args in replaced-open a.text.now _ a.used a.start.0 a.end.0 a.with.now (grind (arith, nat_tests)) c.open_gap.ensures

pub returns-then-is_empty : goal.returns-then-is_empty
returns-then-is_empty c = let a = c.args in replaced-out a.text.now _ a.used a.start.0 a.end.0 a.with.now (grind (arith, nat_tests)) c.remove.ensures

pub returns : goal.returns
returns c =
    let a = c.args in
    let moved : a.start.0 ≢ a.end.0 = grind (arith, nat_tests) in
    let some : length a.with.now ≢ 0 = grind (arith, nat_tests) in
    replaced-over a.text.now _ a.used a.start.0 a.end.0 a.with.now (omega arith) (omega arith) (omega arith) c.copy_in.ensures
