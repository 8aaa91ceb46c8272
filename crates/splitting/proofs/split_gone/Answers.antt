use mathlib.Core.Path.{◌≡◌}
use mathlib.Core.Bool.{cond, not, ◌&&◌}
use native.Mathlib.Omega.{arith}
use lib.Dec.{eqb, ltb}
use lib.ListN.{get_or}
use Rattle.splitting.proofs.SplitCols.{gone-is}
use Rattle.splitting.proofs.split_gone.Goals as goal

pub returns-clause-value : goal.returns-clause-value
returns-clause-value c =
    let a = c.args in
    let e : c.from.result ≡ cond (ltb a.col a.end && (not (eqb a.flag 0) && eqb (get_or a.row.now a.col 0) 32)) 1 0 = grind arith in
    gone-is a.row.now a.col a.end a.flag c.requires c.from.result e
