use Rattle.joins.proofs.SplitTurns.{turn_bounds}
use Rattle.joins.proofs.SplitPlans.{counting_all, counting_none, counting_more}
use Rattle.text.proofs.Walks.{span-within}
use lib.ListN.{get_or}
use Prim.Native.Nat.{◌+◌, ◌-◌, ◌≤◌}
use native.Mathlib.Omega.{arith}
use Rattle.joins.proofs.splitting.split_plan.Goals.{After-split_turn-turn}
use Rattle.joins.proofs.splitting.split_plan.Goals as goal

pub loop-k-init : goal.loop-k-init
loop-k-init c = let a = c.args in let w = span-within a.text.now a.found.row.0 a.found c.requires.1 in (omega arith, w.0, w.1, omega arith, counting_none a.text.now a.cols.now a.flags.now a.found.start.0 a.found.end.0)

bounds : (c : After-split_turn-turn) → (c.args.found.start.0 ≤ c.split_turn-turn.result.at.0) × (c.split_turn-turn.result.at.0 + c.split_turn-turn.result.gone ≤ c.loop-k.end) × (c.split_turn-turn.result.gone ≤ 1)
bounds c = let a = c.args in let l = c.loop-k in turn_bounds a.text.now a.found.start.0 l.end (get_or a.cols.now (l.k - 1) 0) c.flag_at-flag.result l.invariant.1 l.invariant.2 c.split_turn-turn.result c.split_turn-turn.ensures

pub overflow_sub-used : goal.overflow_sub-used
overflow_sub-used c = omega (arith, bounds (goal.at.overflow_sub-used c).After-split_turn-turn)

pub loop-k-preserved : goal.loop-k-preserved
loop-k-preserved c = let a = c.args in let l = c.loop-k in let q = bounds (goal.at.loop-k-preserved c).After-split_turn-turn in (omega arith, omega arith, omega arith, omega arith, counting_more a.text.now a.cols.now a.flags.now a.found.start.0 a.found.end.0 l.within l.used l.end l.k l.invariant.4 (omega arith) l.invariant.0 _ c.flag_at-flag.ensures c.split_turn-turn.result c.split_turn-turn.ensures)

pub returns : goal.returns
returns c = let a = c.args in let l = c.loop-k in counting_all a.text.now a.cols.now a.flags.now l.within l.used l.end l.k a.found c.requires.1 l.invariant.4 (omega arith)
