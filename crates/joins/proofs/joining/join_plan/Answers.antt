use Rattle.text.proofs.Walks.{span-parts, span-within}
use mathlib.Core.Path.{refl}
use Prim.Native.Nat.{ℕ, ◌+◌, ◌-◌, ◌≤◌, ◌<◌}
use native.Mathlib.Omega.{arith}
use lib.ListN.{length}
use Rattle.joins.proofs.JoinPlans.{planning_none, planning_more, planning_sizes, planning_all, on_inside}
use Rattle.joins.proofs.joining.join_plan.Goals.{After-join_turn-turn, In-loop-at}
use Rattle.joins.proofs.joining.join_plan.Goals as goal

pub overflow_sub-left : goal.overflow_sub-left
overflow_sub-left c = omega (arith, span-parts c.args.text.now c.args.found c.requires.1)

pub loop-at-init : goal.loop-at-init
loop-at-init c = let a = c.args in (omega arith, omega (arith, span-within a.text.now a.found.row.0 a.found c.requires.1), omega arith, planning_none a.text.now a.count a.spaced a.found.end.0 (a.found.end.0 - a.found.start.0))

inside : (c : In-loop-at) → c.loop-at.at < length c.args.text.now
inside c = on_inside c.loop-at.at (length c.args.text.now) _ c.loop-at-test.true

pub join_turn-turn-requires : goal.join_turn-turn-requires
join_turn-turn-requires c = (inside (goal.at.join_turn-turn-requires c).In-loop-at, c.requires.0)

abbrev Sizes : ℕ → ℕ → ℕ → ℕ → ℕ → ℕ → Type 0
Sizes used left gap at len n = (1 ≤ used) × (left ≤ used) × (gap ≤ 1) × (at + 1 + len ≤ n)

sizes : (c : After-join_turn-turn) → Sizes c.loop-at.used c.loop-at.left c.join_turn-turn.result.gap c.loop-at.at c.join_turn-turn.result.len (length c.args.text.now)
sizes c = let a = c.args in let l = c.loop-at in planning_sizes a.text.now a.count a.spaced a.found.end.0 (a.found.end.0 - a.found.start.0) l.used l.at l.left l.made l.invariant.3 (on_inside l.at (length a.text.now) _ c.loop-at-test.true) c.join_turn-turn.result c.join_turn-turn.ensures a.found c.requires.1 refl refl

pub overflow_sub-used : goal.overflow_sub-used
overflow_sub-used c = omega (arith, sizes (goal.at.overflow_sub-used c).After-join_turn-turn)

pub overflow_add-used : goal.overflow_add-used
overflow_add-used c = omega (arith, sizes (goal.at.overflow_add-used c).After-join_turn-turn)

pub overflow_add-at : goal.overflow_add-at
overflow_add-at c = omega (arith, sizes (goal.at.overflow_add-at c).After-join_turn-turn)

pub overflow_add-at-in-loop-at : goal.overflow_add-at-in-loop-at
overflow_add-at-in-loop-at c = omega (arith, sizes (goal.at.overflow_add-at-in-loop-at c).After-join_turn-turn)

pub overflow_add-left : goal.overflow_add-left
overflow_add-left c = omega (arith, sizes (goal.at.overflow_add-left c).After-join_turn-turn)

pub overflow_add-left-in-loop-at : goal.overflow_add-left-in-loop-at
overflow_add-left-in-loop-at c = omega (arith, sizes (goal.at.overflow_add-left-in-loop-at c).After-join_turn-turn)

pub loop-at-smaller : goal.loop-at-smaller
loop-at-smaller c = omega (arith, sizes (goal.at.loop-at-smaller c).After-join_turn-turn)

pub loop-at-preserved : goal.loop-at-preserved
loop-at-preserved c = let s = sizes (goal.at.loop-at-preserved c).After-join_turn-turn in let a = c.args in let l = c.loop-at in (omega arith, omega arith, omega arith, planning_more a.text.now a.count a.spaced a.found.end.0 (a.found.end.0 - a.found.start.0) l.used l.at l.left l.made l.invariant.3 (inside (goal.at.loop-at-preserved c).In-loop-at) c.join_turn-turn.result c.join_turn-turn.ensures c.loop-at-test.true)

pub returns : goal.returns
returns c = let a = c.args in let l = c.loop-at in planning_all a.text.now a.count a.spaced a.found.end.0 (a.found.end.0 - a.found.start.0) l.used l.at l.left l.made l.invariant.3 a.found c.requires.1 refl refl c.loop-at-test.false l.invariant.1
