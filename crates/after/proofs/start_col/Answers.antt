use Prim.Native.Nat.{ℕ, ◌+◌, ◌-◌, ◌≤◌, ◌<◌}
use native.Mathlib.Omega.{arith}
use lib.ListN.{length}
use Rattle.text.proofs.Walks.{span-within}
use Rattle.joins.proofs.JoinTurns.{turn_small, Starts}
use Rattle.after.proofs.JoinCols.{starts-walk, walks_none, walks_inside, walks_more, walks_all}
use Rattle.after.proofs.start_col.Goals.{After-join_turn-turn, After-struct_known-1, In-loop}
use Rattle.after.proofs.start_col.Goals as goal

pub overflow_sub-left : goal.overflow_sub-left
overflow_sub-left c = let a = c.args in omega (arith, span-within a.text.now a.row.0 c.find_row-found.result c.find_row-found.ensures)

pub loop-init : goal.loop-init
loop-init c = let a = c.args in let q = span-within a.text.now a.row.0 c.find_row-found.result c.find_row-found.ensures in (omega arith, omega arith, q.1, walks_none a.text.now a.down a.spaced c.find_row-found.result.end.0 (c.find_row-found.result.end.0 - c.find_row-found.result.start.0))

starts : (c : After-struct_known-1) → let a = c.args in let f = c.find_row-found.result in Starts a.text.now a.row.0 f.end.0 (f.end.0 - f.start.0)
starts c = let a = c.args in starts-walk a.text.now a.row.0 _ c.find_row-found.ensures (omega (arith, c.requires.2))

inside : (c : In-loop) → c.loop.at < length c.args.text.now
inside c = let a = c.args in let l = c.loop in let f = c.find_row-found.result in walks_inside a.text.now a.down a.spaced f.end.0 (f.end.0 - f.start.0) l.at l.left l.col l.counter l.invariant.3 a.row.0 ((let a = c.args in starts-walk a.text.now a.row.0 _ c.find_row-found.ensures (omega (arith, c.requires.2)))) c.requires.2 (omega arith)

abbrev Sizes : ℕ → ℕ → ℕ → ℕ → Type 0
Sizes gap at len n = (gap ≤ 1) × (at + 1 + len ≤ n)

sizes : (c : After-join_turn-turn) → Sizes c.join_turn-turn.result.gap c.loop.at c.join_turn-turn.result.len (length c.args.text.now)
sizes c = let a = c.args in let l = c.loop in let q = turn_small a.text.now l.at l.left a.spaced c.join_turn-turn.result c.join_turn-turn.ensures in (q.0, omega (arith, q.1, (let a = c.args in let l = c.loop in let f = c.find_row-found.result in walks_inside a.text.now a.down a.spaced f.end.0 (f.end.0 - f.start.0) l.at l.left l.col l.counter l.invariant.3 a.row.0 ((let a = c.args in starts-walk a.text.now a.row.0 _ c.find_row-found.ensures (omega (arith, c.requires.2)))) c.requires.2 (omega arith))))

pub join_turn-turn-requires : goal.join_turn-turn-requires
join_turn-turn-requires c = (inside (goal.at.join_turn-turn-requires c).In-loop, c.requires.0)

pub overflow_add-col : goal.overflow_add-col
overflow_add-col c = omega (arith, sizes (goal.at.overflow_add-col c).After-join_turn-turn)

pub overflow_add-left : goal.overflow_add-left
overflow_add-left c = omega (arith, sizes (goal.at.overflow_add-left c).After-join_turn-turn)

pub overflow_add-at-in-loop : goal.overflow_add-at-in-loop
overflow_add-at-in-loop c = omega (arith, sizes (goal.at.overflow_add-at-in-loop c).After-join_turn-turn)

pub loop-preserved : goal.loop-preserved
loop-preserved c = let a = c.args in let l = c.loop in let s = sizes (goal.at.loop-preserved c).After-join_turn-turn in (omega arith, omega arith, s.1, walks_more a.text.now a.down a.spaced c.find_row-found.result.end.0 (c.find_row-found.result.end.0 - c.find_row-found.result.start.0) l.at l.left l.col l.counter l.invariant.3 (omega arith) c.join_turn-turn.result c.join_turn-turn.ensures)

pub returns : goal.returns
returns c = let a = c.args in let l = c.loop in (walks_all a.text.now a.down a.spaced c.find_row-found.result.end.0 (c.find_row-found.result.end.0 - c.find_row-found.result.start.0) l.at l.left l.col l.counter l.invariant.3 a.row.0 (starts (goal.at.returns c).After-struct_known-1) c.requires.2 c.requires.1 (omega arith), omega (arith, l.invariant.1, l.invariant.2, c.requires.0))
