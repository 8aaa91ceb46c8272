use Rattle.joins.proofs.SplitTurns.{turn_bounds}
use Rattle.joins.proofs.SplitStores.{putting_none, putting_room, putting_more, putting_all}
use Rattle.text.proofs.Walks.{span-within}
use lib.ListN.{length, take, drop, get_or, length-take, length-drop}
use Prim.Native.Nat.{◌+◌, ◌-◌, ◌≤◌}
use mathlib.Core.Path.{refl}
use native.Mathlib.Omega.{arith}
use Rattle.joins.proofs.splitting.split_row.Goals.{After-split_turn-turn}
use Rattle.joins.proofs.splitting.split_row.Goals as goal

pub loop-k-init : goal.loop-k-init
loop-k-init c = let a = c.args in let w = span-within (take a.used a.text.now) a.found.row.0 a.found c.requires.1 in (omega arith, w.0, omega (arith, w.1, length-take a.used a.text.now), c.requires.0, refl, putting_none a.text.now a.cols.now a.flags.now a.used a.found.start.0 a.found.end.0 c.requires.0)

bounds : (c : After-split_turn-turn) → (c.args.found.start.0 ≤ c.split_turn-turn.result.at.0) × (c.split_turn-turn.result.at.0 + c.split_turn-turn.result.gone ≤ c.loop-k.end) × (c.split_turn-turn.result.gone ≤ 1)
bounds c = let a = c.args in let l = c.loop-k in turn_bounds (take (l.n - 0) (drop 0 l.text)) a.found.start.0 l.end (get_or a.cols.now (l.k - 1) 0) c.flag_at-flag.result l.invariant.1 (simp (length-take, length-drop) (omega arith)) c.split_turn-turn.result c.split_turn-turn.ensures

room : (c : After-split_turn-turn) → c.loop-k.n + 1 ≤ length c.args.text.now + c.split_turn-turn.result.gone
room c = let a = c.args in let l = c.loop-k in putting_room a.text.now a.used a.cols.now a.flags.now a.found.start.0 a.found.end.0 l.text l.n l.end l.k l.invariant.5 (omega arith) l.invariant.0 c.flag_at-flag.result c.flag_at-flag.ensures c.split_turn-turn.result c.split_turn-turn.ensures a.found c.requires.1 refl refl c.requires.2

pub overflow_add-at : goal.overflow_add-at
overflow_add-at c = omega (arith, bounds (goal.at.overflow_add-at c).After-split_turn-turn)

pub replace-requires : goal.replace-requires
replace-requires c = let q = bounds (goal.at.replace-requires c).After-split_turn-turn in let m = room (goal.at.replace-requires c).After-split_turn-turn in (omega arith, omega arith, omega arith, omega arith, omega arith, omega arith)

pub overflow_sub-n : goal.overflow_sub-n
overflow_sub-n c = omega (arith, bounds (goal.at.overflow_sub-n c).After-split_turn-turn)

pub loop-k-preserved : goal.loop-k-preserved
loop-k-preserved c = let a = c.args in let l = c.loop-k in let q = bounds (goal.at.loop-k-preserved c).After-split_turn-turn in let m = room (goal.at.loop-k-preserved c).After-split_turn-turn in (omega arith, omega arith, omega arith, omega arith, omega arith, putting_more a.text.now a.used a.cols.now a.flags.now a.found.start.0 a.found.end.0 l.text l.n l.end l.k l.invariant.5 c.loop-k-test.true l.invariant.0 c.flag_at-flag.result c.flag_at-flag.ensures c.split_turn-turn.result c.split_turn-turn.ensures c.requires.0 _ c.replace.ensures)

pub returns : goal.returns
returns c = let a = c.args in let l = c.loop-k in putting_all a.text.now a.used a.cols.now a.flags.now l.text l.n l.end l.k a.found c.requires.1 l.invariant.5 c.requires.2 (omega arith)
