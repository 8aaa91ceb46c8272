use Rattle.text.proofs.Walks.{span-parts}
use mathlib.Core.Path.{◌≡◌, refl}
use Prim.Native.Nat.{◌+◌, ◌-◌, ◌≤◌}
use native.Mathlib.Omega.{arith}
use lib.ListN.{take, length-set, length-take, length-drop}
use Rattle.joins.specs.Turns.{join_turn}
use Rattle.joins.proofs.JoinTurns.{turn_lent, space_lent}
use Rattle.joins.proofs.JoinStores.{storing_none, storing_within, storing_sizes, storing_more, storing_all}
use Rattle.joins.proofs.joining.join_rows.Goals.{After-join_turn-turn, In-loop-k}
use Rattle.joins.proofs.joining.join_rows.Goals as goal

pub overflow_sub-left : goal.overflow_sub-left
overflow_sub-left c = omega (arith, span-parts (take c.args.used c.args.text.now) c.args.found c.requires.2)

pub loop-k-init : goal.loop-k-init
loop-k-init c = let a = c.args in (omega arith, refl, refl, refl, storing_none a.text.now a.cols.now a.flags.now a.used a.count a.spaced a.found.start.0 (a.found.end.0 - a.found.start.0) c.requires.0)

within : (c : In-loop-k) → c.args.found.start.0 + c.loop-k.left + 1 ≤ c.loop-k.n
within c = let a = c.args in let l = c.loop-k in storing_within a.text.now a.cols.now a.flags.now a.used a.count a.spaced a.found.start.0 (a.found.end.0 - a.found.start.0) l.text l.cols l.flags l.n l.left l.k l.invariant.4 a.found c.requires.2 refl refl c.requires.3 c.loop-k-test.true

turn : (c : After-join_turn-turn) → c.join_turn-turn.result ≡ join_turn (take c.loop-k.n c.loop-k.text) (c.args.found.start.0 + c.loop-k.left) c.loop-k.left c.args.spaced
turn c = let a = c.args in let l = c.loop-k in turn_lent l.text l.n (a.found.start.0 + l.left) l.left a.spaced c.join_turn-turn.result c.join_turn-turn.ensures

sizes : (c : After-join_turn-turn) → (c.join_turn-turn.result.gap ≤ 1) × (c.args.found.start.0 + c.loop-k.left + 1 + c.join_turn-turn.result.len ≤ c.loop-k.n)
sizes c = let a = c.args in let l = c.loop-k in storing_sizes a.text.now a.cols.now a.flags.now a.used a.count a.spaced a.found.start.0 (a.found.end.0 - a.found.start.0) l.text l.cols l.flags l.n l.left l.k l.invariant.4 a.found c.requires.2 refl refl c.requires.3 c.loop-k-test.true c.join_turn-turn.result (turn c)

pub overflow_add-at : goal.overflow_add-at
overflow_add-at c = omega (arith, within (goal.at.overflow_add-at c).In-loop-k)

pub join_turn-turn-requires : goal.join_turn-turn-requires
join_turn-turn-requires c = let w = within (goal.at.join_turn-turn-requires c).In-loop-k in (simp (length-take, length-drop) (omega arith), simp (length-take, length-drop) (omega arith))

pub overflow_add-at-in-loop-k : goal.overflow_add-at-in-loop-k
overflow_add-at-in-loop-k c = omega (arith, sizes (goal.at.overflow_add-at-in-loop-k c).After-join_turn-turn)

pub slice_bounds-replace-end : goal.slice_bounds-replace-end
slice_bounds-replace-end c = omega (arith, sizes (goal.at.slice_bounds-replace-end c).After-join_turn-turn)

pub replace-requires : goal.replace-requires
replace-requires c = let q = sizes (goal.at.replace-requires c).After-join_turn-turn in (omega arith, omega arith, omega arith, omega arith, simp (length-take, length-drop) (omega arith), simp (length-take, length-drop) (omega arith))

pub overflow_cast-cols : goal.overflow_cast-cols
overflow_cast-cols c = omega (arith, sizes (goal.at.overflow_cast-cols c).After-join_turn-turn)

pub overflow_sub-n : goal.overflow_sub-n
overflow_sub-n c = omega (arith, sizes (goal.at.overflow_sub-n c).After-join_turn-turn)

pub overflow_add-left : goal.overflow_add-left
overflow_add-left c = omega (arith, sizes (goal.at.overflow_add-left c).After-join_turn-turn)

pub overflow_add-left-in-loop-k : goal.overflow_add-left-in-loop-k
overflow_add-left-in-loop-k c = omega (arith, sizes (goal.at.overflow_add-left-in-loop-k c).After-join_turn-turn)

pub loop-k-preserved : goal.loop-k-preserved
loop-k-preserved c = let a = c.args in let l = c.loop-k in let q = sizes (goal.at.loop-k-preserved c).After-join_turn-turn in (omega arith, omega arith, simp length-set (omega arith), simp length-set (omega arith), storing_more a.text.now a.cols.now a.flags.now a.used a.count a.spaced a.found.start.0 (a.found.end.0 - a.found.start.0) l.text l.cols l.flags l.n l.left l.k l.invariant.4 c.loop-k-test.true c.join_turn-turn.result (turn (goal.at.loop-k-preserved c).After-join_turn-turn) c.requires.0 l.invariant.0 _ (space_lent l.text l.n (a.found.start.0 + l.left) (a.found.start.0 + l.left + 1) c.join_turn-turn.result.gap _ c.replace.ensures) (omega arith) (omega arith))

pub returns : goal.returns
returns c = let a = c.args in let l = c.loop-k in storing_all a.text.now a.cols.now a.flags.now a.used a.count a.spaced a.found.start.0 (a.found.end.0 - a.found.start.0) l.text l.cols l.flags l.n l.left l.k l.invariant.4 a.found c.requires.2 refl refl c.requires.3 (omega arith)
