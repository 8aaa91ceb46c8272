use native.Mathlib.Omega.{arith}
use borrow.Author.Rules.{rules}
use Rattle.weave.proofs.Weaving.{bounds, none_size, weave_end, weave_down, weave_up}
use Rattle.weave.proofs.+weave.Goals as goal

pub move_piece-requires : goal.move_piece-requires
move_piece-requires t c = let a = c.args in let z = none_size a.n a.steps.now a.from a.used c.if-n-eq0.true in (search rules, search (rules, z))

pub returns-then-n-eq0-clause-woven : goal.returns-then-n-eq0-clause-woven
returns-then-n-eq0-clause-woven t c = let a = c.args in let z = none_size a.n a.steps.now a.from a.used c.if-n-eq0.true in let P = weave_end a.value a.text.now _ a.used a.from a.to a.n a.steps.now a.payload.now c.if-n-eq0.true (omega arith) c.requires.3 (omega arith) c.move_piece.ensures in P.mid

pub returns-then-n-eq0-clause-behind : goal.returns-then-n-eq0-clause-behind
returns-then-n-eq0-clause-behind t c = let a = c.args in let z = none_size a.n a.steps.now a.from a.used c.if-n-eq0.true in let P = weave_end a.value a.text.now _ a.used a.from a.to a.n a.steps.now a.payload.now c.if-n-eq0.true (omega arith) c.requires.3 (omega arith) c.move_piece.ensures in P.back

pub slice_bounds-coming-end : goal.slice_bounds-coming-end
slice_bounds-coming-end t c = let a = c.args in let N = bounds a.text.now a.used a.from a.to a.n a.steps.now a.payload.now c.if-n-eq0.false c.requires.0 c.requires.1 c.requires.2 c.requires.3 c.requires.4 in search (rules, N.come)

pub move_piece-requires-then-to-from : goal.move_piece-requires-then-to-from
move_piece-requires-then-to-from t c = let a = c.args in let N = bounds a.text.now a.used a.from a.to a.n a.steps.now a.payload.now c.if-n-eq0.false c.requires.0 c.requires.1 c.requires.2 c.requires.3 c.requires.4 in (search (rules, N.next, N.used_in), search (rules, N.room))

pub weave-requires : goal.weave-requires
weave-requires t c = let a = c.args in let N = bounds a.text.now a.used a.from a.to a.n a.steps.now a.payload.now c.if-n-eq0.false c.requires.0 c.requires.1 c.requires.2 c.requires.3 c.requires.4 in (search (rules, c.decreases, c.if-n-eq0.false), (search (rules, N.fives), search (rules, N.comes), search (rules, N.passes), search (rules, N.used_in), search (rules, N.lays), search (rules, c.requires.5)))

pub lay-requires : goal.lay-requires
lay-requires t c = let a = c.args in let N = bounds a.text.now a.used a.from a.to a.n a.steps.now a.payload.now c.if-n-eq0.false c.requires.0 c.requires.1 c.requires.2 c.requires.3 c.requires.4 in search (rules, N.room)

pub weave-requires-else-to-from : goal.weave-requires-else-to-from
weave-requires-else-to-from t c = let a = c.args in let N = bounds a.text.now a.used a.from a.to a.n a.steps.now a.payload.now c.if-n-eq0.false c.requires.0 c.requires.1 c.requires.2 c.requires.3 c.requires.4 in (search (rules, c.decreases, c.if-n-eq0.false), (search (rules, N.fives), search (rules, N.comes), search (rules, N.passes), search (rules, N.used_in), search (rules, N.lays), search (rules, c.requires.5)))

pub move_piece-requires-else-to-from : goal.move_piece-requires-else-to-from
move_piece-requires-else-to-from t c = let a = c.args in let N = bounds a.text.now a.used a.from a.to a.n a.steps.now a.payload.now c.if-n-eq0.false c.requires.0 c.requires.1 c.requires.2 c.requires.3 c.requires.4 in (search (rules, N.next, N.used_in), search (rules, N.room))

pub lay-requires-else-to-from : goal.lay-requires-else-to-from
lay-requires-else-to-from t c = let a = c.args in let N = bounds a.text.now a.used a.from a.to a.n a.steps.now a.payload.now c.if-n-eq0.false c.requires.0 c.requires.1 c.requires.2 c.requires.3 c.requires.4 in search (rules, N.room)

pub returns-then-to-from-clause-front : goal.returns-then-to-from-clause-front
returns-then-to-from-clause-front t c = let a = c.args in let E = c.weave.ensures in let P = weave_down a.value a.text.now a.used a.from a.to a.n a.steps.now a.payload.now (omega (arith, c.if-n-eq0.false)) c.requires.1 c.requires.2 c.requires.3 c.requires.4 c.move_piece-then-to-from.new.text c.weave.new.text c.lay.new.text (search rules) c.if-to-from.true c.move_piece-then-to-from.ensures (record { front = E.front; mid = E.woven; back = E.behind }) c.lay.ensures in P.front

pub returns-then-to-from-clause-woven : goal.returns-then-to-from-clause-woven
returns-then-to-from-clause-woven t c = let a = c.args in let E = c.weave.ensures in let P = weave_down a.value a.text.now a.used a.from a.to a.n a.steps.now a.payload.now (omega (arith, c.if-n-eq0.false)) c.requires.1 c.requires.2 c.requires.3 c.requires.4 c.move_piece-then-to-from.new.text c.weave.new.text c.lay.new.text (search rules) c.if-to-from.true c.move_piece-then-to-from.ensures (record { front = E.front; mid = E.woven; back = E.behind }) c.lay.ensures in P.mid

pub returns-then-to-from-clause-behind : goal.returns-then-to-from-clause-behind
returns-then-to-from-clause-behind t c = let a = c.args in let E = c.weave.ensures in let P = weave_down a.value a.text.now a.used a.from a.to a.n a.steps.now a.payload.now (omega (arith, c.if-n-eq0.false)) c.requires.1 c.requires.2 c.requires.3 c.requires.4 c.move_piece-then-to-from.new.text c.weave.new.text c.lay.new.text (search rules) c.if-to-from.true c.move_piece-then-to-from.ensures (record { front = E.front; mid = E.woven; back = E.behind }) c.lay.ensures in P.back

pub returns-else-to-from-clause-front : goal.returns-else-to-from-clause-front
returns-else-to-from-clause-front t c = let a = c.args in let E = c.weave-else-to-from.ensures in let P = weave_up a.value a.text.now a.used a.from a.to a.n a.steps.now a.payload.now (omega (arith, c.if-n-eq0.false)) c.requires.1 c.requires.2 c.requires.3 c.requires.4 c.weave-else-to-from.new.text c.move_piece-else-to-from.new.text c.lay-else-to-from.new.text (search rules) (search rules) (omega (arith, c.if-to-from.false)) (record { front = E.front; mid = E.woven; back = E.behind }) c.move_piece-else-to-from.ensures c.lay-else-to-from.ensures in P.front

pub returns-else-to-from-clause-woven : goal.returns-else-to-from-clause-woven
returns-else-to-from-clause-woven t c = let a = c.args in let E = c.weave-else-to-from.ensures in let P = weave_up a.value a.text.now a.used a.from a.to a.n a.steps.now a.payload.now (omega (arith, c.if-n-eq0.false)) c.requires.1 c.requires.2 c.requires.3 c.requires.4 c.weave-else-to-from.new.text c.move_piece-else-to-from.new.text c.lay-else-to-from.new.text (search rules) (search rules) (omega (arith, c.if-to-from.false)) (record { front = E.front; mid = E.woven; back = E.behind }) c.move_piece-else-to-from.ensures c.lay-else-to-from.ensures in P.mid

pub returns-else-to-from-clause-behind : goal.returns-else-to-from-clause-behind
returns-else-to-from-clause-behind t c = let a = c.args in let E = c.weave-else-to-from.ensures in let P = weave_up a.value a.text.now a.used a.from a.to a.n a.steps.now a.payload.now (omega (arith, c.if-n-eq0.false)) c.requires.1 c.requires.2 c.requires.3 c.requires.4 c.weave-else-to-from.new.text c.move_piece-else-to-from.new.text c.lay-else-to-from.new.text (search rules) (search rules) (omega (arith, c.if-to-from.false)) (record { front = E.front; mid = E.woven; back = E.behind }) c.move_piece-else-to-from.ensures c.lay-else-to-from.ensures in P.back
