use Rattle.resolve.proofs.RowEdits.{join-resolves}
use lib.ListN.{length-take, length-drop}
use Rattle.text.proofs.Walks.{span-within}
use native.Mathlib.Omega.{arith}
use borrow.Author.Rules.{rules}
use Rattle.resolve.proofs.rowwise.resolve_join.Goals as goal

pub offset_bounds-text-start : goal.offset_bounds-text-start
offset_bounds-text-start c = let a = c.args in
    let w = span-within a.text.now _ _ c.find_row-found.ensures in search (rules, w.0, w.1)

pub slice_bounds-join_steps-count : goal.slice_bounds-join_steps-count
slice_bounds-join_steps-count c = let a = c.args in
    let w = span-within a.text.now _ _ c.find_row-found.ensures in search (rules, w.0, w.1)

pub slice_bounds-join_steps-start : goal.slice_bounds-join_steps-start
slice_bounds-join_steps-start c = let a = c.args in
    let w = span-within a.text.now _ _ c.find_row-found.ensures in search (rules, w.0, w.1)

pub overflow_cast-start : goal.overflow_cast-start
overflow_cast-start c = let a = c.args in
    let w = span-within a.text.now _ _ c.find_row-found.ensures in search (rules, w.0, w.1)

pub join_steps-made-requires : goal.join_steps-made-requires
join_steps-made-requires c = let a = c.args in
    let w = span-within a.text.now _ _ c.find_row-found.ensures in (simp (length-take, length-drop) (omega (arith, w.0, w.1, c.requires.0)), omega (arith, c.most_joins-most.ensures), omega (arith, c.most_joins-most.ensures, c.requires.2))

pub returns : goal.returns
returns c = let a = c.args in let e = c.join_steps-made.ensures in
    λ x f s'. join-resolves a.text.now x f s' _ a.row a.count a.spaced _ c.find_row-found.ensures _ _ c.most_joins-most.ensures c.requires.1 e.few (search rules) e.come e.by_index
