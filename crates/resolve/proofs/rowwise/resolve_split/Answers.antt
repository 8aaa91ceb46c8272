use Rattle.resolve.proofs.RowEdits.{split-resolves}
use lib.ListN.{length-take, length-drop}
use mathlib.Core.Path.{refl}
use Rattle.text.proofs.Walks.{span-within}
use native.Mathlib.Omega.{arith}
use borrow.Author.Rules.{rules}
use Rattle.resolve.proofs.rowwise.resolve_split.Goals as goal

pub offset_bounds-text-start : goal.offset_bounds-text-start
offset_bounds-text-start c = let a = c.args in
    let w = span-within a.text.now _ _ c.find_row-found.ensures in search (rules, w.0, w.1)

pub slice_bounds-split_steps-count : goal.slice_bounds-split_steps-count
slice_bounds-split_steps-count c = let a = c.args in
    let w = span-within a.text.now _ _ c.find_row-found.ensures in search (rules, w.0, w.1)

pub slice_bounds-split_steps-start : goal.slice_bounds-split_steps-start
slice_bounds-split_steps-start c = let a = c.args in
    let w = span-within a.text.now _ _ c.find_row-found.ensures in search (rules, w.0, w.1)

pub slice_bounds-split_steps-end : goal.slice_bounds-split_steps-end
slice_bounds-split_steps-end c = let a = c.args in
    let w = span-within a.text.now _ _ c.find_row-found.ensures in search (rules, w.0, w.1)

pub overflow_cast-start : goal.overflow_cast-start
overflow_cast-start c = let a = c.args in
    let w = span-within a.text.now _ _ c.find_row-found.ensures in search (rules, w.0, w.1)

pub split_steps-breaks-requires : goal.split_steps-breaks-requires
split_steps-breaks-requires c = let a = c.args in
    let w = span-within a.text.now _ _ c.find_row-found.ensures in (simp (length-take, length-drop) (omega (arith, w.0, w.1, c.requires.0)), refl, c.requires.1, omega (arith, c.requires.1, c.requires.2))

pub returns : goal.returns
returns c = let a = c.args in let e = c.split_steps-breaks.ensures in
    λ x. split-resolves a.text.now x a.cols.now a.flags.now _ a.row _ c.find_row-found.ensures _ _ _ c.requires.1 (search rules) e.come refl c.any_flag.ensures e.within (e.steps x)
