use Rattle.steps.specs.Numbers.{come_by}
use Rattle.resolve.proofs.RowEdits.{put-there, put-gone}
use mathlib.Core.Path.{refl}
use lib.ListN.{length-take, length-drop}
use Rattle.text.proofs.Walks.{span-within}
use native.Mathlib.Omega.{arith}
use Rattle.std.proofs.lemmas.Bool.Decides.{nat_tests}
use borrow.Author.Rules.{rules}
use Rattle.resolve.proofs.rowwise.put_from.Goals as goal

pub returns-then-lt : goal.returns-then-lt
unfolding come_by
returns-then-lt c = let a = c.args in
    record { few = omega arith; come = omega arith; by_index = λ x. put-gone a.text.now a.at _ c.find_row-found.ensures a.lens.now _ x (grind (arith, nat_tests)) }

pub offset_bounds-text-start : goal.offset_bounds-text-start
offset_bounds-text-start c = let a = c.args in
    let w = span-within a.text.now _ _ c.find_row-found.ensures in search (rules, w.0, w.1)

pub slice_bounds-put_steps-count : goal.slice_bounds-put_steps-count
slice_bounds-put_steps-count c = let a = c.args in
    let w = span-within a.text.now _ _ c.find_row-found.ensures in search (rules, w.0, w.1)

pub slice_bounds-put_steps-start : goal.slice_bounds-put_steps-start
slice_bounds-put_steps-start c = let a = c.args in
    let w = span-within a.text.now _ _ c.find_row-found.ensures in search (rules, w.0, w.1)

pub overflow_cast-start : goal.overflow_cast-start
overflow_cast-start c = let a = c.args in
    let w = span-within a.text.now _ _ c.find_row-found.ensures in search (rules, w.0, w.1)

pub put_steps-requires : goal.put_steps-requires
put_steps-requires c = let a = c.args in
    let w = span-within a.text.now _ _ c.find_row-found.ensures in (simp (length-take, length-drop) (omega (arith, w.0, w.1, c.requires.0)), refl, c.requires.1, omega (arith, c.requires.1, c.requires.2))

pub returns : goal.returns
returns c = let a = c.args in let e = c.put_steps.ensures in
    record { few = e.few; come = e.come; by_index = λ x. put-there a.text.now a.at _ c.find_row-found.ensures a.lens.now _ _ x (grind (arith, nat_tests)) (e.by_index x) }
