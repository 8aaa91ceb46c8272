use lib.ListN.{length-take, length-drop}
use Rattle.text.proofs.Texts.{good_text}
use Rattle.fit.proofs.Boxes.{box_small, fit_no_text, fit_too_big, fit_found}
use native.Mathlib.Omega.{arith}
use Rattle.fit.proofs.box_fit.Goals as goal

pub returns-then-not-good : goal.returns-then-not-good
returns-then-not-good c = let a = c.args in fit_no_text a.buffer.now a.used a.cells a.tab _ c.is_text-good.ensures c.if-not-good.true-raw

pub returns-then-not-small : goal.returns-then-not-small
returns-then-not-small c = let a = c.args in fit_too_big a.buffer.now a.used a.cells a.tab _ c.is_text-good.ensures c.if-not-good.false-raw c.if-not-small.true-raw

pub slice_bounds-first_over-end : goal.slice_bounds-first_over-end
slice_bounds-first_over-end c = let a = c.args in (good_text a.buffer.now a.used _ c.is_text-good.ensures c.if-not-good.false-raw).0

pub first_over-requires : goal.first_over-requires
first_over-requires c = let a = c.args in
    let g = good_text a.buffer.now a.used _ c.is_text-good.ensures c.if-not-good.false-raw in
    let n = box_small a.cells a.tab c.if-not-small.false-raw in
    (simp (length-take, length-drop) (omega arith), n.0, n.1, c.wide_table-table.ensures)

pub returns : goal.returns
returns c = let a = c.args in fit_found a.buffer.now a.used a.cells a.tab _ c.is_text-good.ensures _ c.if-not-good.false-raw c.if-not-small.false-raw c.first_over.ensures
