use mathlib.Core.Path.{refl, sym, ap, ◌∙◌}
use Prim.Native.Nat.{ℕ, ◌+◌, ◌≤◌}
use lib.ListN.{drop, get_or}
use Rattle.promise.specs.Paper.{Paper, done}
use Rattle.cells.specs.Cells.{cell_after}
use Rattle.fit.proofs.Boxes.{walk, walk_rows, walk_end, walk_lf, walk_out, walk_on}
use Rattle.fit.specs.Calls.{fit_of}
use native.Mathlib.Omega.{arith}
use borrow.Author.Rules.{rules}
use Rattle.fit.proofs.first_over.Goals.{else-cols-test, then-cols-test+then-text-i-eq-LF}
use Rattle.fit.proofs.first_over.Goals as goal

pub rows-init : goal.rows-init
rows-init c = (search rules, search rules, refl, refl)

pub cols-init : goal.cols-init
cols-init c = let v = c.rows.invariant in (search rules, search rules, search rules, search rules, omega arith, v.2, v.3)

pub cell_after-next-requires : goal.cell_after-next-requires
cell_after-next-requires c = let p = c.requires in let k = c.cols in (p.3, omega arith, p.2)

pub cols-preserved : goal.cols-preserved
cols-preserved c = let k = c.cols in let r = c.rows in let a = c.args in
    let n = c.cell_after-next.ensures.0 in
    let e : cell_after a.tab k.cell (get_or a.text.now k.i 0) ≤ a.cells = rw n at c.if-cells-end.false in (
      omega arith,
      omega arith,
      omega arith,
      omega arith,
      c.if-cells-end.false,
      k.invariant.5,
      ap (λ (m : ℕ). walk a.cells a.tab r.row m (k.col + 1) (drop (k.i + 1) a.text.now)) n ∙ sym (walk_on a.cells a.tab r.row k.cell k.col a.text.now k.i (omega arith) c.if-text-i-eq-LF.false e) ∙ k.invariant.6,
    )

pub rows-preserved-then-i-text : goal.rows-preserved-then-i-text
rows-preserved-then-i-text c = let k = c.cols in let r = c.rows in let a = c.args in (
  omega arith,
  omega arith,
  k.invariant.5,
  elim c.cols-test.branch [
    | else-cols-test w ↦ absurd (omega arith)
    | then-cols-test+then-text-i-eq-LF w ↦ sym (walk_lf a.cells a.tab r.row k.cell k.col a.text.now k.i (omega arith) w.if-text-i-eq-LF.true) ∙ k.invariant.6
  ],
)

pub rows-preserved : goal.rows-preserved
rows-preserved c = let k = c.cols in let r = c.rows in let a = c.args in
    (omega arith, omega arith, k.invariant.5, walk_end a.cells a.tab r.row 0 0 a.text.now k.i (omega arith) ∙ sym (walk_end a.cells a.tab r.row k.cell k.col a.text.now k.i (omega arith)) ∙ k.invariant.6)

pub returns-after-rows : goal.returns-after-rows
returns-after-rows c = let r = c.rows in let a = c.args in
    ap fit_of r.invariant.2 ∙ sym (walk_end a.cells a.tab r.row 0 0 a.text.now r.i (omega arith)) ∙ r.invariant.3 ∙ walk_rows a.cells a.tab a.text.now

pub returns-then-cells-end : goal.returns-then-cells-end
returns-then-cells-end c = let k = c.cols in let r = c.rows in let a = c.args in
    let n = c.cell_after-next.ensures.0 in
    (sym (walk_out a.cells a.tab r.row k.cell k.col a.text.now k.i (omega arith) c.if-text-i-eq-LF.false (rw n at c.if-cells-end.true)) ∙ k.invariant.6 ∙ walk_rows a.cells a.tab a.text.now)
