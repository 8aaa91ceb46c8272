use Rattle.text.proofs.Order.{row_min, row_max}
use Rattle.flat.proofs.Cutting.{line-cut, cut_whole}
use Rattle.std.proofs.lemmas.Bool.Decides.{nat_tests}
use native.Mathlib.Omega.{arith}
use Rattle.flat.proofs.cuts.line_cut.Goals as goal

pub returns : goal.returns
returns c = let a = c.args in let l = c.last_row-last.ensures in line-cut a.text.now a.start.0 a.end.0 _ _ _ _ _ _ l (row_min a.start a.end c.min.ensures) (row_max a.start a.end c.max.ensures) (row_min c.min.result c.last_row-last.result c.min-lo.ensures) (row_min c.max.result c.last_row-last.result c.min-hi.ensures) (cut_whole a.text.now _ _ (omega (arith, c.if-lo-gt0.false)) (grind (arith, nat_tests)))
