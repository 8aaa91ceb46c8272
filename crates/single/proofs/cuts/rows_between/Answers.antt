use Rattle.single.proofs.Cutting.{cut_between_lem}
use Rattle.text.specs.Text.{is_lf}
use Rattle.text.proofs.Laws.{last_le}
use native.Mathlib.Omega.{arith}
use Rattle.single.proofs.cuts.rows_between.Goals as goal

pub overflow_add-hi : goal.overflow_add-hi
overflow_add-hi c = omega (arith, c.requires.0, c.requires.2, last_le is_lf c.args.text.now)

pub returns : goal.returns
returns c = let a = c.args in cut_between_lem a.text.now a.lo.0 a.hi.0 c.requires.1 c.requires.2 _ _ c.line_to_char-start.ensures c.line_to_char-end.ensures
