use mathlib.Core.Path.{◌∙◌}
use Rattle.printing.proofs.WrittenLines.{digits_few, line-fits, wrote_line, wrote_ok}
use borrow.Author.Rules.{rules}
use Rattle.printing.proofs.print_text.Goals as goal

pub unwrap-count-requires : goal.unwrap-count-requires
unwrap-count-requires c = let p = c.requires in wrote_ok _ p.1 _ _ _ (line-fits _ p.1 _ p.0) c.write_text.ensures

pub end_line-requires : goal.end_line-requires
end_line-requires c = let k = digits_few _ _ _ c.write_text.result _ c.write_text.ensures c.unwrap-count.ensures in search rules

pub returns : goal.returns
returns c = let p = c.requires in let w = wrote_line _ p.1 _ _ _ (line-fits _ p.1 _ p.0) c.write_text.ensures _ c.unwrap-count.ensures in (c.end_line.ensures.1 ∙ w.0, c.end_line.ensures.0 ∙ w.1)
