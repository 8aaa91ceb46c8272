use Rattle.text.proofs.Order.{pos_min, pos_max, offset_max}
use Rattle.single.proofs.Cutting.{char_cut_lem}
use Rattle.single.proofs.cuts.char_cut.Goals as goal

pub returns : goal.returns
returns c = let a = c.args in char_cut_lem a.text.now a.start a.end _ _ _ _ _ (pos_min a.start a.end c.min.ensures) (pos_max a.start a.end c.max.ensures) c.locate-first.ensures c.locate-last.ensures (offset_max c.locate-first.result.at c.locate-last.result.at c.max-to.ensures)
