use Rattle.chunks.proofs.Cuts.{row_cut}
use Rattle.chunks.proofs.cut_row.Goals as goal

pub returns : goal.returns
returns c = let a = c.args in row_cut a.text.now _ a.out.now _ a.used a.cut.from.0 a.cut.chunk.0 a.cut.to.0 a.filled c.requires.2 c.requires.3 c.copy_in.ensures c.remove.ensures
