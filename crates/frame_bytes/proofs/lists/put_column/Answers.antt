use Rattle.frame_bytes.proofs.Pasted.{column_put}
use Rattle.frame_bytes.proofs.lists.put_column.Goals as goal

pub returns : goal.returns
returns c = let a = c.args in
    column_put a.bytes.now _ a.at.0 a.col a.flag c.requires.0 c.put_number.ensures
