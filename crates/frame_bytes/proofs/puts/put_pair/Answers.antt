use mathlib.Core.Path.{refl}
use Rattle.frame.specs.Numbers.{number}
use Rattle.frame_bytes.proofs.Pasted.{both-put}
use Rattle.frame_bytes.proofs.puts.put_pair.Goals as goal

pub returns : goal.returns
returns c = let a = c.args in
    both-put a.bytes.now _ _ (number a.a) (number a.b) a.at.0 4 4 refl refl c.requires c.put_number.ensures c.put_number-2.ensures
