use mathlib.Core.Bool.{not, false≢true}
use Prim.Native.Nat.{◌%◌}
use lib.Dec.{eqb}
use lib.ListN.{length}
use Rattle.decoding.proofs.Runs.{block_room}
use Rattle.decoding.proofs.starts_block.Goals as goal

pub returns-then-start-bytes : goal.returns-then-start-bytes
returns-then-start-bytes c = λ e. absurd (false≢true e)

pub is_block-requires : goal.is_block-requires
is_block-requires c = let a = c.args in block_room (length a.bytes.now) a.start (not (eqb (a.start % 16) 0)) c.if-start-bytes.false c.requires

pub returns : goal.returns
returns c = let a = c.args in λ e. (block_room (length a.bytes.now) a.start (not (eqb (a.start % 16) 0)) c.if-start-bytes.false c.requires, c.is_block.ensures e)
