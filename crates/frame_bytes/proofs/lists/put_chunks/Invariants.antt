use mathlib.Core.Path.{◌≡◌}
use mathlib.Core.Bool.{true}
use Prim.Native.Nat.{◌+◌}
use lib.ListN.{length, drop}
use Rattle.utf8.specs.Reading.{all_scalar}
use Rattle.edit.specs.Edits.{pieces}
use Rattle.edit.specs.Refusals.{sum}
use Rattle.frame.specs.Format.{chunk_bytes}
use Rattle.frame_bytes.proofs.Pasted.{Filled}
use Rattle.frame_bytes.proofs.lists.put_chunks.Given as goal

abbrev pub invariant-loop-len : goal.invariant-loop-len
invariant-loop-len l = (l.from + sum (drop l.len-index l.lens) ≡ length l.payload) × (all_scalar (drop l.from l.payload) ≡ true) × Filled (chunk_bytes (pieces l.lens l.payload)) l.initial.bytes l.bytes l.at.0 (chunk_bytes (pieces (drop l.len-index l.lens) (drop l.from l.payload)))
