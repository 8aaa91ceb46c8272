use mathlib.Core.Path.{◌≡◌}
use mathlib.Core.Bool.{true}
use Prim.Native.Nat.{◌-◌, ◌≤◌}
use lib.ListN.{length, drop}
use Rattle.frame.specs.Forms.{is_cut, strings_in}
use Rattle.reader.specs.Calls.{tallied}
use Rattle.reader.proofs.Chunks.{rest, tallying}
use Rattle.reader.proofs.strings.count_chunks.Given as goal

abbrev pub invariant-loop-at : goal.invariant-loop-at
invariant-loop-at l = (l.at ≤ length l.strings) × (l.chunks ≤ l.at) × (l.chars ≤ l.at) × (is_cut (strings_in (drop l.at l.strings)) ≡ true) × (tallying l.chunks l.chars (rest l.strings l.at) ≡ tallied (rest l.strings 0))

abbrev pub decreases-loop-at : goal.decreases-loop-at
decreases-loop-at l = length l.strings - l.at
