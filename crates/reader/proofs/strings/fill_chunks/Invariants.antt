use mathlib.Core.Path.{◌≡◌}
use mathlib.Core.Bool.{true}
use mathlib.Core.List.{map, flatten}
use Prim.Native.Nat.{◌-◌, ◌≤◌}
use lib.ListN.{length, take, drop}
use Rattle.promise.specs.Slices.{over}
use Rattle.frame.specs.Forms.{is_cut, strings_in}
use Rattle.frame.specs.Reads as frames
use Rattle.reader.specs.Calls.{chars_of}
use Rattle.reader.proofs.Chunks.{rest}
use Rattle.reader.proofs.strings.fill_chunks.Given as goal

abbrev pub invariant-loop-at : goal.invariant-loop-at
invariant-loop-at l = (l.at ≤ length l.strings) × (is_cut (strings_in (drop l.at l.strings)) ≡ true) × (l.chunks ≤ length (chars_of (rest l.strings 0))) × (length l.payload ≡ length l.initial.payload) × (length l.first ≡ length l.initial.first) × (rest l.strings l.at ≡ frames.chars (drop l.chunks (chars_of (rest l.strings 0)))) × (l.chars ≡ length (flatten (take l.chunks (chars_of (rest l.strings 0))))) × (l.payload ≡ over (flatten (take l.chunks (chars_of (rest l.strings 0)))) l.initial.payload) × (l.first ≡ over (map length (take l.chunks (chars_of (rest l.strings 0)))) l.initial.first)

abbrev pub decreases-loop-at : goal.decreases-loop-at
decreases-loop-at l = length l.strings - l.at
