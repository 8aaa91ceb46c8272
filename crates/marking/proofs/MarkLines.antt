-- The line of a mark, as it is written.
use mathlib.Core.Path.{◌≡◌}
use mathlib.Core.List.{List}
use Prim.Native.Nat.{ℕ, ◌≤◌}
use native.Mathlib.Omega.{arith}
use lib.ListN.{length, set}
use Rattle.promise.specs.Slices.{over}
use Rattle.utf8.specs.Calls.{outcome}
use Rattle.select.specs.declared.Sel.{Sel}
use Rattle.shift.specs.Answers.{to}
use Rattle.hexline.specs.Digits.{hexed}
use Rattle.hexline.proofs.Theorems.{two_digits}
use Rattle.frame.specs.Format.{mark, frame_bytes}
use Rattle.frame.proofs.Inverses.{marks_have_lines}
use Rattle.writer.specs.Calls.{written_into}
use Rattle.printing.proofs.WrittenLines.{line-ended}
use Rattle.marking.specs.MarkLines.{mark_line}
use Rattle.std.specs.Prelude.{Result}
use Rattle.edit.specs.declared.Refusal.{Refusal}
use Rattle.edit.specs.Call.{paper}

mark_digits : (m : Sel) → length (hexed (frame_bytes (mark m))) ≡ 34
unfolding frame_bytes
mark_digits m = two_digits (frame_bytes (mark m))

pub kept_line : (out t : List ℕ) (m : Sel) (w : Result ℕ Refusal) → 35 ≤ length out
    → outcome (paper w) t ≡ written_into (mark m) out → (set t 34 10 ≡ over (mark_line (to m)) out) × (35 ≡ length (mark_line (to m)))
unfolding mark_line
kept_line out t m w h e = line-ended (mark m) (marks_have_lines m) out t w (omega (arith, mark_digits m)) e 34 (mark_digits m)
