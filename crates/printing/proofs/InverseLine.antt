-- The line of an accepted edit: 00 and the frame of its inverse.
use mathlib.Core.Path.{◌≡◌, refl, sym, ap, ◌∙◌}
use mathlib.Core.List.{List, [], ◌∷◌, ◌++◌}
use Prim.Native.Nat.{ℕ, ◌+◌, ◌-◌, ◌≤◌}
use native.Mathlib.Omega.{arith}
use lib.ListN.{length, take, drop, set, length-append, length-drop}
use lib.Seq.{drop-drop, take-length}
use Rattle.std.specs.Prelude.{Result, Ok, Err, IsOk}
use Rattle.edit.specs.declared.Refusal.{Refusal}
use Rattle.edit.specs.Call.{paper, number_of, offset_of}
use Rattle.promise.specs.Paper.{Paper, done, refused}
use Rattle.promise.specs.Slices.{over}
use Rattle.promise.proofs.Lists.{tail_whole, part-pasted, over-more}
use Rattle.utf8.specs.Calls.{Outcome, outcome}
use Rattle.utf8.proofs.Stores.{stored-all}
use Rattle.hexline.specs.Digits.{digit_of, hexed}
use Rattle.hexline.proofs.Zeros.{hexed-zero}
use Rattle.frame.specs.Format.{Frame, frame_bytes}
use Rattle.frame.specs.Inverses.{HasLine}
use Rattle.frame.proofs.Theorems.{line-done}
use Rattle.writer.specs.Calls.{line_into, written_into}
use Rattle.printing.specs.Prints.{printed_as}

over-same : (xs t o : List ℕ) (k : ℕ) → length xs ≡ k → drop k t ≡ drop k o → over xs t ≡ over xs o
over-same xs t o k e d = rw (e, d)

-- what was lent behind 00 came back as y
module _ (f : Frame) (o t y : List ℕ) (h : 36_867 ≤ length o) (line : HasLine f) (q : t ≡ over (printed_as (0 ∷ [])) o) where
  abbrev digits : List ℕ
  digits = hexed (frame_bytes f)

  zeros : t ≡ 48 ∷ 48 ∷ 10 ∷ drop 3 o
  unfolding hexed digit_of
  zeros = q

  long : length t ≡ length o
  long = ap length zeros ∙ omega (arith, length-drop 3 o)

  few : length digits ≤ 36_864
  few = (line-done f digits line).2

  abbrev pub Behind : Paper ℕ → Type 0
  Behind a = outcome a y ≡ written_into f (take (length t - 2) (drop 2 t))

  written : written_into f (take (length t - 2) (drop 2 t)) ≡ outcome (done (length digits)) (over digits (drop 2 t))
  unfolding line_into
  written =
      let k : length digits ≤ length (drop 2 t) = simp length-drop (omega (arith, few, long)) in
      rw (line, tail_whole t 2) (sym (stored-all digits (drop 2 t) (length digits) refl (over digits (drop 2 t)) k refl))

  module _ (n : ℕ) (e : Behind (done n)) where
    count : n ≡ length digits
    count = let a : done n ≡ done (length digits) = ap (λ (r : Outcome). r.answer) (e ∙ written) in cc

    abbrev b : List ℕ
    b = take 2 t ++ (y ++ drop (length t - 2) (drop 2 t))

    behind : b ≡ over (48 ∷ 48 ∷ digits) t
    behind =
        let g : y ≡ over digits (take (length t - 2) (drop 2 t)) = ap (λ (r : Outcome). r.out) (e ∙ written) ∙ rw (tail_whole t 2) in
        let z : take 2 t ≡ 48 ∷ 48 ∷ [] = ap (take 2) zeros in
        let k : length (48 ∷ 48 ∷ digits) ≡ 2 + length digits = omega arith in
        part-pasted t digits y 2 g ∙ rw (z, take-length digits, ← k)

    pub line-printed : (r : ℕ) (u : List ℕ) → r ≡ n + 2 + 1 → u ≡ set b (n + 2) 10
        → (u ≡ over (printed_as (0 ∷ frame_bytes f)) o) × (r ≡ length (printed_as (0 ∷ frame_bytes f)))
    line-printed r u p s =
        let l : length (48 ∷ 48 ∷ digits) ≡ n + 2 = omega (arith, count) in
        let m : length ((48 ∷ 48 ∷ digits) ++ (10 ∷ [])) ≡ 3 + n = length-append (48 ∷ 48 ∷ digits) (10 ∷ []) ∙ omega arith in
        let d : drop (3 + n) t ≡ drop (3 + n) o = sym (drop-drop n 3 t) ∙ ap (λ (l : List ℕ). drop n (drop 3 l)) zeros ∙ drop-drop n 3 o in
        let z : (48 ∷ 48 ∷ digits) ++ (10 ∷ []) ≡ printed_as (0 ∷ frame_bytes f) = ap (λ (l : List ℕ). l ++ (10 ∷ [])) (sym (hexed-zero (frame_bytes f))) in
        let i : n + 2 + 1 ≡ 3 + n = omega arith in (
          s ∙ over-more b (48 ∷ 48 ∷ digits) t (n + 2) 10 behind l (omega (arith, count, few, long)) ∙ over-same ((48 ∷ 48 ∷ digits) ++ (10 ∷ [])) t o (3 + n) m d ∙ ap (λ (l : List ℕ). over l o) z,
          p ∙ i ∙ sym m ∙ ap length z,
        )

  pub line_refused : (n k : ℕ) → Behind (refused n k) → ⊥
  line_refused n k e =
      let a : refused n k ≡ done (length digits) = ap (λ (r : Outcome). r.answer) (e ∙ written) in
      let z : ◌≡◌ {A = ℕ} 0 1 = cc in omega arith

  pub line_ok : (w : Result ℕ Refusal) → Behind (paper w) → IsOk w
  line_ok (Ok n) e = refl
  line_ok (Err y) e = absurd (line_refused (number_of y) (offset_of y) e)
