-- A well-formed string, decoded behind what the payload holds already.
use mathlib.Core.Path.{◌≡◌, refl, ap, ◌∙◌}
use mathlib.Core.List.{List, [], ◌∷◌, ◌++◌, append_assoc}
use Prim.Native.Nat.{ℕ, ◌-◌, ◌≤◌}
use native.Mathlib.Omega.{arith}
use lib.ListN.{length, take, drop, length-append, length-drop}
use lib.Seq.{paste, take-length, drop-drop}
use Rattle.std.specs.Prelude.{Result, Ok, Err, IsOk}
use Rattle.utf8.specs.declared.DecodeError.{DecodeError}
use Rattle.utf8.specs.declared.DecodeError.TheVariants as decode_error
use Rattle.utf8.specs.Answers.{paper_decoded}
use Rattle.promise.specs.Paper.{Paper, done, refused}
use Rattle.promise.specs.Slices.{over}
use Rattle.promise.proofs.Lists.{tail_whole, tail_back}
use Rattle.utf8.specs.Reading.{Reading, scalars, reading, writing}
use Rattle.utf8.specs.Calls.{Outcome, outcome, decoded, scalars_of, Fillable}
use Rattle.utf8.proofs.Numbers.{octets-len}
use Rattle.utf8.proofs.Theorems.{writes_read}
use Rattle.utf8.proofs.Theorems.{stored-room}

-- a string has no more characters than bytes
pub written-more : (cs : List ℕ) → length cs ≤ length (writing cs)
unfolding writing
written-more [] = omega arith
written-more (c ∷ cs) = let h = written-more cs in simp length-append (omega (arith, (octets-len c).0))

pub scalars_fewer : (s : List ℕ) → reading s ≡ scalars (scalars_of (reading s)) → length (scalars_of (reading s)) ≤ length s
scalars_fewer s e = let w = writes_read s (scalars_of (reading s)) e in omega (arith, written-more (scalars_of (reading s)), ap length w.1)

-- from x, the payload from `from` on, to y
module _ (s p : List ℕ) (from : ℕ) (y : List ℕ) (h : from ≤ length p) (g : Fillable (reading s) (length p - from)) where
  abbrev pub Behind : Paper ℕ → Type 0
  Behind a = outcome a y ≡ decoded (reading s) (take (length p - from) (drop from p))

  decoded-whole : decoded (reading s) (take (length p - from) (drop from p)) ≡ outcome (done (length (scalars_of (reading s)))) (over (scalars_of (reading s)) (drop from p))
  unfolding decoded
  decoded-whole =
      let k : length (scalars_of (reading s)) ≤ length (drop from p) = simp length-drop g.1 in
      ap (λ (x : List ℕ). decoded (reading s) x) (tail_whole p from) ∙ ap (λ (r : Reading). decoded r (drop from p)) g.0 ∙ stored-room (scalars_of (reading s)) (drop from p) k

  pub behind-done : (n : ℕ) → Behind (done n)
      → (n ≡ length (scalars_of (reading s)))
      × (take from p ++ (y ++ drop (length p - from) (drop from p)) ≡ paste p from (scalars_of (reading s)) (length (scalars_of (reading s))))
  behind-done n e =
      let a : done n ≡ done (length (scalars_of (reading s))) = ap (λ (o : Outcome). o.answer) (e ∙ decoded-whole) in
      let o : y ≡ over (scalars_of (reading s)) (drop from p) = ap (λ (o : Outcome). o.out) (e ∙ decoded-whole) in
      (cc, tail_back p y from ∙ rw (o, take-length, drop-drop, append_assoc))

  pub behind-refused : (n k : ℕ) → Behind (refused n k) → ⊥
  behind-refused n k e =
      let a : refused n k ≡ done (length (scalars_of (reading s))) = ap (λ (o : Outcome). o.answer) (e ∙ decoded-whole) in
      let z : ◌≡◌ {A = ℕ} 0 1 = cc in omega arith

  pub behind_ok : (r : Result ℕ DecodeError) → Behind (paper_decoded r) → IsOk r
  behind_ok (Ok n) e = refl
  behind_ok (Err (decode_error.BadUtf8 at)) e = absurd (behind-refused 5 at.0 e)
  behind_ok (Err decode_error.NoRoom) e = absurd (behind-refused 8 0 e)
