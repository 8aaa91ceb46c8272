-- One scalar written.
use mathlib.Core.Path.{◌≡◌, refl, ◌∙◌}
use mathlib.Core.Bool.{Bool, true, false, cond, not, ◌&&◌}
use mathlib.Core.List.{List}
use Prim.Native.Nat.{ℕ, ◌≤◌, ◌<◌}
use native.Mathlib.Omega.{arith}
use borrow.Author.Tests.{leb-true, ltb-true, not-true}
use lib.Dec.{leb, ltb}
use lib.ListN.{length}
use Rattle.promise.specs.Paper.{done, refused}
use Rattle.promise.proofs.Bools.{both}
use Rattle.utf8.specs.Rfc3629.{scalar, octets}
use Rattle.utf8.specs.declared.Sequence.{Sequence}
use Rattle.utf8.specs.declared.Sequence.TheVariants as sequence
use Rattle.std.specs.Prelude.{Result, Ok, Err, IsOk}
use Rattle.utf8.specs.declared.BadText.{BadText}
use Rattle.utf8.specs.Answers.{octets_of, paper_sequence}
use Rattle.utf8.specs.Calls.{sequence_of, octets_in}
use Rattle.utf8.proofs.Numbers.{scalar-low, octets-1, octets-3, octets-len}

pub between : (l h c : ℕ) → (ltb l c && leb c h) ≡ true → (l < c) × (c ≤ h)
between l h c e = let w = both (ltb l c) (leb c h) e in (ltb-true l c w.0, leb-true c h w.1)

module _ (c : ℕ) where
  pub sequence_good : (os : List ℕ) → scalar c ≡ true → octets c ≡ os → done os ≡ sequence_of c
  unfolding sequence_of
  sequence_good os e f = rw (e, f)

  pub sequence_bad : (r : Bool) → r ≡ scalar c → not r ≡ true → refused 1 0 ≡ sequence_of c
  unfolding sequence_of
  sequence_bad r e f = rw (← e, not-true r f)

-- the octets that a sequence has tell whether its value is a scalar
pub no_octets : (c : ℕ) → length (octets_in (sequence_of c)) ≡ 0 → scalar c ≡ false
unfolding sequence_of
no_octets c e = go (scalar c) e
  where
    go : (b : Bool) → length (octets_in (cond b (done (octets c)) (refused 1 0))) ≡ 0 → b ≡ false
    go true e = absurd (omega (arith, (octets-len c).0))
    go false e = refl

pub some_octets : (c : ℕ) → (length (octets_in (sequence_of c)) ≡ 0 → ⊥) → scalar c ≡ true
unfolding sequence_of
some_octets c h = go (scalar c) h
  where
    go : (b : Bool) → (length (octets_in (cond b (done (octets c)) (refused 1 0))) ≡ 0 → ⊥) → b ≡ true
    go true h = refl
    go false h = absurd (h refl)

pub octets-in : (c : ℕ) → scalar c ≡ true → octets_in (sequence_of c) ≡ octets c
unfolding sequence_of
octets-in c e = rw e

pub one-long : (c : ℕ) → c ≤ 0x7F → 1 ≡ length (octets_in (sequence_of c))
one-long c h = rw (octets-in c (scalar-low c (omega arith)), octets-1 c h)

pub three_long : (c : ℕ) → 0x7FF < c → c ≤ 0xD7FF → 3 ≡ length (octets_in (sequence_of c))
three_long c l h = rw (octets-in c (scalar-low c h), octets-3 c l (omega arith))

-- a sequence has octets
pub octets_some : (q : Sequence) → length (octets_of q) ≡ 0 → ⊥
octets_some (sequence.One a) e = omega arith
octets_some (sequence.Two a b) e = omega arith
octets_some (sequence.Three a b c) e = omega arith
octets_some (sequence.Four a b c d) e = omega arith

-- a scalar has one
pub scalar_written : (r : Result Sequence BadText) (c : ℕ) → paper_sequence r ≡ sequence_of c → scalar c ≡ true → IsOk r
unfolding sequence_of
scalar_written (Ok q) c e s = refl
scalar_written (Err b) c e s = let f : refused 1 0 ≡ done (octets c) = e ∙ rw s in let z : ◌≡◌ {A = ℕ} 0 1 = cc in absurd (omega arith)
