-- The octets stored: at octet `at` the slice that was b has those of the scalars before i.
use mathlib.Core.Path.{◌≡◌, refl, sym, ap, ◌∙◌}
use mathlib.Core.Bool.{true}
use mathlib.Core.List.{List, [], ◌∷◌, ◌++◌}
use Prim.Native.Nat.{ℕ, ◌+◌, ◌/◌, ◌%◌, ◌≤◌, ◌<◌}
use native.Mathlib.Omega.{arith}
use lib.ListN.{length, take, drop, get_or, set, length-append, length-drop, drop_of_length-le}
use lib.Seq.{sets, sets-eq, take-length}
use borrow.Rule.Slice.PartMut.{put_mid}
use Rattle.std.proofs.lemmas.Slice.{put_mid-paste}
use Rattle.promise.specs.Paper.{Paper, done}
use Rattle.promise.specs.Slices.{over}
use Rattle.promise.proofs.Bools.{both}
use Rattle.promise.proofs.Lists.{next}
use Rattle.utf8.specs.Rfc3629.{scalar, octets}
use Rattle.utf8.specs.Reading.{all_scalar, writing}
use Rattle.utf8.specs.Calls.{sequence_of, octets_in}
use Rattle.utf8.proofs.Numbers.{scalar-low, octets-1, octets-3, octets-len}
use Rattle.utf8.proofs.Stores.{stored_more, stored-rest, stored-end}
use Rattle.encoding.proofs.Sequences.{octets-in, sequence_good}

pub next_scalar : (cs : List ℕ) (i : ℕ) → i < length cs → all_scalar (drop i cs) ≡ true → scalar (get_or cs i 0) ≡ true
unfolding all_scalar
next_scalar cs i h all = (both (scalar (get_or cs i 0)) (all_scalar (drop (i + 1) cs)) (rw (next cs i h) at all)).0

module _ (cs b t : List ℕ) (i at : ℕ) (p : Paper (List ℕ)) (h : i < length cs) (e : p ≡ sequence_of (get_or cs i 0))
    (all : all_scalar (drop i cs) ≡ true) (d : drop at (writing cs) ≡ writing (drop i cs)) (room : length (writing cs) ≤ length b) where
  fill_next : (scalar (get_or cs i 0) ≡ true) × (all_scalar (drop (i + 1) cs) ≡ true)
  unfolding all_scalar
  fill_next = both (scalar (get_or cs i 0)) (all_scalar (drop (i + 1) cs)) (rw (next cs i h) at all)

  fill_octets : drop at (writing cs) ≡ octets_in p ++ writing (drop (i + 1) cs)
  unfolding writing
  fill_octets = d ∙ rw (next cs i h, e, octets-in (get_or cs i 0) fill_next.0)

  pub fill_room : at + length (octets_in p) ≤ length (writing cs)
  fill_room =
      let q : length (octets_in p) ≡ length (octets (get_or cs i 0)) = ap (λ (x : Paper (List ℕ)). length (octets_in x)) e ∙ ap length (octets-in (get_or cs i 0) fill_next.0) in
      let n = simp (length-drop, length-append) at (ap length fill_octets) in
      let m = (octets-len (get_or cs i 0)).0 in
      omega arith

  pub fill_again : t ≡ take at (writing cs) ++ drop at b
      → (all_scalar (drop (i + 1) cs) ≡ true)
      × (drop (at + length (octets_in p)) (writing cs) ≡ writing (drop (i + 1) cs))
      × (sets t at (octets_in p) ≡ take (at + length (octets_in p)) (writing cs) ++ drop (at + length (octets_in p)) b)
  fill_again inv =
      let r : List ℕ = writing (drop (i + 1) cs) in
      let k = fill_room in (
        fill_next.1,
        stored-rest (writing cs) b t (octets_in p) r at inv fill_octets (omega arith) (omega arith),
        stored_more (writing cs) b t (octets_in p) r at inv fill_octets (omega arith) (omega arith),
      )

-- a turn that left t, and went on at octet `at`
abbrev pub Written : List ℕ → List ℕ → ℕ → ℕ → List ℕ → Type 0
Written cs b i at t =
    (at ≤ length (writing cs)) × (all_scalar (drop (i + 1) cs) ≡ true) × (drop at (writing cs) ≡ writing (drop (i + 1) cs)) × (t ≡ take at (writing cs) ++ drop at b)

-- One octet and three, stored one by one.
module _ (cs b t : List ℕ) (i at : ℕ) (h : i < length cs) (all : all_scalar (drop i cs) ≡ true) (d : drop at (writing cs) ≡ writing (drop i cs)) (room : length (writing cs) ≤ length b) where
  one : Paper (List ℕ)
  one = done (get_or cs i 0 ∷ [])

  three : Paper (List ℕ)
  three = done ((0b1110_0000 + get_or cs i 0 / 64 / 64) ∷ (0b10_000000 + get_or cs i 0 / 64 % 64) ∷ (0b10_000000 + get_or cs i 0 % 64) ∷ [])

  module _ (u : get_or cs i 0 ≤ 0x7F) where
    one-is : one ≡ sequence_of (get_or cs i 0)
    unfolding one
    one-is = sequence_good (get_or cs i 0) _ (scalar-low (get_or cs i 0) (omega arith)) (octets-1 (get_or cs i 0) u)

    pub one-room : at + 1 ≤ length (writing cs)
    unfolding one
    one-room = fill_room cs b t i at one h one-is all d room

    pub one_again : t ≡ take at (writing cs) ++ drop at b → Written cs b i (at + 1) (set t at (get_or cs i 0))
    unfolding one
    one_again inv = let r = fill_again cs b t i at one h one-is all d room inv in (one-room, r.0, r.1, r.2)

  module _ (l : 0x7FF < get_or cs i 0) (u : get_or cs i 0 ≤ 0xFFFF) where
    three_is : three ≡ sequence_of (get_or cs i 0)
    unfolding three all_scalar
    three_is = sequence_good (get_or cs i 0) _ (next_scalar cs i h all) (octets-3 (get_or cs i 0) l u)

    pub three_room : at + 3 ≤ length (writing cs)
    unfolding three
    three_room = fill_room cs b t i at three h three_is all d room

    pub three_again : (x y z : ℕ) → x ≡ 0b1110_0000 + get_or cs i 0 / 64 / 64 → y ≡ 0b10_000000 + get_or cs i 0 / 64 % 64 → z ≡ 0b10_000000 + get_or cs i 0 % 64
        → t ≡ take at (writing cs) ++ drop at b → Written cs b i (at + 3) (sets t at (x ∷ y ∷ z ∷ []))
    unfolding three
    three_again x y z ex ey ez inv =
        let r = fill_again cs b t i at three h three_is all d room inv in
        (three_room, r.0, r.1, rw (ex, ey, ez) r.2)

-- a part that was exchanged whole
pub exchanged : (b os y : List ℕ) (i k : ℕ) → y ≡ os → length os ≡ k → i + k ≤ length b → put_mid i k b y ≡ sets b i os
exchanged b os y i k e l h = put_mid-paste i k b y os (length os) e l refl ∙ rw (take-length os) (sym (sets-eq os b i (omega arith)))

pub fill_all : (cs b t : List ℕ) (i at : ℕ) → length cs ≤ i → drop at (writing cs) ≡ writing (drop i cs) → at ≤ length (writing cs)
    → t ≡ take at (writing cs) ++ drop at b → t ≡ over (writing cs) b
unfolding writing
fill_all cs b t i at h d l inv = stored-end (writing cs) b t at inv (d ∙ rw (drop_of_length-le cs h)) l
