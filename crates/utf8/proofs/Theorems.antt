-- The theorems that specs/Theorems.antt states.
use mathlib.Core.Path.{◌≡◌, refl, sym, ap, ◌∙◌}
use mathlib.Core.Bool.{Bool, true, false, cond}
use mathlib.Core.List.{List, [], ◌∷◌, ◌++◌, append_assoc, append-nil}
use Prim.Native.Nat.{ℕ, zero, suc, ◌+◌, ◌≤◌, ◌<◌}
use native.Mathlib.Nat.{add-zero, zero-add}
use native.Mathlib.Omega.{arith}
use lib.Dec.{ltb}
use lib.ListN.{length, take, drop, take-append-drop, length-append, length-take}
use lib.Seq.{take-append_seam, drop-append_seam, drop-nil}
use Rattle.promise.specs.Paper.{done, refused}
use Rattle.utf8.specs.Rfc3629.{UTF8-char, taken, number, scalar, octets}
use Rattle.utf8.specs.Reading.{Reading, scalars, bad_at, prepend, read_from, reading, all_scalar, writing}
use Rattle.promise.specs.Slices.{over}
use Rattle.utf8.specs.Calls.{outcome, stored, decoded, encoded}
use Rattle.utf8.specs.Theorems.{ReadsWritten, WritesRead, DecodesEncoded, EncodesDecoded, BadPlace, RefusesThere, LeadAnnounces}
use Rattle.promise.proofs.Bools.{both}
use Rattle.utf8.proofs.Taken.{taken-le}
use Rattle.utf8.proofs.Lead.{leads}
use Rattle.utf8.proofs.Numbers.{octets-len}
use Rattle.utf8.proofs.Agree.{sound, complete}
use Rattle.utf8.proofs.Stores.{stored-all}
use Rattle.utf8.proofs.Readings.{read_found, read_lost, prepended}

-- the scalars before what is read of the rest
prepend_all : List ℕ → Reading → Reading
prepend_all [] r = r
prepend_all (c ∷ cs) r = prepend c (prepend_all cs r)

prepend-scalars : (cs ds : List ℕ) → prepend_all cs (scalars ds) ≡ scalars (cs ++ ds)
unfolding prepend_all prepend
prepend-scalars [] ds = refl
prepend-scalars (c ∷ cs) ds = rw (prepend-scalars cs ds)

prepend-bad : (cs : List ℕ) (k : ℕ) → prepend_all cs (bad_at k) ≡ bad_at k
unfolding prepend_all prepend
prepend-bad [] k = refl
prepend-bad (c ∷ cs) k = rw (prepend-bad cs k)

written_read : (cs q : List ℕ) (at : ℕ) → all_scalar cs ≡ true → read_from at 0 (writing cs ++ q) ≡ prepend_all cs (read_from (at + length (writing cs)) 0 q)
unfolding all_scalar writing prepend_all
written_read [] q at e = rw add-zero
written_read (c ∷ cs) q at e = go (length (octets c)) refl (written_read cs q (at + length (octets c)) (both (scalar c) (all_scalar cs) e).1)
  where
    go : (n : ℕ) → length (octets c) ≡ n
        → read_from (at + length (octets c)) 0 (writing cs ++ q) ≡ prepend_all cs (read_from (at + length (octets c) + length (writing cs)) 0 q)
        → read_from at 0 ((octets c ++ writing cs) ++ q) ≡ prepend c (prepend_all cs (read_from (at + length (octets c ++ writing cs)) 0 q))
    go zero l ih = absurd (omega (arith, (octets-len c).0))
    go (suc n) l ih =
        let k = complete c (writing cs ++ q) (both (scalar c) (all_scalar cs) e).0 in
        let m : at + length (octets c ++ writing cs) ≡ at + length (octets c) + length (writing cs) = simp length-append (omega arith) in
        rw (append_assoc, m) (read_found (octets c ++ (writing cs ++ q)) at n (k.0 ∙ l) ∙ rw (← l, take-append_seam, drop-append_seam, k.1, ih))

pub reads_written : ReadsWritten
unfolding read_from
reads_written cs e = ap reading (sym (append-nil (writing cs))) ∙ written_read cs [] 0 e ∙ prepend-scalars cs [] ∙ rw append-nil

pub refuses-there : RefusesThere
refuses-there cs q e h t = written_read cs q 0 e ∙ rw (read_lost q (0 + length (writing cs)) t h, zero-add) (prepend-bad cs (length (writing cs)))

bad_prepended : (v : ℕ) (r : Reading) (k : ℕ) → prepend v r ≡ bad_at k → r ≡ bad_at k
unfolding prepend
bad_prepended v (scalars cs) k e = let z : ◌≡◌ {A = ℕ} 0 1 = cc in absurd (omega arith)
bad_prepended v (bad_at j) k e = e

-- a sequence that was taken goes before what is written for the rest
module _ (x : ℕ) (s : List ℕ) (n : ℕ) (t : taken UTF8-char (x ∷ s) ≡ suc n) where
  first : ℕ
  first = number (take (suc n) (x ∷ s))

  first_len : n ≤ length s
  first_len = let k : suc n ≤ suc (length s) = rw t at (taken-le UTF8-char (x ∷ s)) in omega arith

  first_scalar : scalar first ≡ true
  unfolding first
  first_scalar = (sound (x ∷ s) n t).1

  first_octets : octets first ≡ x ∷ take n s
  unfolding first
  first_octets = (sound (x ∷ s) n t).0

  first_written : (cs q : List ℕ) → drop n s ≡ writing cs ++ q → x ∷ s ≡ writing (first ∷ cs) ++ q
  unfolding writing
  first_written cs q d = ap (◌∷◌ x) (sym (take-append-drop n s) ∙ ap (λ (l : List ℕ). take n s ++ l) d) ∙ rw (first_octets, append_assoc)

  first_all : (cs : List ℕ) → all_scalar cs ≡ true → all_scalar (first ∷ cs) ≡ true
  unfolding all_scalar
  first_all cs e = rw (first_scalar, e)

read_written : (s : List ℕ) (at left : ℕ) (cs : List ℕ) → left ≤ length s → read_from at left s ≡ scalars cs → (all_scalar cs ≡ true) × (drop left s ≡ writing cs)
unfolding all_scalar writing read_from first
read_written [] at left cs h e = let c : [] ≡ cs = cc in rw (← c, drop-nil) (refl, refl)
read_written (x ∷ s) at (suc left) cs h e = read_written s (suc at) left cs (omega arith) e
read_written (x ∷ s) at zero cs h e = go (taken UTF8-char (x ∷ s)) refl e (λ n cs. read_written s (suc at) n cs)
  where
    go : (n : ℕ) → taken UTF8-char (x ∷ s) ≡ n
        → elim n [ zero ↦ bad_at at | suc n ↦ prepend (number (take (suc n) (x ∷ s))) (read_from (suc at) n s) ] ≡ scalars cs
        → ((n : ℕ) (cs : List ℕ) → n ≤ length s → read_from (suc at) n s ≡ scalars cs → (all_scalar cs ≡ true) × (drop n s ≡ writing cs))
        → (all_scalar cs ≡ true) × (x ∷ s ≡ writing cs)
    go zero t e ih = let z : ◌≡◌ {A = ℕ} 0 1 = cc in absurd (omega arith)
    go (suc n) t e ih =
        let m = prepended (number (take (suc n) (x ∷ s))) (read_from (suc at) n s) cs e in
        let r = ih n m.0 (first_len x s n t) m.1 in
        rw m.2 (first_all x s n t m.0 r.0, first_written x s n t m.0 [] (r.1 ∙ sym (append-nil _)) ∙ append-nil _)

pub writes_read : WritesRead
writes_read s cs e = let w = read_written s 0 0 cs (omega arith) e in (w.0, sym w.1)

bad_place : (s : List ℕ) (at left k : ℕ) → left ≤ length s → read_from at left s ≡ bad_at k
    → (cs : List ℕ) × (q : List ℕ) × (drop left s ≡ writing cs ++ q) × (at + left + length (writing cs) ≡ k) × (all_scalar cs ≡ true) × (0 < length q) × (taken UTF8-char q ≡ 0)
unfolding all_scalar writing read_from prepend
bad_place [] at left k h e = let z : ◌≡◌ {A = ℕ} 0 1 = cc in absurd (omega arith)
bad_place (x ∷ s) at (suc left) k h e =
    let b = bad_place s (suc at) left k (omega arith) e in
    (b.0, b.1, b.2, omega arith, b.4, b.5, b.6)
bad_place (x ∷ s) at zero k h e = go (taken UTF8-char (x ∷ s)) refl e (λ n. bad_place s (suc at) n k)
  where
    Bad : ℕ → ℕ → List ℕ → Type 0
    Bad at left s =
        (cs : List ℕ) × (q : List ℕ) × (drop left s ≡ writing cs ++ q) × (at + left + length (writing cs) ≡ k) × (all_scalar cs ≡ true) × (0 < length q) × (taken UTF8-char q ≡ 0)

    go : (n : ℕ) → taken UTF8-char (x ∷ s) ≡ n
        → elim n [ zero ↦ bad_at at | suc n ↦ prepend (number (take (suc n) (x ∷ s))) (read_from (suc at) n s) ] ≡ bad_at k
        → ((n : ℕ) → n ≤ length s → read_from (suc at) n s ≡ bad_at k → Bad (suc at) n s)
        → Bad at 0 (x ∷ s)
    go zero t e ih = let f : at ≡ k = cc in ([], x ∷ s, refl, omega arith, refl, omega arith, t)
    go (suc n) t e ih =
        let b = ih n (first_len x s n t) (bad_prepended _ _ k e) in
        let l : length (octets (first x s n t)) ≡ suc n = ap length (first_octets x s n t) ∙ simp length-take (omega (arith, first_len x s n t)) in
        (first x s n t ∷ b.0, b.1, first_written x s n t b.0 b.1 b.2, simp length-append (omega arith), first_all x s n t b.0 b.4, b.5, b.6)

pub bad_places : BadPlace
bad_places s k e = let b = bad_place s 0 0 k (omega arith) e in (b.0, b.1, b.2, omega arith, b.4, b.5, b.6)

pub lead_announces : LeadAnnounces
lead_announces = leads

-- what a call stored, where it was not refused
stored-done : (xs out : List ℕ) (n : ℕ) → (stored xs out).answer ≡ done n → take n (stored xs out).out ≡ xs
unfolding stored
stored-done xs out n e = go (ltb (length out) (length xs)) e
  where
    go : (b : Bool) → (cond b (outcome (refused 8 0) out) (outcome (done (length xs)) (over xs out))).answer ≡ done n
        → take n (cond b (outcome (refused 8 0) out) (outcome (done (length xs)) (over xs out))).out ≡ xs
    go true e = let z : ◌≡◌ {A = ℕ} 0 1 = cc in absurd (omega arith)
    go false e = let l : length xs ≡ n = cc in rw (← l, take-append_seam)

pub stored-room : (xs back : List ℕ) → length xs ≤ length back → stored xs back ≡ outcome (done (length xs)) (over xs back)
stored-room xs back h = sym (stored-all xs back (length xs) refl (over xs back) h refl)

pub decodes_encoded : DecodesEncoded
unfolding encoded decoded
decodes_encoded cs out back n e h = go (all_scalar cs) refl e
  where
    go : (b : Bool) → all_scalar cs ≡ b → (cond b (stored (writing cs) out) (outcome (refused 1 0) out)).answer ≡ done n
        → decoded (reading (take n (cond b (stored (writing cs) out) (outcome (refused 1 0) out)).out)) back ≡ outcome (done (length cs)) (over cs back)
    go true a e = rw (stored-done (writing cs) out n e, reads_written cs a) (stored-room cs back h)
    go false a e = let z : ◌≡◌ {A = ℕ} 0 1 = cc in absurd (omega arith)

pub encodes_decoded : EncodesDecoded
unfolding encoded decoded
encodes_decoded s out back n e h = go (reading s) refl e
  where
    go : (r : Reading) → reading s ≡ r → (decoded r out).answer ≡ done n → encoded (take n (decoded r out).out) back ≡ outcome (done (length s)) (over s back)
    go (scalars cs) q e = let w = writes_read s cs q in rw (stored-done cs out n e, w.0, w.1) (stored-room s back h)
    go (bad_at k) q e = let z : ◌≡◌ {A = ℕ} 0 1 = cc in absurd (omega arith)
