-- Strings of UTF-8 with their lengths before them, and the characters in them.
use mathlib.Core.Path.{◌≡◌, refl, sym, ap, ◌∙◌}
use mathlib.Core.Bool.{Bool, true, false, cond}
use mathlib.Core.List.{List, [], ◌∷◌, ◌++◌, map, flatten, append-nil}
use mathlib.Core.Logic.{⊎_elim}
use Prim.Native.Nat.{ℕ, zero, suc, ◌+◌, ◌/◌, ◌%◌, ◌≤◌, ◌<◌}
use native.Mathlib.Omega.{arith}
use borrow.Author.Tests.{leb-true, eqb-true, le-leb, ne_eqb}
use lib.Dec.{leb, eqb}
use lib.ListN.{length, take, drop, length-append, length-drop, drop_of_length-le, take-append-drop}
use lib.Seq.{length-take-le, take-append_seam, drop-append_seam, drop-append-add, drop-drop}
use Rattle.promise.proofs.Bools.{both, both_true}
use Rattle.utf8.specs.Rfc3629.{scalar, octets}
use Rattle.utf8.specs.Reading.{Reading, scalars, bad_at, reading, all_scalar, writing}
use Rattle.utf8.proofs.Numbers.{scalar-le, at_most, octets-1, octets-2, octets-3, octets-4}
use Rattle.utf8.proofs.Parts.{scalars_append}
use Rattle.utf8.proofs.Theorems.{reads_written, writes_read}
use Rattle.hexline.specs.Theorems.{Bytes}
use Rattle.frame.specs.Numbers.{number, number_in}
use Rattle.frame.specs.Format.{chunk_bytes}
use Rattle.frame.specs.Forms.{Cut, broken, cut, before, strings_from, strings_in}
use Rattle.frame.specs.Reads.{Contents, chars, bad_from, ahead, contents}
use Rattle.frame.proofs.RoundNumbers.{bytes_nil, bytes_cons, bytes_append, bytes_drop, number-joins, number-bytes, number_at}

pub one-flat : (k : List ℕ) → flatten (k ∷ []) ≡ k
unfolding flatten
one-flat k = append-nil k

-- ---- octets are bytes

-- the octets behind the first
tail_byte : (x : ℕ) (t : List ℕ) → Bytes t → Bytes ((0b10_000000 + x % 64) ∷ t)
tail_byte x t e = bytes_cons (0b10_000000 + x % 64) t (omega arith) e

octets-bytes : (c : ℕ) → scalar c ≡ true → Bytes (octets c)
octets-bytes c e =
    let h = scalar-le c e in
    let t1 = tail_byte c [] bytes_nil in
    let t2 = tail_byte (c / 64) _ t1 in
    let t3 = tail_byte (c / 64 / 64) _ t2 in
    ⊎_elim (λ k. rw (octets-1 c k) (bytes_cons c [] (omega arith) bytes_nil))
    (λ l. ⊎_elim (λ k. rw (octets-2 c l k) (bytes_cons (0b110_00000 + c / 64) _ (omega arith) t1))
    (λ m. ⊎_elim (λ k. rw (octets-3 c m k) (bytes_cons (0b1110_0000 + c / 64 / 64) _ (omega arith) t2))
    (λ n. rw (octets-4 c n) (bytes_cons (0b11110_000 + c / 64 / 64 / 64) _ (omega arith) t3)) (at_most c 0xFFFF)) (at_most c 0x7FF)) (at_most c 0x7F)

pub writing-bytes : (cs : List ℕ) → all_scalar cs ≡ true → Bytes (writing cs)
unfolding writing all_scalar
writing-bytes [] e = bytes_nil
writing-bytes (c ∷ cs) e =
    let b = both (scalar c) (all_scalar cs) e in
    bytes_append (octets c) (writing cs) (octets-bytes c b.0) (writing-bytes cs b.1)

-- ---- strings behind their lengths

string_bytes : List (List ℕ) → List ℕ
string_bytes [] = []
string_bytes (k ∷ ks) = number (length k) ++ (k ++ string_bytes ks)

chunk_strings : (ks : List (List ℕ)) → chunk_bytes ks ≡ string_bytes (map writing ks)
unfolding chunk_bytes string_bytes
chunk_strings [] = refl
chunk_strings (k ∷ ks) = rw (chunk_strings ks)

strings_many : (ks : List (List ℕ)) → length ks ≤ length (string_bytes ks)
unfolding string_bytes
strings_many [] = omega arith
strings_many (k ∷ ks) = omega (arith, strings_many ks, length-append k (string_bytes ks))

strings_step : (n : ℕ) (k s : List ℕ) → strings_from (suc n) (number (length k) ++ (k ++ s)) ≡ before k (strings_from n s)
unfolding strings_from number_in
strings_step n k s =
    let t = number (length k) ++ (k ++ s) in
    let l : length t ≡ 4 + (length k + length s) = omega (arith, length-append k s) in
    rw (number-joins (length k), ne_eqb (length t) 0 (λ e. absurd (omega arith)), le-leb (4 + length k) (length t) (omega arith))
    (rw (take-append_seam k s, drop-append-add (number (length k)) (k ++ s) (length k), drop-append_seam k s))

strings_back : (n : ℕ) (ks : List (List ℕ)) → length ks ≤ n → strings_from n (string_bytes ks) ≡ cut ks
unfolding string_bytes strings_from before
strings_back zero [] h = refl
strings_back zero (k ∷ ks) h = absurd (omega arith)
strings_back (suc n) [] h = refl
strings_back (suc n) (k ∷ ks) h = strings_step n k (string_bytes ks) ∙ ap (before k) (strings_back n ks (omega arith))

pub strings_read : (ks : List (List ℕ)) → strings_in (chunk_bytes ks) ≡ cut (map writing ks)
strings_read ks = rw (chunk_strings ks) (strings_back _ (map writing ks) (strings_many (map writing ks)))

pub before-cut : (k : List ℕ) (c : Cut) (ks : List (List ℕ)) → before k c ≡ cut ks → (js : List (List ℕ)) × (c ≡ cut js) × (k ∷ js ≡ ks)
unfolding before
before-cut k broken ks e = let z : ◌≡◌ {A = ℕ} 0 1 = cc in absurd (omega arith)
before-cut k (cut js) ks e = (js, refl, cc)

-- one string, and what stands behind it
string_again : (k : ℕ) (s : List ℕ) → Bytes s → number_in s 0 ≡ k → 4 + k ≤ length s → number (length (take k (drop 4 s))) ++ (take k (drop 4 s) ++ drop (4 + k) s) ≡ s
string_again k s b e h =
    let l = length-drop 4 s in
    rw (length-take-le k (drop 4 s) (omega arith), ← drop-drop k 4 s, take-append-drop k (drop 4 s), ← e) (number_at s 0 b (omega arith))

strings_again : (n : ℕ) (s : List ℕ) (ks : List (List ℕ)) → Bytes s → length s ≤ n → strings_from n s ≡ cut ks → string_bytes ks ≡ s
unfolding strings_from string_bytes
strings_again zero [] ks b h e = let c : [] ≡ ks = cc in rw (← c)
strings_again zero (x ∷ s) ks b h e = absurd (omega arith)
strings_again (suc n) s ks b h e =
    go (eqb (length s) 0) (leb (4 + number_in s 0) (length s)) refl refl e (λ js f. strings_again n (drop (4 + number_in s 0) s) js (bytes_drop (4 + number_in s 0) s b) (omega (arith, length-drop (4 + number_in s 0) s)) f)
  where
    rest : Cut
    rest = strings_from n (drop (4 + number_in s 0) s)

    head : List ℕ
    head = take (number_in s 0) (drop 4 s)

    go : (t u : Bool) → eqb (length s) 0 ≡ t → leb (4 + number_in s 0) (length s) ≡ u → cond t (cut []) (cond u (before head rest) broken) ≡ cut ks
        → ((js : List (List ℕ)) → rest ≡ cut js → string_bytes js ≡ drop (4 + number_in s 0) s)
        → string_bytes ks ≡ s
    go true u p q f ih =
        let l = eqb-true (length s) 0 p in
        let c : [] ≡ ks = cc in
        rw (← c) (sym (drop_of_length-le s {i = 0} (omega arith)))
    go false true p q f ih =
        let c = before-cut head rest ks f in
        rw (← c.2, ih c.0 c.1) (string_again (number_in s 0) s b refl (leb-true _ _ q))
    go false false p q f ih = let z : ◌≡◌ {A = ℕ} 0 1 = cc in absurd (omega arith)

-- ---- the characters of some strings

pub contents-read : (at : ℕ) (xs : List (List ℕ)) → all_scalar (flatten xs) ≡ true → contents at (map writing xs) ≡ chars xs
unfolding contents ahead flatten
contents-read at [] e = refl
contents-read at (x ∷ xs) e =
    let b = both (all_scalar x) (all_scalar (flatten xs)) (sym (scalars_append x (flatten xs)) ∙ e) in
    rw (contents, reads_written x b.0, contents-read (at + length (writing x) + 4) xs b.1)

ahead-chars : (cs : List ℕ) (c : Contents) (xs : List (List ℕ)) → ahead cs c ≡ chars xs → (ys : List (List ℕ)) × (c ≡ chars ys) × (cs ∷ ys ≡ xs)
unfolding ahead
ahead-chars cs (chars ys) xs e = (ys, refl, cc)
ahead-chars cs (bad_from k) xs e = let z : ◌≡◌ {A = ℕ} 0 1 = cc in absurd (omega arith)

pub contents-written : (at : ℕ) (ks xs : List (List ℕ)) → contents at ks ≡ chars xs → (map writing xs ≡ ks) × (all_scalar (flatten xs) ≡ true)
unfolding contents flatten all_scalar
contents-written at [] xs e = let c : [] ≡ xs = cc in rw (← c) (refl, refl)
contents-written at (k ∷ ks) xs e = go (reading k) refl e (λ ys f. contents-written (at + length k + 4) ks ys f)
  where
    rest : Contents
    rest = contents (at + length k + 4) ks

    go : (r : Reading) → reading k ≡ r → elim r [ scalars cs ↦ ahead cs rest | bad_at j ↦ bad_from (at + j) ] ≡ chars xs
        → ((ys : List (List ℕ)) → rest ≡ chars ys → (map writing ys ≡ ks) × (all_scalar (flatten ys) ≡ true))
        → (map writing xs ≡ k ∷ ks) × (all_scalar (flatten xs) ≡ true)
    go (scalars cs) q f ih =
        let a = ahead-chars cs rest xs f in
        let w = writes_read k cs q in
        let r = ih a.0 a.1 in
        rw (← a.2) (rw (w.1, r.0), scalars_append cs (flatten a.0) ∙ both_true w.0 r.1)
    go (bad_at j) q f ih = let z : ◌≡◌ {A = ℕ} 0 1 = cc in absurd (omega arith)

-- ---- chunks

pub chunks_written : (s : List ℕ) (ks xs : List (List ℕ)) → Bytes s → strings_in s ≡ cut ks → map writing xs ≡ ks → chunk_bytes xs ≡ s
chunks_written s ks xs b e f = chunk_strings xs ∙ rw f (strings_again (length s) s ks b (omega arith) e)

pub chunks_bytes : (ks : List (List ℕ)) → all_scalar (flatten ks) ≡ true → length (chunk_bytes ks) < 4_294_967_296 → Bytes (chunk_bytes ks)
unfolding chunk_bytes flatten
chunks_bytes [] e h = bytes_nil
chunks_bytes (k ∷ ks) e h =
    let b = both (all_scalar k) (all_scalar (flatten ks)) (sym (scalars_append k (flatten ks)) ∙ e) in
    let l = length-append (writing k) (chunk_bytes ks) in
    let rest = bytes_append (writing k) (chunk_bytes ks) (writing-bytes k b.0) (chunks_bytes ks b.1 (omega arith)) in
    bytes_append (number (length (writing k))) (writing k ++ chunk_bytes ks) (number-bytes (length (writing k)) (omega arith)) rest
