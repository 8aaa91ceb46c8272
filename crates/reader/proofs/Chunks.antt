-- The strings of a block, one after another.
use mathlib.Core.Path.{◌≡◌, refl, sym, ap, ◌∙◌}
use mathlib.Core.Bool.{true}
use mathlib.Core.List.{List, [], ◌∷◌, ◌++◌, map, flatten, append_assoc, append-nil}
use Prim.Native.Nat.{ℕ, zero, suc, ◌+◌, ◌-◌, ◌≤◌, ◌<◌}
use native.Mathlib.Nat.{zero-add, add-zero}
use native.Mathlib.Decide.{dec_le}
use native.Mathlib.Numerals.{add-one}
use native.Mathlib.Omega.{arith}
use lib.ListN.{length, take, drop, get_or, set, length-append, length-take, length-drop}
use lib.Seq.{paste, drop-cons, take-suc, take_all}
use Rattle.promise.specs.Paper.{Paper, done, refused}
use Rattle.promise.specs.Slices.{over}
use Rattle.promise.proofs.Bools.{clash}
use Rattle.promise.proofs.Lists.{over-more}
use Rattle.promise.proofs.Lists.{paste-behind}
use Rattle.utf8.specs.Reading.{Reading, scalars, bad_at, reading}
use Rattle.utf8.specs.Calls.{counted, scalars_of, Fillable}
use Rattle.utf8.proofs.Readings.{counted-done}
use Rattle.frame.specs.Numbers.{number_in}
use Rattle.frame.specs.Forms.{Cut, broken, cut, is_cut, before, strings_in}
use Rattle.frame.specs.Reads.{Contents, chars, bad_from, ahead, contents}
use Rattle.frame.proofs.Strings.{strings_none, strings_next, cut_torn, cut_next}
use Rattle.reader.specs.Calls.{strings_of, tallied}
use Rattle.reader.proofs.Decodes.{bad_within}
use Rattle.reader.proofs.Behinds.{scalars_fewer}

-- the strings from offset a on, and their contents
abbrev pub rest : List ℕ → ℕ → Contents
rest s a = contents (13 + a) (strings_of (strings_in (drop a s)))

-- the string at offset a, behind its length n, as it is lent
abbrev pub part : List ℕ → ℕ → ℕ → List ℕ
part s a n = take (a + 4 + n - (a + 4)) (drop (a + 4) s)

strings_before : (k : List ℕ) (c : Cut) → is_cut c ≡ true → strings_of (before k c) ≡ k ∷ strings_of c
unfolding strings_of before is_cut
strings_before k broken e = cc
strings_before k (cut ks) e = refl

pub rest_none : (s : List ℕ) (a : ℕ) → length s ≤ a → rest s a ≡ chars []
unfolding contents strings_of
rest_none s a h = rw (strings_none s a h)

-- what a string at the frame's offset `at` is read as, before those behind it
abbrev onwards : ℕ → Reading → Contents → Contents
onwards at (scalars cs) c = ahead cs c
onwards at (bad_at j) c = bad_from (at + j)

contents-first : (at b : ℕ) (k : List ℕ) (ks : List (List ℕ)) → at + length k + 4 ≡ b → contents at (k ∷ ks) ≡ onwards at (reading k) (contents b ks)
unfolding contents
contents-first at b k ks e = go (reading k)
  where
    go : (r : Reading) → elim r [ scalars cs ↦ ahead cs (contents (at + length k + 4) ks) | bad_at j ↦ bad_from (at + j) ] ≡ onwards at r (contents b ks)
    go (scalars cs) = ap (λ (i : ℕ). ahead cs (contents i ks)) e
    go (bad_at j) = refl

module _ (s : List ℕ) (a n : ℕ) (q : n ≡ number_in s a) (h : a < length s) (sound : is_cut (strings_in (drop a s)) ≡ true) where
  pub string_within : a + 4 + n ≤ length s
  string_within =
      elim (dec_le (a + (4 + number_in s a)) (length s)) [
        | yes k ↦ omega arith
        | no k ↦ absurd (clash sound (cut_torn s a h (omega arith)))
      ]

  pub part_length : length (part s a n) ≡ n
  part_length = let w = string_within in simp (length-take, length-drop) (omega arith)

  pub sound_next : is_cut (strings_in (drop (a + 4 + n) s)) ≡ true
  sound_next =
      let w = string_within in
      let e : a + (4 + number_in s a) ≡ a + 4 + n = omega arith in
      rw e at (sym (cut_next s a (omega arith)) ∙ sound)

  strings_first : strings_of (strings_in (drop a s)) ≡ part s a n ∷ strings_of (strings_in (drop (a + 4 + n) s))
  strings_first =
      let w = string_within in
      let e : a + (4 + number_in s a) ≡ a + 4 + n = omega arith in
      let d : a + 4 + n - (a + 4) ≡ number_in s a = omega arith in
      ap strings_of (strings_next s a (omega arith)) ∙ rw (e, d) (strings_before (take (number_in s a) (drop (a + 4) s)) (strings_in (drop (a + 4 + n) s)) sound_next)

  rest_first : rest s a ≡ onwards (13 + a) (reading (part s a n)) (rest s (a + 4 + n))
  rest_first =
      let e : 13 + a + length (part s a n) + 4 ≡ 13 + (a + 4 + n) = omega (arith, part_length) in
      ap (contents (13 + a)) strings_first ∙ contents-first (13 + a) (13 + (a + 4 + n)) (part s a n) (strings_of (strings_in (drop (a + 4 + n) s))) e

-- Counting: n strings and m characters are behind, and those of c are still to come.
abbrev pub tallying : ℕ → ℕ → Contents → Paper (ℕ × ℕ)
tallying n m (chars xs) = done (n + length xs, m + length (flatten xs))
tallying n m (bad_from k) = refused 5 k

pub tally_none : (c : Contents) → tallying 0 0 c ≡ tallied c
unfolding tallied
tally_none (chars xs) = rw (zero-add (length xs), zero-add (length (flatten xs)))
tally_none (bad_from k) = refl

tally_one : (n m : ℕ) (cs : List ℕ) (c : Contents) → tallying n m (ahead cs c) ≡ tallying (n + 1) (m + length cs) c
unfolding ahead flatten
tally_one n m cs (chars xs) =
    let e : n + suc (length xs) ≡ n + 1 + length xs = omega arith in
    let f : m + length (cs ++ flatten xs) ≡ m + length cs + length (flatten xs) = simp length-append (omega arith) in
    rw (e, f)
tally_one n m cs (bad_from k) = refl

counted-bad : (r : Reading) (j : ℕ) → refused 5 j ≡ counted r → r ≡ bad_at j
unfolding counted
counted-bad (scalars cs) j e = let z : ◌≡◌ {A = ℕ} 0 1 = cc in absurd (omega arith)
counted-bad (bad_at i) j e = let f : j ≡ i = cc in rw f

module _ (s : List ℕ) (a n m l : ℕ) (w : Paper (ℕ × ℕ)) (q : l ≡ number_in s a) (h : a < length s) (sound : is_cut (strings_in (drop a s)) ≡ true)
    (inv : tallying n m (rest s a) ≡ w) where
  pub tally_again : (k : ℕ) → done k ≡ counted (reading (part s a l)) → (k ≤ l) × (tallying (n + 1) (m + k) (rest s (a + 4 + l)) ≡ w)
  tally_again k e =
      let d = counted-done (reading (part s a l)) k e in
      let f : rest s a ≡ ahead (scalars_of (reading (part s a l))) (rest s (a + 4 + l)) =
      rest_first s a l q h sound ∙ ap (λ (r : Reading). onwards (13 + a) r (rest s (a + 4 + l))) d.0 in (
        omega (arith, scalars_fewer (part s a l) d.0, part_length s a l q h sound),
        rw d.1 at (sym (tally_one n m (scalars_of (reading (part s a l))) (rest s (a + 4 + l))) ∙ ap (tallying n m) (sym f) ∙ inv),
      )

  pub tally_bad : (j : ℕ) → refused 5 j ≡ counted (reading (part s a l)) → (j < l) × (refused 5 (a + 4 + 9 + j) ≡ w)
  tally_bad j e =
      let d = counted-bad (reading (part s a l)) j e in
      let f : rest s a ≡ bad_from (13 + a + j) = rest_first s a l q h sound ∙ ap (λ (r : Reading). onwards (13 + a) r (rest s (a + 4 + l))) d in
      let g : 13 + a + j ≡ a + 4 + 9 + j = omega arith in
      (omega (arith, bad_within (part s a l) j d, part_length s a l q h sound), rw g at (ap (tallying n m) (sym f) ∙ inv))

pub tally_all : (s : List ℕ) (a n m : ℕ) (w : Paper (ℕ × ℕ)) → length s ≤ a → tallying n m (rest s a) ≡ w → done (n, m) ≡ w
unfolding flatten
tally_all s a n m w h inv = rw (add-zero n, add-zero m) at (ap (tallying n m) (sym (rest_none s a h)) ∙ inv)

-- Filling: the first n of the strings xs stand in the slices, and the others are still to come.
flat-snoc : (xs : List (List ℕ)) (c : List ℕ) → flatten (xs ++ (c ∷ [])) ≡ flatten xs ++ c
unfolding flatten
flat-snoc [] c = rw append-nil
flat-snoc (x ∷ xs) c = rw (flat-snoc xs c, append_assoc)

map_snoc : (xs : List (List ℕ)) (c : List ℕ) → map length (xs ++ (c ∷ [])) ≡ map length xs ++ (length c ∷ [])
map_snoc [] c = refl
map_snoc (x ∷ xs) c = rw (map_snoc xs c)

pub length-lengths : (xs : List (List ℕ)) → length (map length xs) ≡ length xs
length-lengths [] = refl
length-lengths (x ∷ xs) = rw (length-lengths xs)

flat-room : (xs : List (List ℕ)) (n : ℕ) → n < length xs → length (flatten (take n xs)) + length (get_or xs n []) ≤ length (flatten xs)
unfolding flatten
flat-room [] n h = absurd (omega arith)
flat-room (x ∷ xs) zero h = simp length-append (omega arith)
flat-room (x ∷ xs) (suc n) h = let k = flat-room xs n (omega arith) in simp length-append (omega arith)

aheads : (cs : List ℕ) (c : Contents) (ys : List (List ℕ)) → ahead cs c ≡ chars ys → (zs : List (List ℕ)) × (c ≡ chars zs) × (ys ≡ cs ∷ zs)
unfolding ahead
aheads cs (chars zs) ys e = (zs, refl, cc)
aheads cs (bad_from k) ys e = let z : ◌≡◌ {A = ℕ} 0 1 = cc in absurd (omega arith)

onward_chars : (at : ℕ) (r : Reading) (c : Contents) (ys : List (List ℕ)) → onwards at r c ≡ chars ys
    → (r ≡ scalars (scalars_of r)) × (zs : List (List ℕ)) × (c ≡ chars zs) × (ys ≡ scalars_of r ∷ zs)
unfolding scalars_of
onward_chars at (scalars cs) c ys e = let z = aheads cs c ys e in (refl, z.0, z.1, z.2)
onward_chars at (bad_at j) c ys e = let z : ◌≡◌ {A = ℕ} 0 1 = cc in absurd (omega arith)

-- what a turn leaves: of m characters and n numbers there are c and one more
abbrev pub Turned : List ℕ → List (List ℕ) → ℕ → ℕ → ℕ → ℕ → ℕ → List ℕ → List ℕ → List ℕ → List ℕ → Type 0
Turned s xs a n l m c p₀ f₀ f t =
    (n < length xs)
    × (c ≤ l)
    × (m + c ≤ length (flatten xs))
    × (rest s (a + 4 + l) ≡ chars (drop (n + 1) xs))
    × (m + c ≡ length (flatten (take (n + 1) xs)))
    × (t ≡ over (flatten (take (n + 1) xs)) p₀)
    × (set f n c ≡ over (map length (take (n + 1) xs)) f₀)

module _ (s : List ℕ) (xs : List (List ℕ)) (a n l : ℕ) (q : l ≡ number_in s a) (h : a < length s) (sound : is_cut (strings_in (drop a s)) ≡ true)
    (inv : rest s a ≡ chars (drop n xs)) where
  abbrev cs : List ℕ
  cs = scalars_of (reading (part s a l))

  next_chars : (reading (part s a l) ≡ scalars cs) × (n < length xs) × (get_or xs n [] ≡ cs) × (rest s (a + 4 + l) ≡ chars (drop (n + 1) xs))
  next_chars =
      let o = onward_chars (13 + a) (reading (part s a l)) (rest s (a + 4 + l)) (drop n xs) (sym (rest_first s a l q h sound) ∙ inv) in
      let k : n < length xs = omega (arith, simp length-drop at (ap length o.3)) in
      let d : get_or xs n [] ∷ drop (n + 1) xs ≡ cs ∷ o.1 = rw (add-one, ← drop-cons xs n [] k) o.3 in
      let e : o.1 ≡ drop (n + 1) xs = cc in
      (o.0, k, cc, o.2 ∙ ap chars e)

  pub chunk_fits : (m p : ℕ) → m ≡ length (flatten (take n xs)) → length (flatten xs) ≤ p → (m ≤ p) × Fillable (reading (part s a l)) (p - m)
  chunk_fits m p e r =
      let k = next_chars in
      let f = flat-room xs n k.1 in
      let g : length (get_or xs n []) ≡ length cs = ap length k.2 in
      (omega arith, (k.0, omega arith))

  flat-next : flatten (take (n + 1) xs) ≡ flatten (take n xs) ++ cs
  flat-next = let k = next_chars in let j : n < length xs = k.1 in rw (add-one, take-suc xs n [] j, k.2, flat-snoc)

  lengths_next : map length (take (n + 1) xs) ≡ map length (take n xs) ++ (length cs ∷ [])
  lengths_next = let k = next_chars in let j : n < length xs = k.1 in rw (add-one, take-suc xs n [] j, k.2, map_snoc)

  -- a turn stored c, the number of the characters, and p became t
  pub chunk_again : (m c : ℕ) (p₀ f₀ p f t : List ℕ) → m ≡ length (flatten (take n xs)) → p ≡ over (flatten (take n xs)) p₀ → f ≡ over (map length (take n xs)) f₀
      → c ≡ length cs → t ≡ paste p m cs (length cs) → length xs ≤ length f₀ → Turned s xs a n l m c p₀ f₀ f t
  chunk_again m c p₀ f₀ p f t em ep ef ec et r =
      let k = next_chars in
      let room = flat-room xs n k.1 in
      let g : length (get_or xs n []) ≡ length cs = ap length k.2 in
      let j : length (map length (take n xs)) ≡ n = length-lengths (take n xs) ∙ length-take n xs ∙ omega arith in (
        k.1,
        omega (arith, scalars_fewer (part s a l) k.0, part_length s a l q h sound),
        omega arith,
        k.3,
        rw (flat-next, length-append, em, ec),
        et ∙ rw (ep, flat-next) (paste-behind (flatten (take n xs)) cs p₀ m (length cs) (sym em) refl),
        over-more f (map length (take n xs)) f₀ n c ef j (omega arith) ∙ rw (lengths_next, ec),
      )

pub chunks_all : (s : List ℕ) (xs : List (List ℕ)) (a n : ℕ) (p₀ f₀ p f : List ℕ) → length s ≤ a → n ≤ length xs → rest s a ≡ chars (drop n xs)
    → p ≡ over (flatten (take n xs)) p₀ → f ≡ over (map length (take n xs)) f₀ → (p ≡ over (flatten xs) p₀) × (f ≡ over (map length xs) f₀)
chunks_all s xs a n p₀ f₀ p f h k inv ep ef =
    let d : chars [] ≡ chars (drop n xs) = sym (rest_none s a h) ∙ inv in
    let e : [] ≡ drop n xs = cc in
    let t : take n xs ≡ xs = take_all n xs (omega (arith, simp length-drop at (ap length e))) in
    (rw t at ep, rw t at ef)
