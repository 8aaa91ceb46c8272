-- The table of section 3 and the ABNF of section 4 agree on one sequence.
use mathlib.Core.Path.{◌≡◌, refl, ◌∙◌}
use mathlib.Core.Bool.{Bool, true, false, cond, ◌&&◌, and-false, false≢true}
use mathlib.Core.List.{List, [], ◌∷◌, ◌++◌}
use mathlib.Core.Logic.{◌⊎◌, ⊎_elim}
use Prim.Native.Nat.{ℕ, suc, ◌+◌, ◌*◌, ◌/◌, ◌%◌, ◌≤◌, ◌<◌}
use native.Mathlib.Nat.{div-add-mod'}
use native.Mathlib.Omega.{arith}
use borrow.Author.Tests.{leb-true, lt-leb}
use lib.Dec.{leb}
use lib.ListN.{length, take, drop}
use Rattle.utf8.specs.Rfc3629.{Range, UTF8-2, UTF8-3, UTF8-4, UTF8-char, UTF8-tail, within, begins, taken, scalar, octets, number}
use Rattle.promise.proofs.Bools.{both}
use Rattle.utf8.proofs.Numbers.{at_most, within-true, scalar-low, scalar-high, scalar-ranges, scalar-le, octets-1, octets-2, octets-3, octets-4}

-- what the table gives back for a sequence's number
abbrev pub Good : List ℕ → Type 0
Good s = (octets (number s) ≡ s) × (scalar (number s) ≡ true)

good-1 : (a : ℕ) → a ≤ 0x7F → Good (a ∷ [])
unfolding number
good-1 a h = (octets-1 a h, scalar-low a (omega arith))

good-2 : (a b : ℕ) → 0xC2 ≤ a → a ≤ 0xDF → 0x80 ≤ b → b ≤ 0xBF → Good (a ∷ b ∷ [])
unfolding number
good-2 a b la ha lb hb =
    let v : ℕ = a % 32 * 64 + b % 64 in
    let p : 0b110_00000 + v / 64 ≡ a = omega arith in
    let q : 0b10_000000 + v % 64 ≡ b = omega arith in
    (octets-2 v (omega arith) (omega arith) ∙ rw (p, q), scalar-low v (omega arith))

good-3 : (a b c : ℕ) → 0xE0 ≤ a → a ≤ 0xEF → 0x80 ≤ b → b ≤ 0xBF → 0x80 ≤ c → c ≤ 0xBF → 0x7FF < number (a ∷ b ∷ c ∷ [])
    → scalar (number (a ∷ b ∷ c ∷ [])) ≡ true → Good (a ∷ b ∷ c ∷ [])
unfolding number
good-3 a b c la ha lb hb lc hc l s =
    let v : ℕ = (a % 16 * 64 + b % 64) * 64 + c % 64 in
    let p : 0b1110_0000 + v / 64 / 64 ≡ a = omega arith in
    let q : 0b10_000000 + v / 64 % 64 ≡ b = omega arith in
    let r : 0b10_000000 + v % 64 ≡ c = omega arith in
    (octets-3 v l (omega arith) ∙ rw (p, q, r), s)

good-4 : (a b c d : ℕ) → 0xF0 ≤ a → a ≤ 0xF4 → 0x80 ≤ b → b ≤ 0xBF → 0x80 ≤ c → c ≤ 0xBF → 0x80 ≤ d → d ≤ 0xBF
    → 0xFFFF < number (a ∷ b ∷ c ∷ d ∷ []) → number (a ∷ b ∷ c ∷ d ∷ []) ≤ 0x10FFFF → Good (a ∷ b ∷ c ∷ d ∷ [])
unfolding number
good-4 a b c d la ha lb hb lc hc ld hd l h =
    let v : ℕ = ((a % 8 * 64 + b % 64) * 64 + c % 64) * 64 + d % 64 in
    let p : 0b11110_000 + v / 64 / 64 / 64 ≡ a = omega arith in
    let q : 0b10_000000 + v / 64 / 64 % 64 ≡ b = omega arith in
    let r : 0b10_000000 + v / 64 % 64 ≡ c = omega arith in
    let t : 0b10_000000 + v % 64 ≡ d = omega arith in
    (octets-4 v l ∙ rw (p, q, r, t), scalar-high v (omega arith) h)

-- From the ABNF to the table: whatever a rule takes is good.
In : Range → ℕ → Type 0
In r x = (r.0 ≤ x) × (x ≤ r.1)

in_range : (r : Range) (x : ℕ) (b : Bool) → (within r x && b) ≡ true → In r x × (b ≡ true)
unfolding In
in_range r x b e =
    let p = both (within r x) b e in
    let q = both (leb r.0 x) (leb x r.1) p.0 in
    ((leb-true _ _ q.0, leb-true _ _ q.1), p.1)

none : {A : Type 0} → false ≡ true → A
none e = absurd (false≢true e)

row-1 : (p : Range) → ((a : ℕ) → In p a → Good (a ∷ [])) → (s : List ℕ) → begins (p ∷ []) s ≡ true → Good (take 1 s)
unfolding begins
row-1 p g [] e = none e
row-1 p g (a ∷ s) e = g a (in_range p a _ e).0

row-2 : (p q : Range) → ((a b : ℕ) → In p a → In q b → Good (a ∷ b ∷ [])) → (s : List ℕ) → begins (p ∷ q ∷ []) s ≡ true → Good (take 2 s)
unfolding begins
row-2 p q g [] e = none e
row-2 p q g (a ∷ []) e = none (in_range p a _ e).1
row-2 p q g (a ∷ b ∷ s) e = let i = in_range p a _ e in let j = in_range q b _ i.1 in g a b i.0 j.0

row-3 : (p q r : Range) → ((a b c : ℕ) → In p a → In q b → In r c → Good (a ∷ b ∷ c ∷ [])) → (s : List ℕ) → begins (p ∷ q ∷ r ∷ []) s ≡ true → Good (take 3 s)
unfolding begins
row-3 p q r g [] e = none e
row-3 p q r g (a ∷ []) e = none (in_range p a _ e).1
row-3 p q r g (a ∷ b ∷ []) e = none (in_range q b _ (in_range p a _ e).1).1
row-3 p q r g (a ∷ b ∷ c ∷ s) e =
    let i = in_range p a _ e in let j = in_range q b _ i.1 in let k = in_range r c _ j.1 in g a b c i.0 j.0 k.0

row-4 : (p q r t : Range) → ((a b c d : ℕ) → In p a → In q b → In r c → In t d → Good (a ∷ b ∷ c ∷ d ∷ [])) → (s : List ℕ) → begins (p ∷ q ∷ r ∷ t ∷ []) s ≡ true
    → Good (take 4 s)
unfolding begins
row-4 p q r t g [] e = none e
row-4 p q r t g (a ∷ []) e = none (in_range p a _ e).1
row-4 p q r t g (a ∷ b ∷ []) e = none (in_range q b _ (in_range p a _ e).1).1
row-4 p q r t g (a ∷ b ∷ c ∷ []) e = none (in_range r c _ (in_range q b _ (in_range p a _ e).1).1).1
row-4 p q r t g (a ∷ b ∷ c ∷ d ∷ s) e =
    let i = in_range p a _ e in let j = in_range q b _ i.1 in let k = in_range r c _ j.1 in let l = in_range t d _ k.1 in
    g a b c d i.0 j.0 k.0 l.0

abbrev Sound : List (List Range) → Type 0
Sound rule = (s : List ℕ) (n : ℕ) → taken rule s ≡ suc n → Good (take (suc n) s)

sound_none : Sound []
unfolding taken
sound_none s n e = absurd (omega arith)

sound_row : (row : List Range) (rows : List (List Range)) → ((s : List ℕ) → begins row s ≡ true → Good (take (length row) s)) → Sound rows → Sound (row ∷ rows)
unfolding taken
sound_row row rows g f s n e = go (begins row s) refl e
  where
    go : (b : Bool) → begins row s ≡ b → cond b (length row) (taken rows s) ≡ suc n → Good (take (suc n) s)
    go true t e = rw (← e) (g s t)
    go false t e = f s n e

three : (p q : Range) → 0xE0 ≤ p.0 → p.1 ≤ 0xEF → 0x80 ≤ q.0 → q.1 ≤ 0xBF
    → ((a b c : ℕ) → In p a → In q b → In UTF8-tail c → (0x7FF < number (a ∷ b ∷ c ∷ [])) × (scalar (number (a ∷ b ∷ c ∷ [])) ≡ true))
    → (s : List ℕ) → begins (p ∷ q ∷ UTF8-tail ∷ []) s ≡ true → Good (take 3 s)
unfolding In
three p q lp hp lq hq v =
    row-3 p q UTF8-tail (λ a b c i j k. let w = v a b c i j k in good-3 a b c (omega arith) (omega arith) (omega arith) (omega arith) k.0 k.1 w.0 w.1)

four : (p q : Range) → 0xF0 ≤ p.0 → p.1 ≤ 0xF4 → 0x80 ≤ q.0 → q.1 ≤ 0xBF
    → ((a b c d : ℕ) → In p a → In q b → In UTF8-tail c → In UTF8-tail d → (0xFFFF < number (a ∷ b ∷ c ∷ d ∷ [])) × (number (a ∷ b ∷ c ∷ d ∷ []) ≤ 0x10FFFF))
    → (s : List ℕ) → begins (p ∷ q ∷ UTF8-tail ∷ UTF8-tail ∷ []) s ≡ true → Good (take 4 s)
unfolding In
four p q lp hp lq hq v =
    row-4 p q UTF8-tail UTF8-tail
    (λ a b c d i j k l. let w = v a b c d i j k l in
    good-4 a b c d (omega arith) (omega arith) (omega arith) (omega arith) k.0 k.1 l.0 l.1 w.0 w.1)

-- taken by UTF8-char: its number is a scalar, and the table writes it so
pub sound : Sound UTF8-char
unfolding In number
sound =
    sound_row _ _ (row-1 _ (λ a i. good-1 a i.1))
    (sound_row _ _ (row-2 _ _ (λ a b i j. good-2 a b i.0 i.1 j.0 j.1))
    (sound_row _ _ (three _ _ (omega arith) (omega arith) (omega arith) (omega arith) (λ a b c i j k. (omega arith, scalar-low _ (omega arith))))
    (sound_row _ _ (three _ _ (omega arith) (omega arith) (omega arith) (omega arith) (λ a b c i j k. (omega arith, scalar-low _ (omega arith))))
    (sound_row _ _ (three _ _ (omega arith) (omega arith) (omega arith) (omega arith) (λ a b c i j k. (omega arith, scalar-low _ (omega arith))))
    (sound_row _ _ (three _ _ (omega arith) (omega arith) (omega arith) (omega arith) (λ a b c i j k. (omega arith, scalar-high _ (omega arith) (omega arith))))
    (sound_row _ _ (four _ _ (omega arith) (omega arith) (omega arith) (omega arith) (λ a b c d i j k l. (omega arith, omega arith)))
    (sound_row _ _ (four _ _ (omega arith) (omega arith) (omega arith) (omega arith) (λ a b c d i j k l. (omega arith, omega arith)))
    (sound_row _ _ (four _ _ (omega arith) (omega arith) (omega arith) (omega arith) (λ a b c d i j k l. (omega arith, omega arith)))
    sound_none))))))))

-- From the table to the ABNF: a scalar's octets are taken, all of them, whatever follows.
over : (l h : ℕ) (row : List Range) (rows : List (List Range)) (x : ℕ) (s : List ℕ) → h < x → taken (((l, h) ∷ row) ∷ rows) (x ∷ s) ≡ taken rows (x ∷ s)
unfolding taken begins
over l h row rows x s k = rw (lt-leb x h k, and-false)

hit : (row : List Range) (rows : List (List Range)) (s : List ℕ) → begins row s ≡ true → taken (row ∷ rows) s ≡ length row
unfolding taken
hit row rows s e = rw e

module _ (x : ℕ) (s : List ℕ) where
  past-1 : 0x7F < x → taken UTF8-char (x ∷ s) ≡ taken (UTF8-2 ++ (UTF8-3 ++ UTF8-4)) (x ∷ s)
  past-1 h = over _ _ _ _ x s h

  past-2 : 0xDF < x → taken UTF8-char (x ∷ s) ≡ taken (UTF8-3 ++ UTF8-4) (x ∷ s)
  past-2 h = past-1 (omega arith) ∙ over _ _ _ _ x s h

  past-3 : 0xEF < x → taken UTF8-char (x ∷ s) ≡ taken UTF8-4 (x ∷ s)
  past-3 h = past-2 (omega arith) ∙ over _ _ _ _ x s (omega arith) ∙ over _ _ _ _ x s (omega arith) ∙ over _ _ _ _ x s (omega arith) ∙ over _ _ _ _ x s (omega arith)

fit : (p : Range) (row : List Range) (x : ℕ) (s : List ℕ) → p.0 ≤ x → x ≤ p.1 → begins row s ≡ true → begins (p ∷ row) (x ∷ s) ≡ true
unfolding begins
fit p row x s l h e = rw (within-true p.0 p.1 x l h, e)

fit_none : (s : List ℕ) → begins [] s ≡ true
unfolding begins
fit_none s = refl

pub takes-1 : (c : ℕ) (s : List ℕ) → c ≤ 0x7F → taken UTF8-char (c ∷ s) ≡ 1
takes-1 c s h = hit _ _ _ (fit _ _ c s (omega arith) h (fit_none s))

takes-2 : (a b : ℕ) (s : List ℕ) → 0xC2 ≤ a → a ≤ 0xDF → 0x80 ≤ b → b ≤ 0xBF → taken UTF8-char (a ∷ b ∷ s) ≡ 2
takes-2 a b s la ha lb hb = past-1 a (b ∷ s) (omega arith) ∙ hit _ _ _ (fit _ _ a _ la ha (fit _ _ b s lb hb (fit_none s)))

-- the four rows of UTF8-3, by the range that the number is in
takes-3 : (v : ℕ) (s : List ℕ) → 0x7FF < v → v ≤ 0xFFFF → (v ≤ 0xD7FF) ⊎ ((0xE000 ≤ v) × (v ≤ 0x10FFFF))
    → taken UTF8-char ((0b1110_0000 + v / 64 / 64) ∷ (0b10_000000 + v / 64 % 64) ∷ (0b10_000000 + v % 64) ∷ s) ≡ 3
takes-3 v s l h r =
    past-2 a (b ∷ c ∷ s) (omega arith)
    ∙ ⊎_elim row-E0 (λ m. skip _ _ _ _ (omega arith) ∙ ⊎_elim (row-E1 m) (λ n. skip _ _ _ _ (omega arith) ∙ ⊎_elim (row-ED n) row-EE r) (at_most v 0xCFFF)) (at_most v 0xFFF)
  where
    a : ℕ
    a = 0b1110_0000 + v / 64 / 64

    b : ℕ
    b = 0b10_000000 + v / 64 % 64

    c : ℕ
    c = 0b10_000000 + v % 64

    t : List ℕ
    t = a ∷ b ∷ c ∷ s

    skip : (l h : ℕ) (row : List Range) (rows : List (List Range)) → h < a → taken (((l, h) ∷ row) ∷ rows) t ≡ taken rows t
    skip l h row rows k = over l h row rows a (b ∷ c ∷ s) k

    row : (p q : Range) (rows : List (List Range)) → p.0 ≤ a → a ≤ p.1 → q.0 ≤ b → b ≤ q.1 → taken ((p ∷ q ∷ UTF8-tail ∷ []) ∷ rows) t ≡ 3
    row p q rows la ha lb hb = hit _ _ _ (fit p _ a _ la ha (fit q _ b _ lb hb (fit UTF8-tail _ c s (omega arith) (omega arith) (fit_none s))))

    row-E0 : v ≤ 0xFFF → taken (UTF8-3 ++ UTF8-4) t ≡ 3
    row-E0 k = row _ _ _ (omega arith) (omega arith) (omega arith) (omega arith)

    row-E1 : 0xFFF < v → v ≤ 0xCFFF → taken (drop 1 (UTF8-3 ++ UTF8-4)) t ≡ 3
    row-E1 m k = row _ _ _ (omega arith) (omega arith) (omega arith) (omega arith)

    row-ED : 0xCFFF < v → v ≤ 0xD7FF → taken (drop 2 (UTF8-3 ++ UTF8-4)) t ≡ 3
    row-ED n k = row _ _ _ (omega arith) (omega arith) (omega arith) (omega arith)

    row-EE : (0xE000 ≤ v) × (v ≤ 0x10FFFF) → taken (drop 2 (UTF8-3 ++ UTF8-4)) t ≡ 3
    row-EE k = skip _ _ _ _ (omega arith) ∙ row _ _ _ (omega arith) (omega arith) (omega arith) (omega arith)

-- and the three of UTF8-4
takes-4 : (v : ℕ) (s : List ℕ) → 0xFFFF < v → v ≤ 0x10FFFF
    → taken UTF8-char ((0b11110_000 + v / 64 / 64 / 64) ∷ (0b10_000000 + v / 64 / 64 % 64) ∷ (0b10_000000 + v / 64 % 64) ∷ (0b10_000000 + v % 64) ∷ s) ≡ 4
takes-4 v s l h =
    past-3 a (b ∷ c ∷ d ∷ s) (omega arith)
    ∙ ⊎_elim row-F0 (λ m. skip _ _ _ _ (omega arith) ∙ ⊎_elim (row-F1 m) row-F4 (at_most v 0xFFFFF)) (at_most v 0x3FFFF)
  where
    a : ℕ
    a = 0b11110_000 + v / 64 / 64 / 64

    b : ℕ
    b = 0b10_000000 + v / 64 / 64 % 64

    c : ℕ
    c = 0b10_000000 + v / 64 % 64

    d : ℕ
    d = 0b10_000000 + v % 64

    t : List ℕ
    t = a ∷ b ∷ c ∷ d ∷ s

    skip : (l h : ℕ) (row : List Range) (rows : List (List Range)) → h < a → taken (((l, h) ∷ row) ∷ rows) t ≡ taken rows t
    skip l h row rows k = over l h row rows a (b ∷ c ∷ d ∷ s) k

    row : (p q : Range) (rows : List (List Range)) → p.0 ≤ a → a ≤ p.1 → q.0 ≤ b → b ≤ q.1 → taken ((p ∷ q ∷ UTF8-tail ∷ UTF8-tail ∷ []) ∷ rows) t ≡ 4
    row p q rows la ha lb hb =
        hit _ _ _ (fit p _ a _ la ha (fit q _ b _ lb hb (fit UTF8-tail _ c _ (omega arith) (omega arith) (fit UTF8-tail _ d s (omega arith) (omega arith) (fit_none s)))))

    row-F0 : v ≤ 0x3FFFF → taken UTF8-4 t ≡ 4
    row-F0 k = row _ _ _ (omega arith) (omega arith) (omega arith) (omega arith)

    row-F1 : 0x3FFFF < v → v ≤ 0xFFFFF → taken (drop 1 UTF8-4) t ≡ 4
    row-F1 m k = row _ _ _ (omega arith) (omega arith) (omega arith) (omega arith)

    row-F4 : 0xFFFFF < v → taken (drop 1 UTF8-4) t ≡ 4
    row-F4 k = skip _ _ _ _ (omega arith) ∙ row _ _ _ (omega arith) (omega arith) (omega arith) (omega arith)

lead_bits : (x : ℕ) → x < 8 → (0b11110_000 + x) % 8 ≡ x
lead_bits x h = omega arith

tail_bits : (x : ℕ) → (0b10_000000 + x % 64) % 64 ≡ x % 64
tail_bits x = omega arith

number-4 : (v : ℕ) → v ≤ 0x10FFFF → number ((0b11110_000 + v / 64 / 64 / 64) ∷ (0b10_000000 + v / 64 / 64 % 64) ∷ (0b10_000000 + v / 64 % 64) ∷ (0b10_000000 + v % 64) ∷ []) ≡ v
unfolding number
number-4 v h =
    rw (lead_bits (v / 64 / 64 / 64) (omega arith), tail_bits (v / 64 / 64), tail_bits (v / 64), tail_bits v, div-add-mod' (v / 64 / 64) 64, div-add-mod' (v / 64) 64, div-add-mod' v 64)

-- the octets of a scalar, whatever follows, are taken whole, and are its number
pub complete : (v : ℕ) (s : List ℕ) → scalar v ≡ true → (taken UTF8-char (octets v ++ s) ≡ length (octets v)) × (number (octets v) ≡ v)
unfolding number
complete v s e =
    ⊎_elim (λ h. rw (octets-1 v h) (takes-1 v s h, refl))
    (λ l. ⊎_elim (λ h. rw (octets-2 v l h) (takes-2 _ _ s (omega arith) (omega arith) (omega arith) (omega arith), omega arith))
    (λ m. ⊎_elim (λ h. rw (octets-3 v m h) (takes-3 v s m h (scalar-ranges v e), omega arith))
    (λ n. rw (octets-4 v n) (takes-4 v s n (scalar-le v e), number-4 v (scalar-le v e))) (at_most v 0xFFFF)) (at_most v 0x7FF)) (at_most v 0x7F)
