-- One split more, on the rows and on the flat text.
use mathlib.Core.Path.{◌≡◌, refl, sym, ◌∙◌}
use mathlib.Core.Bool.{Bool, true, false, cond, not, ◌&&◌}
use mathlib.Core.List.{List, [], ◌∷◌, ◌++◌, append_assoc}
use Prim.Native.Nat.{ℕ, zero, suc, ◌+◌, ◌-◌, ◌≤◌, ◌<◌, min}
use native.Mathlib.Nat.{min-eq_left, min-eq_right}
use native.Mathlib.Decide.{dec_le}
use native.Mathlib.Omega.{arith}
use lib.Dec.{eqb, eqb-suc-zero}
use lib.ListN.{length, take, drop, get_or, length-append, length-drop, drop_of_length-le}
use lib.Seq.{slice, length-slice, drop-cons, drop-drop, get_or-drop, get_or-take, take-length, take-append-le, drop-append-le, take-append-add, drop-append-add}
use Rattle.promise.proofs.Lists.{take_min, take-both}
use Rattle.text.specs.declared.CharOffset.{CharOffset}
use Rattle.text.specs.Rows.{Line, line, unlines, char_at, spliced}
use Rattle.text.specs.Text.{is_lf}
use Rattle.text.proofs.Broken.{unlines-append}
use Rattle.edit.specs.Edits.{unspace, split_first, split_row}
use Rattle.edit.specs.Refusals.{is_space, spaces}
use Rattle.joins.specs.Turns.{gone_at, split_turn}

-- ---- what goes

unspace-drop : (f : ℕ) (s : List ℕ) → (unspace is_lf is_space spaces f s ≡ drop (length s - length (unspace is_lf is_space spaces f s)) s) × (length s - length (unspace is_lf is_space spaces f s) ≤ 1)
unfolding unspace
unspace-drop zero s = let z : length s - length s ≡ 0 = omega arith in rw z (refl, omega arith)
unspace-drop (suc f) [] = (refl, omega arith)
unspace-drop (suc f) (x ∷ s) = go (is_space x)
  where
    go : (b : Bool) → (cond b s (x ∷ s) ≡ drop (suc (length s) - length (cond b s (x ∷ s))) (x ∷ s)) × (suc (length s) - length (cond b s (x ∷ s)) ≤ 1)
    go true = let z : suc (length s) - length s ≡ 1 = omega arith in rw z (refl, omega arith)
    go false = let z : suc (length s) - suc (length s) ≡ 0 = omega arith in rw z (refl, omega arith)

pub gone_one : (z : List ℕ) (c f : ℕ) → gone_at z c f ≤ 1
unfolding gone_at
gone_one z c f = (unspace-drop f (drop c z)).1

pub gone_within : (z : List ℕ) (c f : ℕ) → min c (length z) + gone_at z c f ≤ length z
unfolding gone_at
gone_within z c f = omega (arith, length-drop c z)

-- what is left behind the column
unspace-rest : (z : List ℕ) (c f : ℕ) → unspace is_lf is_space spaces f (drop c z) ≡ drop (min c (length z) + gone_at z c f) z
unfolding gone_at
unspace-rest z c f = (unspace-drop f (drop c z)).0 ∙ drop-drop (gone_at z c f) c z ∙ clamped
  where
    clamped : drop (c + gone_at z c f) z ≡ drop (min c (length z) + gone_at z c f) z
    clamped = elim (dec_le c (length z)) [
      | yes h ↦ rw (min-eq_left h)
      | no h ↦ (let k : length z ≤ c = omega arith in rw (min-eq_right k, drop_of_length-le z {i = c + gone_at z c f} (omega arith), drop_of_length-le z {i = length z + gone_at z c f} (omega arith)))
    ]

-- ---- a split of the first of some rows

pub split-body : (z : Line ℕ) (zs : List (Line ℕ)) (c f : ℕ)
    → unlines (split_first is_lf is_space spaces c f (z ∷ zs)) ≡ spliced (unlines (z ∷ zs)) (min c (length z.body)) (min c (length z.body) + gone_at z.body c f) (10 ∷ [])
unfolding split_first unlines
split-body z zs c f =
    let w = z.body in
    let g = gone_within w c f in
    let R = z.after ++ unlines zs in
    rw (take_min c w, unspace-rest w c f, take-append-le (min c (length w)) w R (omega arith), drop-append-le (min c (length w) + gone_at w c f) w R g)

-- a splice of what stands between P and Q
between : (P w Q : List ℕ) (i j : ℕ) (x : List ℕ) → i ≤ length w → j ≤ length w → spliced (P ++ (w ++ Q)) (length P + i) (length P + j) x ≡ P ++ (spliced w i j x ++ Q)
between P w Q i j x h k = rw (take-append-add P (w ++ Q) i, drop-append-add P (w ++ Q) j, take-append-le i w Q h, drop-append-le j w Q k) (simp append_assoc)

-- such a split behind the rows A and before the rows B
pub split-spliced : (A : List (Line ℕ)) (z : Line ℕ) (zs B : List (Line ℕ)) (c f : ℕ)
    → unlines (A ++ (split_first is_lf is_space spaces c f (z ∷ zs) ++ B))
    ≡ spliced (unlines (A ++ ((z ∷ zs) ++ B))) (length (unlines A) + min c (length z.body)) (length (unlines A) + (min c (length z.body) + gone_at z.body c f)) (10 ∷ [])
split-spliced A z zs B c f =
    let S = split_first is_lf is_space spaces c f (z ∷ zs) in
    let g = gone_within z.body c f in
    let l : length z.body ≤ length (unlines (z ∷ zs)) = unfold unlines in (simp length-append (omega arith)) in
    rw (unlines-append A (S ++ B), unlines-append S B, unlines-append A ((z ∷ zs) ++ B), unlines-append (z ∷ zs) B, split-body z zs c f)
    (sym (between (unlines A) (unlines (z ∷ zs)) (unlines B) (min c (length z.body)) (min c (length z.body) + gone_at z.body c f) (10 ∷ []) (omega arith) (omega arith)))

-- ---- the row at each step is a front of the row

unfoldable pub least : ℕ → List ℕ → ℕ
least n [] = n
least n (c ∷ cs) = min c (least n cs)

pub least_le : (n : ℕ) (cs : List ℕ) → least n cs ≤ n
unfolding least
least_le n [] = omega arith
least_le n (c ∷ cs) = omega (arith, least_le n cs)

pub split-front : (x : Line ℕ) (cs fs : List ℕ) → (a : List ℕ) × (zs : List (Line ℕ)) × (split_row is_lf is_space spaces x cs fs ≡ line (take (least (length x.body) cs) x.body) a ∷ zs)
unfolding split_row split_first least
split-front x [] fs = (x.after, [], rw take-length)
split-front x (c ∷ cs) fs =
    let q = split-front x cs (drop 1 fs) in
    let w : List ℕ = take (least (length x.body) cs) x.body in
    (10 ∷ [], line (unspace is_lf is_space spaces (get_or fs 0 0) (drop c w)) q.0 ∷ q.1, rw (q.2, take-both c (least (length x.body) cs) x.body))

-- ---- what `split_turn` finds

gone_none : (z : List ℕ) (c f : ℕ) → drop c z ≡ [] → gone_at z c f ≡ 0
unfolding gone_at
gone_none z c f e = rw e (omega arith)

gone_cons : (z : List ℕ) (c f x : ℕ) (r : List ℕ) → drop c z ≡ x ∷ r → gone_at z c f ≡ cond (not (eqb f 0) && eqb x 32) 1 0
unfolding gone_at unspace
gone_cons z c zero x r e = rw e (omega arith)
gone_cons z c (suc f) x r e = rw (e, eqb-suc-zero f) (go (eqb x 32))
  where
    go : (b : Bool) → suc (length r) - length (cond b r (x ∷ r)) ≡ cond b 1 0
    go true = omega arith
    go false = omega arith

module _ (t : List ℕ) (s e c f : ℕ) (h : s ≤ e) (k : e ≤ length t) where
  here : length (slice s e t) ≡ e - s
  here = length-slice s e t k

  pub turn_past : (o : CharOffset) → o.0 ≡ e → e - s ≤ c → record { at = o; gone = 0 } ≡ split_turn t s e c f
  turn_past o q l =
      let d : drop c (slice s e t) ≡ [] = drop_of_length-le (slice s e t) {i = c} (omega (arith, here)) in
      let m : s + min c (length (slice s e t)) ≡ o.0 = omega (arith, here) in
      rw (m, gone_none (slice s e t) c f d)

  module _ (l : c < e - s) where
    cons : drop c (slice s e t) ≡ get_or t (s + c) 0 ∷ drop (suc c) (slice s e t)
    cons =
        let i : c < length (slice s e t) = omega (arith, here) in
        let g : get_or (slice s e t) c 0 ≡ get_or t (s + c) 0 = get_or-drop s (take e t) c 0 ∙ get_or-take e t (s + c) 0 (omega arith) in
        rw (← g) (drop-cons (slice s e t) c 0 i)

    place : s + min c (length (slice s e t)) ≡ s + c
    place = omega (arith, here)

    pub turn_space : (not (eqb f 0) && eqb (get_or t (s + c) 0) 32) ≡ true → record { at = char_at (s + c); gone = 1 } ≡ split_turn t s e c f
    turn_space q = rw (place, gone_cons (slice s e t) c f (get_or t (s + c) 0) (drop (suc c) (slice s e t)) cons, q)

    pub turn_plain : (not (eqb f 0) && eqb (get_or t (s + c) 0) 32) ≡ false → record { at = char_at (s + c); gone = 0 } ≡ split_turn t s e c f
    turn_plain q = rw (place, gone_cons (slice s e t) c f (get_or t (s + c) 0) (drop (suc c) (slice s e t)) cons, q)
