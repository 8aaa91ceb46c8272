-- Pieces moved in a buffer, and what steps leave there.
use mathlib.Core.Path.{◌≡◌, sym, ap, ◌∙◌}
use mathlib.Core.List.{List, ◌++◌, append_assoc}
use Prim.Native.Nat.{ℕ, ◌+◌, ◌-◌, ◌≤◌, min, max}
use native.Mathlib.Omega.{arith}
use borrow.Rule.Slice.PartMut.{put_mid}
use lib.ListN.{length, take, drop, replicate, length-append, length-take, length-drop, length-replicate, take-append-drop}
use lib.Seq.{paste, slice, drop_at, take_all, take-take, drop-drop, take-add, take-append-le, take-append-add, take-paste, drop-paste, length-take-le}
use Rattle.std.proofs.lemmas.Slice.{put_mid-paste}
use Rattle.promise.proofs.Lists.{drop-take, paste-both}

-- a piece that stays where it is
pub piece_same : (b : List ℕ) (from to count : ℕ) → from ≡ to → b ≡ paste b to (drop from b) count
piece_same b from to count e = rw (e, ← take-add to count b) (sym (take-append-drop (to + count) b))

-- a part from a to e, n long, filled with v
pub part-filled : (b y : List ℕ) (a e n v : ℕ) → a + n ≡ e → e ≤ length b → y ≡ replicate (length (take (e - a) (drop a b))) v → put_mid a (e - a) b y ≡ paste b a (replicate n v) n
part-filled b y a e n v h k q =
    let l : length (take (e - a) (drop a b)) ≡ n = length-take (e - a) (drop a b) ∙ omega (arith, length-drop a b) in
    put_mid-paste a (e - a) b y (replicate n v) n (q ∙ ap (λ (j : ℕ). replicate j v) l) (omega arith) (sym (length-replicate {A = ℕ} n v))

pub laid-over : (b f t x : List ℕ) (v at pad : ℕ) → at + (pad + length x) ≤ length b → f ≡ paste b at (replicate pad v) pad → t ≡ paste f (at + pad) x (length x)
    → t ≡ paste b at (replicate pad v ++ x) (pad + length x)
laid-over b f t x v at pad h ef et =
    let l : length (replicate {A = ℕ} pad v ++ x) ≡ pad + length x = simp (length-append, length-replicate) in
    et ∙ rw (ef, paste-both b (replicate pad v) x at pad (sym (length-replicate {A = ℕ} pad v)) h, l)

-- ---- what a paste leaves around it

pub part_of : (s : List ℕ) (a k : ℕ) → slice a (a + k) s ≡ take k (drop a s)
part_of s a k = let m : a + k - a ≡ k = omega arith in drop-take a (a + k) s ∙ ap (λ (j : ℕ). take j (drop a s)) m

take_less : (s t : List ℕ) (j m : ℕ) → j ≤ m → take m s ≡ take m t → take j s ≡ take j t
take_less s t j m h e = sym (take-take j m s h) ∙ ap (take j) e ∙ take-take j m t h

drop_more : (s t : List ℕ) (j m : ℕ) → m ≤ j → drop m s ≡ drop m t → drop j s ≡ drop j t
drop_more s t j m h e =
    let d : m + (j - m) ≡ j = omega arith in
    ap (λ (i : ℕ). drop i s) (sym d) ∙ sym (drop-drop (j - m) m s) ∙ ap (drop (j - m)) e ∙ drop-drop (j - m) m t ∙ ap (λ (i : ℕ). drop i t) d

module _ (d x : List ℕ) (at n : ℕ) (h : at + n ≤ length d) (k : n ≤ length x) where
  pub paste-front : (j : ℕ) → j ≤ at → take j (paste d at x n) ≡ take j d
  paste-front j l = rw (append_assoc (take at d) (take n x) (drop (at + n) d)) (take-append-le j (take at d) (take n x ++ drop (at + n) d) (omega (arith, length-take at d)) ∙ take-take j at d l)

  pub paste-back : (j : ℕ) → at + n ≤ j → drop j (paste d at x n) ≡ drop j d
  paste-back j l = drop_more (paste d at x n) d j (at + n) l (drop-paste d at x n (omega arith) k)

  pub paste-part : slice at (at + n) (paste d at x n) ≡ take n x
  paste-part = ap (drop at) (take-paste d at x n (omega arith) k) ∙ drop_at (take at d) (take n x) at (length-take-le at d (omega arith))

-- ---- one step, and the rest behind it

module _ (b : List ℕ) (used from to k g q S : ℕ) (come : List ℕ) (W : List ℕ) (lq : length come ≡ q)
    (hf : from + k + g ≤ used) (hu : used ≤ length b) (hr : to + k + q + S ≤ length b) where
  abbrev next : ℕ
  next = from + k + g

  abbrev place : ℕ
  place = to + k

  abbrev after : ℕ
  after = to + k + q

  abbrev most : ℕ
  most = max used (after + S)

  abbrev kept : List ℕ
  kept = take k (drop from b)

  kept-long : length kept ≡ k
  kept-long = length-take-le k (drop from b) (omega (arith, length-drop from b))

  -- the last move: come stands at place
  module _ (b₂ b₃ : List ℕ) (l₂ : length b₂ ≡ length b) (e₃ : b₃ ≡ paste b₂ place come q) where
    fits : place + q ≤ length b₂
    fits = omega arith

    last_mid : slice to place b₂ ≡ kept → take S (drop after b₂) ≡ W → take (k + q + S) (drop to b₃) ≡ kept ++ (come ++ W)
    last_mid ek ew =
        let D : List ℕ = drop after b₂ in
        let p₃ : List ℕ = paste b₂ place come q in
        let s₁ : take k (drop to p₃) ≡ kept = sym (part_of p₃ to k) ∙ ap (drop to) (paste-front b₂ come place q fits (omega arith) place (omega arith)) ∙ ek in
        let s₂ : drop k (drop to p₃) ≡ come ++ D =
        drop-drop k to p₃ ∙ ap (drop place) (append_assoc (take place b₂) (take q come) D) ∙ drop_at (take place b₂) (take q come ++ D) place (length-take-le place b₂ (omega arith)) ∙ ap (λ (l : List ℕ). l ++ D) (take_all q come (omega arith)) in
        let s : drop to p₃ ≡ kept ++ (come ++ D) = sym (take-append-drop k (drop to p₃)) ∙ ap (λ (l : List ℕ). l ++ drop k (drop to p₃)) s₁ ∙ ap (λ (l : List ℕ). kept ++ l) s₂ in
        let n₁ : k + q + S ≡ length kept + (length come + S) = omega (arith, kept-long) in
        rw (e₃, s, n₁, take-append-add kept (come ++ D) (length come + S), take-append-add come D S, ew)

    last_front : (j : ℕ) → j ≤ place → take j b₃ ≡ take j b₂
    last_front j h = rw e₃ (paste-front b₂ come place q fits (omega arith) j h)

    last_back : drop most b₃ ≡ drop most b₂
    last_back = rw e₃ (paste-back b₂ come place q fits (omega arith) most (omega arith))

  -- the rest's promise, from a buffer b₁ to b₂
  abbrev pub Rest : (ss : List ℕ → List ℕ) → List ℕ → List ℕ → Type 0
  Rest ss b₁ b₂ = (take (min next after) b₂ ≡ take (min next after) b₁) × (take S (drop after b₂) ≡ ss (slice next used b₁)) × (drop most b₂ ≡ drop most b₁)

  abbrev pub Done : List ℕ → Type 0
  Done b₃ = (take (min from to) b₃ ≡ take (min from to) b) × (take (k + q + S) (drop to b₃) ≡ kept ++ (come ++ W)) × (drop most b₃ ≡ drop most b)

  module _ (ss : List ℕ → List ℕ) (ew : ss (slice next used b) ≡ W) (b₁ b₂ b₃ : List ℕ) (l₂ : length b₂ ≡ length b) where
    pub step_down : to ≤ from → b₁ ≡ paste b to (drop from b) k → Rest ss b₁ b₂ → b₃ ≡ paste b₂ place come q → Done b₃
    step_down h e₁ r e₃ =
        let x : List ℕ = drop from b in
        let lx : k ≤ length x = omega (arith, length-drop from b) in
        let same : slice next used b₁ ≡ slice next used b =
        drop-take next used b₁ ∙ ap (take (used - next)) (rw e₁ (paste-back b x to k (omega arith) lx next (omega arith))) ∙ sym (drop-take next used b) in
        let ek : slice to place b₂ ≡ kept = ap (drop to) (take_less b₂ b₁ place (min next after) (omega arith) r.0) ∙ rw e₁ (paste-part b x to k (omega arith) lx) in (
          last_front b₂ b₃ l₂ e₃ (min from to) (omega arith) ∙ take_less b₂ b₁ (min from to) (min next after) (omega arith) r.0 ∙ rw e₁ (paste-front b x to k (omega arith) lx (min from to) (omega arith)),
          last_mid b₂ b₃ l₂ e₃ ek (r.1 ∙ ap ss same ∙ ew),
          last_back b₂ b₃ l₂ e₃ ∙ r.2 ∙ rw e₁ (paste-back b x to k (omega arith) lx most (omega arith)),
        )

    -- b₁ is the rest's, b₂ the move's
    pub step-up : from ≤ to → length b₁ ≡ length b → Rest ss b b₁ → b₂ ≡ paste b₁ to (drop from b₁) k → b₃ ≡ paste b₂ place come q → Done b₃
    step-up h l₁ r e₂ e₃ =
        let x : List ℕ = drop from b₁ in
        let lx : k ≤ length x = omega (arith, length-drop from b₁) in
        let ek : slice to place b₂ ≡ kept =
        rw e₂ (paste-part b₁ x to k (omega arith) lx) ∙ sym (part_of b₁ from k) ∙ ap (drop from) (take_less b₁ b (from + k) (min next after) (omega arith) r.0) ∙ part_of b from k in
        let ed : drop after b₂ ≡ drop after b₁ = rw e₂ (paste-back b₁ x to k (omega arith) lx after (omega arith)) in (
          last_front b₂ b₃ l₂ e₃ (min from to) (omega arith) ∙ rw e₂ (paste-front b₁ x to k (omega arith) lx (min from to) (omega arith)) ∙ take_less b₁ b (min from to) (min next after) (omega arith) r.0,
          last_mid b₂ b₃ l₂ e₃ ek (ap (take S) ed ∙ r.1 ∙ ew),
          last_back b₂ b₃ l₂ e₃ ∙ rw e₂ (paste-back b₁ x to k (omega arith) lx most (omega arith)) ∙ r.2,
        )
