-- A gap opened and closed, from the moves that do it.
use mathlib.Core.Path.{◌≡◌, sym, ap, ap₂, ◌∙◌, subst}
use mathlib.Core.List.{List, [], ◌++◌, append_assoc}
use Prim.Native.Nat.{ℕ, ◌+◌, ◌-◌, ◌≤◌, max}
use native.Mathlib.Nat.{zero-add}
use native.Mathlib.Omega.{arith}
use lib.ListN.{length, take, drop, replicate, length-append, length-take, length-drop, length-replicate, take-append-drop}
use lib.Seq.{take_all, take_at, drop_at, take-length, take-take, drop-drop, drop-append-add, paste, length-paste, length-take-le}
use Rattle.promise.proofs.Lists.{drop-take, tail_whole, tail_back, paste-both}
use Rattle.text.specs.Rows.{spliced}
use Rattle.text.specs.Text.{renewed}
use Rattle.text.proofs.Renewed.{renewed-same}
use Rattle.splice.specs.Splice.{gap_opened, Gap, gap, gap_removed, gap_closed}

-- the tail y after its move up, and the buffer t after the payload went in
module _ (b y t : List ℕ) (used at : ℕ) (p : List ℕ) where
  abbrev pub MovedUp : Type 0
  MovedUp = y ≡ paste (take (length b - at) (drop at b)) (length p) (take (length b - at) (drop at b)) (used - at)

  abbrev pub Filled : Type 0
  Filled = t ≡ paste (take at b ++ (y ++ drop (length b - at) (drop at b))) at p (length p)

module _ (b y t : List ℕ) (used at : ℕ) (p : List ℕ) (h : at ≤ used) (room : used + length p ≤ length b) where
  put_in : MovedUp b y t used at p → Filled b y t used at p
      → t ≡ take at b ++ (p ++ (take (used - at) (drop at b) ++ drop (used + length p) b))
  put_in ey et =
      let d : List ℕ = drop at b in
      let w : ℕ = used - at in
      let n : ℕ = length p in
      let la : length (take at b) ≡ at = length-take-le at b (omega arith) in
      let ln : length (take at b ++ take n d) ≡ at + n = simp (length-append, length-take, length-drop) (omega arith) in
      let e₁ : at + (n + w) ≡ used + n = omega arith in
      let e₂ : take at b ++ (take n d ++ take w d ++ drop (n + w) d) ≡ (take at b ++ take n d) ++ (take w d ++ drop (n + w) d) = simp append_assoc in
      rw (et, tail_back, ey, tail_whole, take_at (take at b) _ at la, take-length, e₂, drop_at _ _ (at + n) ln, drop-drop, e₁) (simp append_assoc)

  -- the text with p in it, and what is kept behind
  open_renewed : take at b ++ (p ++ (take (used - at) (drop at b) ++ drop (used + length p) b)) ≡ renewed b used (spliced (take used b) at at p)
  unfolding renewed
  open_renewed =
      let l : length (take at b ++ (p ++ take (used - at) (drop at b))) ≡ used + length p = simp (length-append, length-take, length-drop) (omega arith) in
      let z : used - (used + length p) ≡ 0 = omega arith in
      let m : max used (used + length p) ≡ used + length p = omega arith in
      rw (drop-take at used b, take-take at used b h, l, z, m) (simp append_assoc)

  pub gap-opened : MovedUp b y t used at p → Filled b y t used at p → t ≡ gap_opened b used at p
  gap-opened ey et = put_in ey et ∙ open_renewed

-- the buffer f after the spaces went in, and t after the payload
pub gap-padded : (b y f t : List ℕ) (used at pad : ℕ) (p : List ℕ) → at ≤ used → used + (pad + length p) ≤ length b
    → y ≡ paste (take (length b - at) (drop at b)) (pad + length p) (take (length b - at) (drop at b)) (used - at)
    → f ≡ paste (take at b ++ (y ++ drop (length b - at) (drop at b))) at (replicate pad 32) pad
    → t ≡ paste f (at + pad) p (length p)
    → t ≡ gap_opened b used at (replicate pad 32 ++ p)
gap-padded b y f t used at pad p h room ey ef et =
    let q : List ℕ = replicate pad 32 ++ p in
    let D : List ℕ = take (length b - at) (drop at b) in
    let W : List ℕ = take at b ++ (y ++ drop (length b - at) (drop at b)) in
    let lr : pad ≡ length (replicate {A = ℕ} pad 32) = sym (length-replicate {A = ℕ} pad 32) in
    let lq : length q ≡ pad + length p = simp (length-append, length-replicate) in
    let ld : length D ≡ length b - at = simp (length-take, length-drop) (omega arith) in
    let ly : length y ≡ length b - at = ap length ey ∙ length-paste D (pad + length p) D (used - at) (omega arith) (omega arith) ∙ ld in
    let lw : at + (pad + length p) ≤ length W = simp (length-append, length-take, length-drop) (omega arith) in
    gap-opened b y t used at q h (omega arith) (rw lq ey) (et ∙ ap (λ (z : List ℕ). paste z (at + pad) p (length p)) ef ∙ paste-both W (replicate pad 32) p at pad lr lw)

-- the tail y after its move down, and the buffer t after the places behind it were cleared
module _ (b y t : List ℕ) (used a e : ℕ) where
  abbrev pub MovedDown : Type 0
  MovedDown = y ≡ take (used - e) (drop (e - a) (take (length b - a) (drop a b))) ++ drop (used - e) (take (length b - a) (drop a b))

  abbrev pub Cleared : Type 0
  Cleared = t ≡ paste (take a b ++ (y ++ drop (length b - a) (drop a b))) (a + (used - e)) (replicate (e - a) 0) (e - a)

module _ (b y t : List ℕ) (used a e : ℕ) (h : a ≤ e) (k : e ≤ used) (room : used ≤ length b) where
  closed : MovedDown b y t used a e → Cleared b y t used a e
      → t ≡ take a b ++ (take (used - e) (drop e b) ++ (replicate (e - a) 0 ++ drop used b))
  closed ey et =
      let w : ℕ = used - e in
      let n : ℕ = e - a in
      let e₁ : a + n ≡ e = omega arith in
      let e₂ : a + (w + n) ≡ used = omega arith in
      let P : List ℕ = take a b ++ take w (drop e b) in
      let lp : length P ≡ a + w = simp (length-append, length-take, length-drop) (omega arith) in
      let e₃ : drop (a + w + n) (P ++ drop w (drop a b)) ≡ drop used b =
      subst (λ (m : ℕ). drop (m + n) (P ++ drop w (drop a b)) ≡ drop used b) lp (drop-append-add P (drop w (drop a b)) n ∙ rw (drop-drop, drop-drop, e₂)) in
      rw (et, tail_back, ey, tail_whole, drop-drop, e₁, ← append_assoc (take a b), take_at P _ (a + w) lp, e₃, take_all n (replicate {A = ℕ} n 0) (rw (length-replicate {A = ℕ} n 0) (omega arith))) (simp append_assoc)

  close_renewed : take a b ++ (take (used - e) (drop e b) ++ (replicate (e - a) 0 ++ drop used b)) ≡ renewed b used (spliced (take used b) a e [])
  unfolding renewed
  close_renewed =
      let l : length (take a b ++ take (used - e) (drop e b)) ≡ a + (used - e) = simp (length-append, length-take, length-drop) (omega arith) in
      let z : used - (a + (used - e)) ≡ e - a = omega arith in
      let m : max used (a + (used - e)) ≡ used = omega arith in
      rw (drop-take e used b, take-take a used b (omega arith), l, z, m) (simp append_assoc)

  pub gap-removed : MovedDown b y t used a e → Cleared b y t used a e → t ≡ gap_removed b used a e
  gap-removed ey et = closed ey et ∙ close_renewed

-- nothing goes
pub gap-none : (b : List ℕ) (used a e : ℕ) → used ≤ length b → a ≡ e → b ≡ gap_removed b used a e
gap-none b used a e h q = rw (← q) (rw (take-append-drop a (take used b)) (renewed-same b used h))

pub gap-closed : (b t : List ℕ) (used a e : ℕ) (out c : List ℕ) → c ≡ paste out 0 (take (e - a) (drop a b)) (length (take (e - a) (drop a b))) → t ≡ gap_removed b used a e
    → gap t c ≡ gap_closed b used a e out
gap-closed b t used a e out c ec et = ap₂ {C = Gap} gap et (ec ∙ rw (take-length, zero-add, drop-take a e b))
