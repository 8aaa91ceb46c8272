-- The turns of `weave`, from what it is lent and what its callees promise.
use mathlib.Core.Path.{◌≡◌, refl, sym, ap, ◌∙◌}
use mathlib.Core.Logic.{◌≢◌}
use mathlib.Core.List.{List, ◌++◌}
use Prim.Native.Nat.{ℕ, zero, suc, ◌+◌, ◌-◌, ◌*◌, ◌≤◌, ◌<◌, min, max}
use native.Mathlib.Omega.{arith}
use lib.ListN.{length, take, drop, get_or, replicate, length-append, length-take, length-drop, length-replicate}
use lib.Seq.{paste, slice, take-take, drop-drop, length-take-le}
use Rattle.promise.proofs.Lists.{drop-take, tail_whole}
use Rattle.text.proofs.Texts.{front}
use Rattle.steps.specs.Steps.{woven}
use Rattle.steps.specs.Numbers.{steps_of, passed_by, laid_by, come_by, size_by, woven_from}
use Rattle.weave.proofs.Pieces.{Rest, Done, step_down, step-up, paste-front, paste-back, paste-part, part_of}

-- the steps and the payload behind the first step, as they are lent
abbrev pub rest : List ℕ → List ℕ
rest l = take (length l - 5) (drop 5 l)

abbrev pub restx : List ℕ → List ℕ → List ℕ
restx l x = take (length x - get_or l 3 0) (drop (get_or l 3 0) x)

pub record Heads (n : ℕ) (l : List ℕ) : Type 0 where
  pub passed : passed_by n l ≡ get_or l 0 0 + get_or l 1 0 + passed_by (n - 1) (rest l)
  pub laid : laid_by n l ≡ get_or l 0 0 + get_or l 2 0 + get_or l 3 0 + laid_by (n - 1) (rest l)
  pub come : come_by n l ≡ get_or l 3 0 + come_by (n - 1) (rest l)

pub heads : (n : ℕ) (l : List ℕ) → 0 < n → Heads n l
unfolding passed_by laid_by come_by
heads zero l h = absurd (omega arith)
heads (suc m) l h = let e : suc m - 1 ≡ m = omega arith in record { passed = rw (e, tail_whole l 5); laid = rw (e, tail_whole l 5); come = rw (e, tail_whole l 5) }

module _ (v : ℕ) (b : List ℕ) (used from : ℕ) (l x : List ℕ) where
  woven-head : (n : ℕ) → 0 < n → from + get_or l 0 0 + get_or l 1 0 ≤ used → used ≤ length b
      → woven_from v b used from n l x ≡ take (get_or l 0 0) (drop from b) ++ ((replicate (get_or l 2 0) v ++ take (get_or l 3 0) x) ++ woven_from v b used (from + get_or l 0 0 + get_or l 1 0) (n - 1) (rest l) (restx l x))
  unfolding steps_of woven
  woven-head zero h hf hu = absurd (omega arith)
  woven-head (suc m) h hf hu =
      let k : ℕ = get_or l 0 0 in
      let g : ℕ = get_or l 1 0 in
      let e : suc m - 1 ≡ m = omega arith in
      let a : take k (slice from used b) ≡ take k (drop from b) = ap (take k) (drop-take from used b) ∙ take-take k (used - from) (drop from b) (omega arith) in
      let d : drop (k + g) (slice from used b) ≡ slice (from + k + g) used b = let z : from + (k + g) ≡ from + k + g = omega arith in drop-drop (k + g) from (take used b) ∙ ap (λ (i : ℕ). drop i (take used b)) z in
      rw (e, tail_whole l 5, tail_whole x (get_or l 3 0), a, d)

-- what `weave` promises
pub record Post (v : ℕ) (b b' : List ℕ) (used from to n : ℕ) (l x : List ℕ) : Type 0 where
  pub front : take (min from to) b' ≡ take (min from to) b
  pub mid : take (size_by n l from used) (drop to b') ≡ woven_from v b used from n l x
  pub back : drop (max used (to + size_by n l from used)) b' ≡ drop (max used (to + size_by n l from used)) b

pub weave_end : (v : ℕ) (b b' : List ℕ) (used from to n : ℕ) (l x : List ℕ) → n ≡ 0 → from ≤ used → used ≤ length b → to + (used - from) ≤ length b
    → b' ≡ paste b to (drop from b) (used - from) → Post v b b' used from to n l x
unfolding steps_of woven laid_by passed_by
weave_end v b b' used from to (suc n) l x z hf hu hr e = absurd (omega arith)
weave_end v b b' used from to zero l x z hf hu hr e =
    let c : ℕ = used - from in
    let lx : c ≤ length (drop from b) = omega (arith, length-drop from b) in
    let s : 0 + (used - (from + 0)) ≡ c = omega arith in
    record {
      front = rw e (paste-front b (drop from b) to c hr lx (min from to) (omega arith));
      mid = rw s (rw e (sym (part_of (paste b to (drop from b) c) to c) ∙ paste-part b (drop from b) to c hr lx ∙ sym (drop-take from used b)));
      back = rw s (rw e (paste-back b (drop from b) to c hr lx (max used (to + c)) (omega arith)));
    }

module _ (v : ℕ) (b : List ℕ) (used from to n : ℕ) (l x : List ℕ) where
  abbrev pub stay : ℕ
  stay = get_or l 0 0

  abbrev pub beyond : ℕ
  beyond = from + get_or l 0 0 + get_or l 1 0

  abbrev pub onward : ℕ
  onward = to + get_or l 0 0 + get_or l 2 0 + get_or l 3 0

  abbrev pub Onward : List ℕ → List ℕ → Type 0
  Onward b₁ b₂ = Post v b₁ b₂ used beyond onward (n - 1) (rest l) (restx l x)

  abbrev pub Came : List ℕ → List ℕ → Type 0
  Came b₂ b₃ = b₃ ≡ paste b₂ (to + get_or l 0 0) (replicate (get_or l 2 0) v ++ take (get_or l 3 0 - 0) (drop 0 x)) (get_or l 2 0 + length (take (get_or l 3 0 - 0) (drop 0 x)))

  module _ (pos : 0 < n) (h₂ : come_by n l ≤ length x) (h₃ : from + passed_by n l ≤ used) (h₄ : used ≤ length b) (h₅ : to + size_by n l from used ≤ length b) where
    abbrev q : ℕ
    q = get_or l 2 0 + get_or l 3 0

    abbrev come : List ℕ
    come = replicate (get_or l 2 0) v ++ take (get_or l 3 0) x

    abbrev S : ℕ
    S = size_by (n - 1) (rest l) beyond used

    abbrev W : List ℕ
    W = woven_from v b used beyond (n - 1) (rest l) (restx l x)

    abbrev ss : List ℕ → List ℕ
    ss = woven v (steps_of (n - 1) (rest l) (restx l x))

    long_come : length come ≡ q
    long_come = let H = heads n l pos in omega (arith, H.come, length-append (replicate {A = ℕ} (get_or l 2 0) v) (take (get_or l 3 0) x), length-replicate {A = ℕ} (get_or l 2 0) v, length-take (get_or l 3 0) x)

    in_text_lem : from + get_or l 0 0 + get_or l 1 0 ≤ used
    in_text_lem = omega (arith, (heads n l pos).passed)

    size_is : size_by n l from used ≡ get_or l 0 0 + q + S
    size_is = let H = heads n l pos in omega (arith, H.passed, H.laid)

    in_room : to + get_or l 0 0 + q + S ≤ length b
    in_room = omega (arith, size_is)

    as_rest : (b₁ b₂ : List ℕ) → Onward b₁ b₂ → Rest b used from to (get_or l 0 0) (get_or l 1 0) q S come W long_come in_text_lem h₄ in_room ss b₁ b₂
    as_rest b₁ b₂ r =
        let e : onward ≡ to + get_or l 0 0 + q = omega arith in
        (rw e at r.front, rw e at r.mid, rw e at r.back)

    as_come : (b₂ b₃ : List ℕ) → Came b₂ b₃ → b₃ ≡ paste b₂ (to + get_or l 0 0) come q
    as_come b₂ b₃ r =
        let H = heads n l pos in
        let f : take (get_or l 3 0 - 0) (drop 0 x) ≡ take (get_or l 3 0) x = front x (get_or l 3 0) in
        let m : length (take (get_or l 3 0) x) ≡ get_or l 3 0 = length-take-le (get_or l 3 0) x (omega (arith, H.come)) in
        r ∙ rw (f, m)

    as_post : (b₃ : List ℕ) → Done b used from to (get_or l 0 0) (get_or l 1 0) q S come W long_come in_text_lem h₄ in_room b₃ → Post v b b₃ used from to n l x
    as_post b₃ d =
        let e : to + get_or l 0 0 + q + S ≡ to + size_by n l from used = omega (arith, size_is) in
        record {
          front = d.0;
          mid = rw size_is d.1 ∙ sym (woven-head v b used from l x n pos in_text_lem h₄);
          back = rw e at d.2;
        }

    pub weave_down : (b₁ b₂ b₃ : List ℕ) → length b₂ ≡ length b → to ≤ from → b₁ ≡ paste b to (drop from b) stay → Onward b₁ b₂ → Came b₂ b₃ → Post v b b₃ used from to n l x
    weave_down b₁ b₂ b₃ l₂ h e₁ r e₃ =
        as_post b₃ (step_down b used from to (get_or l 0 0) (get_or l 1 0) q S come W long_come in_text_lem h₄ in_room ss refl b₁ b₂ b₃ l₂ h e₁ (as_rest b₁ b₂ r) (as_come b₂ b₃ e₃))

    pub weave_up : (b₁ b₂ b₃ : List ℕ) → length b₁ ≡ length b → length b₂ ≡ length b → from ≤ to → Onward b b₁ → b₂ ≡ paste b₁ to (drop from b₁) stay → Came b₂ b₃ → Post v b b₃ used from to n l x
    weave_up b₁ b₂ b₃ l₁ l₂ h r e₂ e₃ =
        as_post b₃ (step-up b used from to (get_or l 0 0) (get_or l 1 0) q S come W long_come in_text_lem h₄ in_room ss refl b₁ b₂ b₃ l₂ h l₁ (as_rest b b₁ r) e₂ (as_come b₂ b₃ e₃))

-- the bounds that the code asks for
pub record Bounds (b : List ℕ) (used from to n : ℕ) (l x : List ℕ) : Type 0 where
  pub five : 5 ≤ length l
  pub come : get_or l 3 0 ≤ length x
  pub next : from + get_or l 0 0 + get_or l 1 0 ≤ used
  pub used_in : used ≤ length b
  pub room : to + get_or l 0 0 + get_or l 2 0 + get_or l 3 0 ≤ length b
  pub fives : 5 * (n - 1) ≤ length l - 5
  pub comes : come_by (n - 1) (rest l) ≤ length x - get_or l 3 0
  pub passes : from + get_or l 0 0 + get_or l 1 0 + passed_by (n - 1) (rest l) ≤ used
  pub lays : to + get_or l 0 0 + get_or l 2 0 + get_or l 3 0 + size_by (n - 1) (rest l) (from + get_or l 0 0 + get_or l 1 0) used ≤ length b

pub bounds : (b : List ℕ) (used from to n : ℕ) (l x : List ℕ) → n ≢ 0 → 5 * n ≤ length l → come_by n l ≤ length x → from + passed_by n l ≤ used → used ≤ length b
    → to + size_by n l from used ≤ length b → Bounds b used from to n l x
bounds b used from to n l x z h₁ h₂ h₃ h₄ h₅ =
    let H = heads n l (omega arith) in
    let p = H.passed in
    let d = H.laid in
    let c = H.come in
    record {
      five = omega arith;
      come = omega arith;
      next = omega arith;
      used_in = h₄;
      room = omega arith;
      fives = omega arith;
      comes = omega arith;
      passes = omega arith;
      lays = omega arith;
    }

pub none_size : (n : ℕ) (l : List ℕ) (from used : ℕ) → n ≡ 0 → size_by n l from used ≡ used - from
unfolding laid_by passed_by
none_size zero l from used z = omega arith
none_size (suc n) l from used z = absurd (omega arith)
