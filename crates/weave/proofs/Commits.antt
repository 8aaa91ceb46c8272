-- What `commit` leaves.
use mathlib.Core.Path.{◌≡◌, sym, ap, ◌∙◌}
use mathlib.Core.List.{List, append_assoc}
use Prim.Native.Nat.{ℕ, ◌+◌, ◌-◌, ◌≤◌, ◌<◌, max}
use native.Mathlib.Omega.{arith}
use lib.ListN.{length, take, drop, replicate, length-replicate, take-append-drop}
use lib.Seq.{paste, take_all, length-take-le}
use Rattle.text.specs.Text.{renewed}
use Rattle.steps.specs.Steps.{woven}
use Rattle.steps.specs.Numbers.{steps_of, size_by}
use Rattle.weave.proofs.Weaving.{Post}

module _ (v : ℕ) (b b₁ : List ℕ) (used size n : ℕ) (l x : List ℕ) (hu : used ≤ length b) (hs : size ≡ size_by n l 0 used) (hr : size ≤ length b) (l₁ : length b₁ ≡ length b) (P : Post v b b₁ used 0 0 n l x) where
  abbrev W : List ℕ
  W = woven v (steps_of n l x) (take used b)

  mid_is : take size b₁ ≡ W
  mid_is = ap (λ (k : ℕ). take k b₁) hs ∙ P.mid

  long : length W ≡ size
  long = sym (ap length mid_is) ∙ length-take-le size b₁ (omega arith)

  back_is : drop (max used size) b₁ ≡ drop (max used size) b
  back_is = let e : 0 + size_by n l 0 used ≡ size = omega arith in rw e at P.back

  pub cleared : (b₂ : List ℕ) → size < used → b₂ ≡ paste b₁ size (replicate (used - size) 0) (used - size) → b₂ ≡ renewed b used W
  unfolding renewed
  cleared b₂ h e =
      let m : max used size ≡ used = omega arith in
      let k : size + (used - size) ≡ used = omega arith in
      let f : take (used - size) (replicate {A = ℕ} (used - size) 0) ≡ replicate (used - size) 0 = take_all (used - size) (replicate {A = ℕ} (used - size) 0) (omega (arith, length-replicate {A = ℕ} (used - size) 0)) in
      let d : drop used b₁ ≡ drop used b = rw m at back_is in
      rw (e, k, f, mid_is, d, long, m) (append_assoc W (replicate (used - size) 0) (drop used b))

  pub grown : used ≤ size → b₁ ≡ renewed b used W
  unfolding renewed
  grown h =
      let m : max used size ≡ size = omega arith in
      let z : used - size ≡ 0 = omega arith in
      let d : drop size b₁ ≡ drop size b = rw m at back_is in
      rw (long, z, m) (sym (take-append-drop size b₁) ∙ rw (mid_is, d))
