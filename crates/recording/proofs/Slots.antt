-- A slice filled from the front: at each turn what is still to come, pasted behind what stands there, gives the whole.
use mathlib.Core.Path.{◌≡◌, refl, sym, ap, ◌∙◌}
use mathlib.Core.List.{List, ◌∷◌, ◌++◌, append_assoc}
use Prim.Native.Nat.{ℕ, suc, ◌+◌, ◌-◌, ◌≤◌, ◌<◌}
use native.Mathlib.Nat.{sub-zero}
use native.Mathlib.Numerals.{add-one}
use native.Mathlib.Omega.{arith}
use lib.ListN.{length, set, replicate, length-append, length-set, length-replicate}
use lib.Seq.{paste, paste-zero, take-suc-set, drop-set-lt}
use Rattle.promise.specs.Slices.{over}
use Rattle.promise.proofs.Lists.{paste-both, paste-behind}
use Rattle.splice.proofs.Overs.{paste-over}
use Rattle.recording.specs.Recorded.{filled_up}

pub slot_first : (out w : List ℕ) (n : ℕ) → length w ≡ n → paste out 0 w n ≡ over w out
slot_first out w n e = rw (← e) (paste-over out w)

slot_one : (out s : List ℕ) (i m v : ℕ) → i < length out → paste (set out i v) (i + 1) s m ≡ paste out i (v ∷ s) (suc m)
slot_one out s i m v h =
    let b : i + suc m ≡ suc i + m = omega arith in
    rw (add-one i, take-suc-set out i v h, drop-set-lt (suc i + m) out i v (omega arith), b) (simp append_assoc)

pub slot_next : (out r s w : List ℕ) (i n v : ℕ) → i < n → i < length out → r ≡ v ∷ s → paste out i r (n - i) ≡ w → paste (set out i v) (i + 1) s (n - (i + 1)) ≡ w
slot_next out r s w i n v h k e q =
    let a : n - i ≡ suc (n - (i + 1)) = omega arith in
    slot_one out s i (n - (i + 1)) v k ∙ (rw (a, e) at q)

pub slot_last : (out r w : List ℕ) (at k : ℕ) → k ≡ 0 → paste out at r k ≡ w → out ≡ w
slot_last out r w at k z q = paste-zero out at r ∙ (rw z at q)

-- a part p of so many, and the others q behind it
pub part-next : (out out' p q w : List ℕ) (at m k : ℕ) → length p ≡ m → length q ≡ k → at + (m + k) ≤ length out → out' ≡ paste out at p (length p) → paste out at (p ++ q) (m + k) ≡ w
    → paste out' (at + m) q k ≡ w
part-next out out' p q w at m k e f h u v =
    let l : length (p ++ q) ≡ m + k = length-append p q ∙ omega arith in
    let g : paste (paste out at p m) (at + m) q (length q) ≡ paste out at (p ++ q) (length (p ++ q)) = paste-both out p q at m (sym e) (omega arith) in
    rw (u, e) ((rw (f, l) at g) ∙ v)

-- ---- a list written item by item: w is the whole, r what is still to come after i of n items

pub record Listing (w r o₀ o : List ℕ) (n i : ℕ) : Type 0 where
  pub same : length o ≡ length o₀
  pub rest : paste o i r (n - i) ≡ over w o₀

pub listing_none : (w r o : List ℕ) (n : ℕ) → length w ≡ n → r ≡ w → Listing w r o o n 0
listing_none w r o n e q = record { same = refl; rest = rw (sub-zero, q) (slot_first o w n e) }

pub listing_next : (w r s o₀ o : List ℕ) (n i v : ℕ) → Listing w r o₀ o n i → i < n → n ≤ length o₀ → r ≡ v ∷ s → Listing w s o₀ (set o i v) n (i + 1)
listing_next w r s o₀ o n i v L h k e =
    let q = L.same in
    record { same = length-set o i v ∙ q; rest = slot_next o r s (over w o₀) i n v h (omega arith) e L.rest }

pub listing_all : (w r o₀ o x : List ℕ) (n i : ℕ) → Listing w r o₀ o n i → n ≤ i → x ≡ w → o ≡ over x o₀
listing_all w r o₀ o x n i L h e = slot_last o r (over w o₀) i (n - i) (omega arith) L.rest ∙ ap (λ (y : List ℕ). over y o₀) (sym e)

-- ---- zeros behind a list

pub zeros_up : (p o o₁ o₂ : List ℕ) (n count : ℕ) → length p ≡ n → o₁ ≡ over p o → o₂ ≡ paste o₁ n (replicate (count - n) 0) (count - n) → o₂ ≡ over (filled_up count p) o
zeros_up p o o₁ o₂ n count e q r = r ∙ rw (q, paste-behind p (replicate (count - n) 0) o n (count - n) e (length-replicate (count - n) 0), e)
