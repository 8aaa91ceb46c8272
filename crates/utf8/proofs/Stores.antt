-- A list that goes to the front of a lent slice, or is refused by 8.
use mathlib.Core.Path.{◌≡◌, sym, ap, ◌∙◌}
use mathlib.Core.List.{List, [], ◌++◌}
use Prim.Native.Nat.{ℕ, ◌+◌, ◌≤◌, ◌<◌}
use native.Mathlib.Omega.{arith}
use borrow.Author.Tests.{lt-ltb, le-ltb}
use lib.ListN.{length, take, drop, length-append, length-take, length-drop}
use lib.Seq.{take-length, sets, sets-eq, take_at, take-add, drop-drop, drop-append-add, take-append_seam, drop-append_seam, length-take-le}
use Rattle.promise.specs.Paper.{done, refused}
use Rattle.promise.specs.Slices.{over}
use Rattle.utf8.specs.Calls.{outcome, stored}

module _ (xs b : List ℕ) (n : ℕ) (e : length xs ≡ n) where
  pub stored-not : length b < n → outcome (refused 8 0) b ≡ stored xs b
  unfolding stored
  stored-not h = rw (e, lt-ltb _ _ h)

  pub stored-all : (t : List ℕ) → n ≤ length b → t ≡ over xs b → outcome (done n) t ≡ stored xs b
  unfolding stored
  stored-all t h f = rw (e, le-ltb _ _ h, f, e)

-- The first k of w stand at the front of what was b, and os, which w goes on with, is stored behind them.
module _ (w b t os rest : List ℕ) (k : ℕ) (inv : t ≡ take k w ++ drop k b) (d : drop k w ≡ os ++ rest) (h : k + length os ≤ length b) (l : k ≤ length w) where
  pub stored_more : sets t k os ≡ take (k + length os) w ++ drop (k + length os) b
  stored_more =
      let lt : length t ≡ length b = ap length inv ∙ simp (length-append, length-take, length-drop) (omega arith) in
      let lw : length (take k w) ≡ k = length-take-le k w l in
      let head : take k t ≡ take k w = ap (take k) inv ∙ take_at (take k w) (drop k b) k lw in
      let tail : drop (k + length os) t ≡ drop (k + length os) b =
      ap (drop (k + length os)) inv ∙ ap (λ (n : ℕ). drop (n + length os) (take k w ++ drop k b)) (sym lw) ∙ drop-append-add (take k w) (drop k b) (length os) ∙ drop-drop (length os) k b in
      sets-eq os t k (omega arith) ∙ rw (head, tail, take-add k (length os) w, d, take-append_seam)

  pub stored-rest : drop (k + length os) w ≡ rest
  stored-rest = sym (drop-drop (length os) k w) ∙ rw (d, drop-append_seam)

-- and w has no more
pub stored-end : (w b t : List ℕ) (k : ℕ) → t ≡ take k w ++ drop k b → drop k w ≡ [] → k ≤ length w → t ≡ over w b
stored-end w b t k inv e l = let n : k ≡ length w = omega (arith, simp length-drop at (ap length e)) in rw (inv, n, take-length)
