-- Line deletes and Replace as their steps.
use mathlib.Core.Path.{◌≡◌, sym, ap, ◌∙◌}
use mathlib.Core.Bool.{Bool, true, false, cond}
use mathlib.Core.List.{List, [], ◌++◌, append_assoc}
use Prim.Native.Nat.{ℕ, suc, ◌+◌, ◌-◌, ◌≤◌, min, max}
use native.Mathlib.Nat.{add-zero}
use native.Mathlib.Decide.{dec_le}
use native.Mathlib.Omega.{arith}
use lib.Dec.{ltb}
use lib.ListN.{length, take, drop, length-append, take-append-drop}
use lib.Seq.{take_at, take-append-add, drop-append-add, length-take-le}
use Rattle.text.specs.declared.Position.{Position}
use Rattle.text.specs.Rows.{at, earlier, last_row, row_len, row_start, clamp, offset, end_of, spliced}
use Rattle.text.proofs.Laws.{clamp-end, offset-end, end_take}
use Rattle.text.proofs.Spots.{offset-le, clamp-within, offset-place, start-mono, row_ends}
use Rattle.edit.specs.Edits.{cut_from, cut_to, inserted, replaced, line_from, line_to, lines_deleted}
use Rattle.steps.specs.Steps.{woven}
use Rattle.steps.specs.Kinds.{line_steps, replace_steps}

module _ {A : Type 0} (lf : A → Bool) where
  pub line-order : (t : List A) (lo hi : ℕ) → lo ≤ hi → lo ≤ last_row lf t → offset lf t (line_from lf t lo hi) ≤ line_to lf t hi
  unfolding line_from line_to
  line-order t lo hi h k = go (ltb hi (last_row lf t))
    where
      go : (b : Bool) → offset lf t (cond b (at lo 0) (cond (ltb 0 lo) (at (lo - 1) (row_len lf t (lo - 1))) (at 0 0))) ≤ cond b (row_start lf t (suc hi)) (length t)
      go true = omega (arith, offset-place lf t lo 0 k (omega arith), start-mono lf t lo (suc hi) (omega arith))
      go false = offset-le lf t _

  pub lines-woven : (v : A) (t : List A) (p q : Position) → (lines_deleted lf t p q).text ≡ woven v (line_steps lf t p q) t
  unfolding lines_deleted woven
  lines-woven v t p q =
      let lo = min (min p.row.0 q.row.0) (last_row lf t) in
      let hi = min (max p.row.0 q.row.0) (last_row lf t) in
      let h = line-order t lo hi (omega arith) (omega arith) in
      let m : offset lf t (line_from lf t lo hi) + (line_to lf t hi - offset lf t (line_from lf t lo hi)) ≡ line_to lf t hi = omega arith in
      rw m

  -- a position no earlier than q, which is in the text
  offset-grows : (u : List A) (q p : Position) → clamp lf u q ≡ q → q.row.0 ≤ p.row.0 → q.col.0 ≤ p.col.0 → offset lf u q ≤ offset lf u p
  unfolding offset clamp
  offset-grows u q p e hr hc =
      let w = clamp-within lf u q e in
      let r : ℕ = q.row.0 in
      let r' : ℕ = min p.row.0 (last_row lf u) in
      let o : offset lf u q ≡ row_start lf u r + q.col.0 = offset-place lf u r q.col.0 w.0 w.1 in
      elim (dec_le r' r) [ yes h ↦ (let z : r' ≡ r = omega arith in rw z (omega (arith, o, w.1))) | no h ↦ (omega (arith, o, w.1, row_ends lf u r (omega arith), start-mono lf u (suc r) r' (omega arith))) ]

  -- the place where a text goes on that agrees with t up to the place of p in t
  stands_on : (t u : List A) (p : Position) → take (offset lf t p) u ≡ take (offset lf t p) t → offset lf t p ≤ length u → offset lf t p ≤ offset lf u p
  unfolding clamp
  stands_on t u p e h =
      let a : ℕ = offset lf t p in
      let q : Position = clamp lf t p in
      let en : end_of lf (take a u) ≡ q = ap (end_of lf) e ∙ end_take lf t p in
      let w : take a u ++ drop a u ≡ u = take-append-drop a u in
      let ce : clamp lf u q ≡ q = rw (w, en) at (clamp-end lf (take a u) (drop a u)) in
      let oe : offset lf u q ≡ length (take a u) = rw (w, en) at (offset-end lf (take a u) (drop a u)) in
      omega (arith, oe, length-take-le a u h, offset-grows u q p ce (omega arith) (omega arith))

  pub replaced-woven : (v : A) (t : List A) (p q : Position) (x : List A) → (replaced lf t p q x).text ≡ woven v (replace_steps lf t p q x) t
  unfolding replaced inserted woven
  replaced-woven v t p q x =
      let a : ℕ = cut_from lf t p q in
      let e : ℕ = cut_to lf t p q in
      let u : List A = spliced t a e [] in
      let o : ℕ = offset lf u (earlier p q) in
      let la : length (take a t) ≡ a = length-take-le a t (offset-le lf t (earlier p q)) in
      let h : a ≤ o = stands_on t u (earlier p q) (take_at (take a t) (drop e t) a la) (omega (arith, length-append (take a t) (drop e t))) in
      let m : a + (e - a) ≡ e = omega arith in
      let k : o ≡ length (take a t) + (o - a) = omega arith in
      let f : take o u ≡ take a t ++ take (o - a) (drop e t) = ap (λ (i : ℕ). take i u) k ∙ take-append-add (take a t) (drop e t) (o - a) in
      let g : drop o u ≡ drop (o - a) (drop e t) = ap (λ (i : ℕ). drop i u) k ∙ drop-append-add (take a t) (drop e t) (o - a) in
      ap (λ (l : List A). l ++ (x ++ drop o u)) f ∙ ap (λ (l : List A). (take a t ++ take (o - a) (drop e t)) ++ (x ++ l)) g ∙ append_assoc (take a t) (take (o - a) (drop e t)) (x ++ drop (o - a) (drop e t)) ∙ sym (rw (m, add-zero (o - a)))
