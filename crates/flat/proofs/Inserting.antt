-- A payload put in at one place.
use mathlib.Core.Path.{◌≡◌, sym, ◌∙◌, ap, subst}
use mathlib.Core.List.{List, [], ◌++◌}
use Prim.Native.Nat.{ℕ, ◌+◌, ◌-◌, ◌≤◌, ◌%◌, ◌^◌}
use native.Mathlib.Omega.{arith}
use lib.ListN.{length, take, drop, length-append, length-take, length-drop}
use Rattle.promise.specs.Paper.{done}
use Rattle.text.specs.declared.Position.{Position}
use Rattle.text.specs.declared.Place.{Place}
use Rattle.text.specs.Rows.{◌⊕◌, offset, place, end_of, spliced}
use Rattle.text.specs.Text.{is_lf}
use Rattle.text.proofs.Laws.{end-append, end_take}
use Rattle.text.proofs.Spots.{offset-le}
use Rattle.text.proofs.Texts.{front}
use Rattle.edit.specs.declared.View.{View}
use Rattle.edit.specs.declared.MotionKind.TheVariants.{Char}
use Rattle.edit.specs.declared.Edit.TheVariants.{DeleteRange}
use Rattle.edit.specs.Edits.{Edited, edited, whole, inserted}
use Rattle.edit.specs.Call.{lent, outcome, plan_of, applied_as, leaves}
use Rattle.splice.specs.Splice.{gap_opened}

module _ (t : List ℕ) (p : Position) (x : List ℕ) where
  pub inserted-length : length (inserted is_lf t p x).text ≡ length t + length x
  unfolding inserted
  inserted-length =
      let h = offset-le is_lf t p in
      omega (arith, length-append (take (offset is_lf t p) t) (x ++ drop (offset is_lf t p) t), length-append x (drop (offset is_lf t p) t), length-take (offset is_lf t p) t, length-drop (offset is_lf t p) t)

  -- what is found of the text in one scan says all that `inserted` does
  pub inserted-found : (f : Place) (e : Position) → f ≡ place is_lf t p → e ≡ f.pos ⊕ end_of is_lf x
      → edited (spliced t f.at.0 f.at.0 x) (whole (DeleteRange f.pos e Char) [] [] []) e ≡ inserted is_lf t p x
  unfolding inserted
  inserted-found f e ef ee = rw (ee, ef, end-append is_lf (take (offset is_lf t p) t) x, end_take is_lf t p)

module _ (v : View) (b x : List ℕ) (p : Position) (h : v.used ≤ length b) where
  abbrev d : Edited ℕ
  d = inserted is_lf (take v.used b) p x

  pub insert-size : length d.text ≡ v.used + length x
  insert-size = omega (arith, inserted-length (take v.used b) p x, length-take v.used b)

  pub insert-plan : plan_of d ≡ record { used = v.used + length x; payload = 0; first = 0; second = 0 }
  unfolding inserted
  insert-plan = ap (λ (n : ℕ). record { used = n; payload = 0; first = 0; second = 0 }) insert-size

  pub insert-done : (f : Place) (e : Position) (b' : List ℕ) (w : View) → f ≡ place is_lf (take (v.used - 0) (drop 0 b)) p → e ≡ f.pos ⊕ end_of is_lf x
      → b' ≡ gap_opened b v.used f.at.0 x → w ≡ record { used = v.used + length x; cursor = e; changes = (v.changes + 1) % 2 ^ 64 }
      → (y f' s op of os : List ℕ)
      → outcome (done (record { view = w; inverse = DeleteRange f.pos e Char; payload = 0; first = 0; second = 0 })) b' op of os
      ≡ leaves (done (applied_as v d)) v (lent b y f' s op of os) d
  unfolding leaves
  insert-done f e b' w ef ee eb ew y f' s op of os =
      let q = inserted-found (take v.used b) p x f e (rw (← front b v.used) ef) ee in
      let n : v.used + length x ≡ length (spliced (take v.used b) f.at.0 f.at.0 x) = sym insert-size ∙ ap (λ (D : Edited ℕ). length D.text) (sym q) in
      subst (λ (D : Edited ℕ). outcome (done (record { view = w; inverse = DeleteRange f.pos e Char; payload = 0; first = 0; second = 0 })) b' op of os ≡ leaves (done (applied_as v D)) v (lent b y f' s op of os) D) q
      (rw (ew, eb, n))
