-- A cut, and then a payload put in where the cut's start lies in the text that is left.
use mathlib.Core.Path.{◌≡◌, sym, ◌∙◌, ap, subst}
use mathlib.Core.List.{List, []}
use Prim.Native.Nat.{ℕ, ◌+◌, ◌-◌, ◌≤◌, ◌%◌, ◌^◌}
use native.Mathlib.Omega.{arith}
use lib.ListN.{length, take, drop}
use lib.Seq.{slice}
use Rattle.promise.specs.Paper.{done}
use Rattle.text.specs.declared.Position.{Position}
use Rattle.text.specs.declared.Place.{Place}
use Rattle.text.specs.Rows.{◌⊕◌, earlier, clamp, place, end_of, spliced}
use Rattle.text.specs.Text.{is_lf, renewed}
use Rattle.text.proofs.Renewed.{renewed-twice}
use Rattle.text.proofs.Texts.{front}
use Rattle.edit.specs.declared.View.{View}
use Rattle.edit.specs.declared.Plan.{Plan}
use Rattle.edit.specs.declared.Edit.TheVariants.{Replace}
use Rattle.edit.specs.Edits.{Edited, edited, whole, inserted, replaced}
use Rattle.edit.specs.Call.{lent, outcome, plan_of, applied_as, leaves}
use Rattle.splice.specs.Splice.{gap, gap_opened, gap_closed}
use Rattle.flat.specs.declared.Cut.{Cut}
use Rattle.flat.specs.Cuts.{char_cut}
use Rattle.flat.proofs.Inserting.{inserted-length, inserted-found}
use Rattle.flat.proofs.Deleting.{cut_size, cut_length, cut_text, cut_record, cut_left, char_found, char_within}

module _ (v : View) (b x : List ℕ) (p q : Position) (room : v.used ≤ length b) (r : Cut) (er : r ≡ char_cut (take (v.used - 0) (drop 0 b)) p q) where
  abbrev a : ℕ
  a = r.start.0

  abbrev e : ℕ
  e = r.end.0

  abbrev t : List ℕ
  t = take v.used b

  -- what the cut leaves
  abbrev u : List ℕ
  u = spliced t a e []

  abbrev whole-edit : Edited ℕ
  whole-edit = replaced is_lf t p q x

  left-size : length u ≡ v.used - (e - a)
  left-size = let w = char_within v b p q room r er in cut_size v b a e w.0 w.1 room

  replaced-cut : whole-edit
      ≡ edited (inserted is_lf u (earlier p q) x).text (whole (Replace (clamp is_lf u (earlier p q)) (inserted is_lf u (earlier p q) x).cursor) (slice a e t) [] []) (inserted is_lf u (earlier p q) x).cursor
  unfolding replaced
  replaced-cut = rw (char_found v b p q room r er)

  pub replace_plan : plan_of whole-edit ≡ record { used = v.used - (e - a) + length x; payload = e - a; first = 0; second = 0 }
  replace_plan =
      let w = char_within v b p q room r er in
      let n : length (inserted is_lf u (earlier p q) x).text ≡ v.used - (e - a) + length x = omega (arith, inserted-length u (earlier p q) x, left-size) in
      ap plan_of replaced-cut ∙ rw (n, cut_length v b a e w.0 w.1 room)

  module _ (s : Position) (es : s ≡ earlier p q) (f : Place) (z : Position) (b₁ o o' : List ℕ) (g : gap b₁ o' ≡ gap_closed b v.used a e o)
      (ef : f ≡ place is_lf (take (v.used - (e - a) - 0) (drop 0 b₁)) s) (ez : z ≡ f.pos ⊕ end_of is_lf x) where
    found : f ≡ place is_lf u s
    found = let w = char_within v b p q room r er in rw (← cut_left v b a e w.0 w.1 room b₁ o o' g) ef

    replaced-found : edited (spliced u f.at.0 f.at.0 x) (whole (Replace f.pos z) (slice a e t) [] []) z ≡ whole-edit
    replaced-found =
        let i = inserted-found u s x f z found ez in
        let j : spliced u f.at.0 f.at.0 x ≡ (inserted is_lf u s x).text = ap (λ (d : Edited ℕ). d.text) i in
        let k : z ≡ (inserted is_lf u s x).cursor = ap (λ (d : Edited ℕ). d.cursor) i in
        let m : f.pos ≡ clamp is_lf u s = ap (λ (h : Place). h.pos) found in
        rw (j, k, m, es) (sym replaced-cut)

    -- the buffer after both moves
    both : (b₂ : List ℕ) → b₂ ≡ gap_opened b₁ (v.used - (e - a)) f.at.0 x → v.used - (e - a) + length x ≤ length b → length (spliced u f.at.0 f.at.0 x) ≡ v.used - (e - a) + length x
        → b₂ ≡ renewed b v.used (spliced u f.at.0 f.at.0 x)
    both b₂ eb fits n =
        let w = char_within v b p q room r er in
        let l : take (v.used - (e - a)) b₁ ≡ u = sym (front b₁ (v.used - (e - a))) ∙ cut_left v b a e w.0 w.1 room b₁ o o' g in
        let m : v.used - (e - a) ≡ length u = sym left-size in
        eb ∙ rw (l, cut_text v b a e w.0 w.1 room b₁ o o' g, m) (renewed-twice b v.used u (spliced u f.at.0 f.at.0 x) (omega arith) room (omega arith))

    pub replace_done : (b₂ : List ℕ) (w : View) → b₂ ≡ gap_opened b₁ (v.used - (e - a)) f.at.0 x → v.used - (e - a) + length x ≤ length b
        → w ≡ record { used = v.used - (e - a) + length x; cursor = z; changes = (v.changes + 1) % 2 ^ 64 } → (y f' s' of os : List ℕ)
        → outcome (done (record { view = w; inverse = Replace f.pos z; payload = e - a; first = 0; second = 0 })) b₂ o' of os
        ≡ leaves (done (applied_as v whole-edit)) v (lent b y f' s' o of os) whole-edit
    unfolding leaves
    replace_done b₂ w eb fits ew y f' s' of os =
        let k = char_within v b p q room r er in
        let n : length (spliced u f.at.0 f.at.0 x) ≡ v.used - (e - a) + length x = ap (λ (d : Edited ℕ). length d.text) replaced-found ∙ ap (λ (h : Plan). h.used) replace_plan in
        subst (λ (D : Edited ℕ). outcome (done (record { view = w; inverse = Replace f.pos z; payload = e - a; first = 0; second = 0 })) b₂ o' of os ≡ leaves (done (applied_as v D)) v (lent b y f' s' o of os) D) replaced-found
        (rw (ew, both b₂ eb fits n, cut_record v b a e k.0 k.1 room b₁ o o' g, n, cut_length v b a e k.0 k.1 room))
