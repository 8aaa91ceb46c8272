-- A stretch of the text cut out, and what is then found in the text that is left.
use mathlib.Core.Path.{◌≡◌, refl, sym, ◌∙◌, ap, ap₂}
use mathlib.Core.Bool.{Bool, true, false, cond}
use mathlib.Core.List.{List, []}
use Prim.Native.Nat.{ℕ, suc, ◌+◌, ◌-◌, ◌≤◌, ◌%◌, ◌^◌, min, max}
use native.Mathlib.Omega.{arith}
use lib.Dec.{ltb}
use lib.ListN.{length, take, drop, length-append, length-take, length-drop}
use lib.Seq.{slice, take-take, length-take-le}
use Rattle.promise.specs.Paper.{done}
use Rattle.promise.specs.Slices.{over}
use Rattle.text.specs.declared.Position.{Position}
use Rattle.text.specs.declared.Place.{Place}
use Rattle.text.specs.Rows.{at, earlier, later, last_row, row_len, row_start, offset, clamp, place, spliced}
use Rattle.text.specs.Text.{is_lf, renewed}
use Rattle.text.proofs.Renewed.{renewed-text, renewed-length}
use Rattle.text.proofs.Texts.{front}
use Rattle.text.proofs.Spots.{offset-le, offset-place, start-mono, place-within}
use Rattle.text.proofs.Laws.{start-le}
use Rattle.edit.specs.declared.View.{View}
use Rattle.edit.specs.declared.Edit.TheVariants.{InsertStr}
use Rattle.edit.specs.Edits.{Edited, edited, whole, chars_deleted, lines_deleted, line_from, line_to}
use Rattle.edit.specs.Call.{lent, outcome, plan_of, applied_as, leaves}
use Rattle.splice.specs.Splice.{Gap, gap, gap_closed}
use Rattle.flat.specs.declared.Cut.{Cut}
use Rattle.flat.specs.declared.LineCut.{LineCut}
use Rattle.flat.specs.Cuts.{char_cut, line_cut}

-- what stands from a up to e of the text t cut out, to go back in at s, with the cursor at c
abbrev pub cutting : List ℕ → ℕ → ℕ → Position → Position → Edited ℕ
cutting t a e s c = edited (spliced t a e []) (whole (InsertStr s) (slice a e t) [] []) c

module _ (v : View) (b : List ℕ) (a e : ℕ) (h : a ≤ e) (k : e ≤ v.used) (room : v.used ≤ length b) where
  abbrev t : List ℕ
  t = take v.used b

  pub cut_size : length (spliced t a e []) ≡ v.used - (e - a)
  cut_size = simp (length-append, length-take, length-drop) (omega arith)

  pub cut_length : length (slice a e t) ≡ e - a
  cut_length = simp (length-drop, length-take) (omega arith)

  cut_same : slice a e b ≡ slice a e t
  cut_same = ap (drop a) (sym (take-take e v.used b k))

  cut_plan : (s c : Position) → plan_of (cutting t a e s c) ≡ record { used = v.used - (e - a); payload = e - a; first = 0; second = 0 }
  cut_plan s c = rw (cut_size, cut_length)

  module _ (b' o o' : List ℕ) (g : gap b' o' ≡ gap_closed b v.used a e o) where
    pub cut_text : b' ≡ renewed b v.used (spliced t a e [])
    cut_text = ap (λ (x : Gap). x.text) g

    pub cut_record : o' ≡ over (slice a e t) o
    cut_record = ap (λ (x : Gap). x.cut) g ∙ ap (λ (x : List ℕ). over x o) cut_same

    -- the text that is left, as it is lent to be looked at
    pub cut_left : take (v.used - (e - a) - 0) (drop 0 b') ≡ spliced t a e []
    cut_left = front b' (v.used - (e - a)) ∙ ap₂ {C = List ℕ} take (sym cut_size) cut_text ∙ renewed-text b v.used (spliced t a e [])

    cut_done : (s c : Position) (w : View) → w ≡ record { used = v.used - (e - a); cursor = c; changes = (v.changes + 1) % 2 ^ 64 } → (x f y of os : List ℕ)
        → outcome (done (record { view = w; inverse = InsertStr s; payload = e - a; first = 0; second = 0 })) b' o' of os
        ≡ leaves (done (applied_as v (cutting t a e s c))) v (lent b x f y o of os) (cutting t a e s c)
    unfolding leaves
    cut_done s c w ew x f y of os = rw (ew, cut_text, cut_record, cut_size, cut_length)

-- ---- characters

module _ (v : View) (b : List ℕ) (p q : Position) (room : v.used ≤ length b) (r : Cut) (er : r ≡ char_cut (take (v.used - 0) (drop 0 b)) p q) where
  abbrev chars : Edited ℕ
  chars = chars_deleted is_lf (take v.used b) p q

  pub char_found : r ≡ char_cut (take v.used b) p q
  char_found = rw (← front b v.used) er

  pub char_within : (r.start.0 ≤ r.end.0) × (r.end.0 ≤ v.used)
  char_within =
      let t = take v.used b in
      let x = offset-le is_lf t (earlier p q) in
      let y = offset-le is_lf t (later p q) in
      let l = length-take-le v.used b room in
      rw char_found (omega arith, omega arith)

  char_cutting : (s c : Position) → s ≡ earlier p q → c ≡ clamp is_lf (spliced (take v.used b) r.start.0 r.end.0 []) s
      → cutting (take v.used b) r.start.0 r.end.0 s c ≡ chars
  unfolding chars_deleted
  char_cutting s c es ec = rw (ec, es, char_found)

  pub char_plan : plan_of chars ≡ record { used = v.used - (r.end.0 - r.start.0); payload = r.end.0 - r.start.0; first = 0; second = 0 }
  char_plan =
      let w = char_within in
      let c = clamp is_lf (spliced (take v.used b) r.start.0 r.end.0 []) (earlier p q) in
      ap plan_of (sym (char_cutting (earlier p q) c refl refl)) ∙ cut_plan v b r.start.0 r.end.0 w.0 w.1 room (earlier p q) c

  pub char_done : (s c : Position) (b' o o' : List ℕ) (w : View) → s ≡ earlier p q → gap b' o' ≡ gap_closed b v.used r.start.0 r.end.0 o
      → c ≡ clamp is_lf (take (v.used - (r.end.0 - r.start.0) - 0) (drop 0 b')) s
      → w ≡ record { used = v.used - (r.end.0 - r.start.0); cursor = c; changes = (v.changes + 1) % 2 ^ 64 } → (x f y of os : List ℕ)
      → outcome (done (record { view = w; inverse = InsertStr s; payload = r.end.0 - r.start.0; first = 0; second = 0 })) b' o' of os
      ≡ leaves (done (applied_as v chars)) v (lent b x f y o of os) chars
  char_done s c b' o o' w es g ec ew x f y of os =
      let k = char_within in
      let z = char_cutting s c es (rw (← cut_left v b r.start.0 r.end.0 k.0 k.1 room b' o o' g) ec) in
      cut_done v b r.start.0 r.end.0 k.0 k.1 room b' o o' g s c w ew x f y of os ∙ ap (λ (d : Edited ℕ). leaves (done (applied_as v d)) v (lent b x f y o of os) d) z

  pub char_kept : (b' o o' : List ℕ) → gap b' o' ≡ gap_closed b v.used r.start.0 r.end.0 o → length b' ≡ length b
  char_kept b' o o' g =
      let k = char_within in
      let n = cut_size v b r.start.0 r.end.0 k.0 k.1 room in
      ap length (cut_text v b r.start.0 r.end.0 k.0 k.1 room b' o o' g)
      ∙ renewed-length b v.used (spliced (take v.used b) r.start.0 r.end.0 []) room (omega arith)

  -- a place in what the cut leaves
  pub found_within : (b' o o' : List ℕ) → gap b' o' ≡ gap_closed b v.used r.start.0 r.end.0 o → (s : Position) (f : Place)
      → f ≡ place is_lf (take (v.used - (r.end.0 - r.start.0) - 0) (drop 0 b')) s
      → (f.pos.row.0 ≤ v.used) × (f.pos.col.0 ≤ v.used) × (f.at.0 ≤ v.used - (r.end.0 - r.start.0))
  found_within b' o o' g s f ef =
      let k = char_within in
      let m = cut_left v b r.start.0 r.end.0 k.0 k.1 room b' o o' g in
      let n = cut_size v b r.start.0 r.end.0 k.0 k.1 room in
      let w = place-within is_lf (spliced (take v.used b) r.start.0 r.end.0 []) s f (rw (← m) ef) in
      (omega (arith, w.0), omega (arith, w.1), omega (arith, w.2))

-- ---- rows

row_cut_within : (t : List ℕ) (lo hi : ℕ) → lo ≤ hi → hi ≤ last_row is_lf t → (offset is_lf t (line_from is_lf t lo hi) ≤ line_to is_lf t hi) × (line_to is_lf t hi ≤ length t)
unfolding line_from line_to
row_cut_within t lo hi h k = go (ltb hi (last_row is_lf t)) refl
  where
    go : (q : Bool) → ltb hi (last_row is_lf t) ≡ q
        → (offset is_lf t (cond q (at lo 0) (cond (ltb 0 lo) (at (lo - 1) (row_len is_lf t (lo - 1))) (at 0 0))) ≤ cond q (row_start is_lf t (suc hi)) (length t)) × (cond q (row_start is_lf t (suc hi)) (length t) ≤ length t)
    go true e = (omega (arith, offset-place is_lf t lo 0 (omega arith) (omega arith), start-mono is_lf t lo (suc hi) (omega arith)), start-le is_lf t (suc hi))
    go false e = (offset-le is_lf t (cond (ltb 0 lo) (at (lo - 1) (row_len is_lf t (lo - 1))) (at 0 0)), omega arith)

module _ (v : View) (b : List ℕ) (p q : Position) (room : v.used ≤ length b) (r : LineCut) (er : r ≡ line_cut (take (v.used - 0) (drop 0 b)) p.row.0 q.row.0) where
  abbrev rows : Edited ℕ
  rows = lines_deleted is_lf (take v.used b) p q

  line-found : r ≡ line_cut (take v.used b) p.row.0 q.row.0
  line-found = rw (← front b v.used) er

  pub line-within : (r.cut.start.0 ≤ r.cut.end.0) × (r.cut.end.0 ≤ v.used)
  line-within =
      let t = take v.used b in
      let w = row_cut_within t (min (min p.row.0 q.row.0) (last_row is_lf t)) (min (max p.row.0 q.row.0) (last_row is_lf t)) (omega arith) (omega arith) in
      let l = length-take-le v.used b room in
      rw line-found (w.0, omega (arith, w.1, l))

  line-cutting : (n : ℕ) → n ≡ min r.lo.0 (last_row is_lf (spliced (take v.used b) r.cut.start.0 r.cut.end.0 []))
      → cutting (take v.used b) r.cut.start.0 r.cut.end.0 r.back (at n 0) ≡ rows
  unfolding lines_deleted
  line-cutting n en = rw (en, line-found)

  pub line-plan : plan_of rows ≡ record { used = v.used - (r.cut.end.0 - r.cut.start.0); payload = r.cut.end.0 - r.cut.start.0; first = 0; second = 0 }
  line-plan =
      let w = line-within in
      let n : ℕ = min r.lo.0 (last_row is_lf (spliced (take v.used b) r.cut.start.0 r.cut.end.0 [])) in
      ap plan_of (sym (line-cutting n refl)) ∙ cut_plan v b r.cut.start.0 r.cut.end.0 w.0 w.1 room r.back (at n 0)

  pub line-done : (l n : ℕ) (b' o o' : List ℕ) (w : View) → gap b' o' ≡ gap_closed b v.used r.cut.start.0 r.cut.end.0 o
      → l ≡ last_row is_lf (take (v.used - (r.cut.end.0 - r.cut.start.0) - 0) (drop 0 b')) → n ≡ min r.lo.0 l
      → w ≡ record { used = v.used - (r.cut.end.0 - r.cut.start.0); cursor = at n 0; changes = (v.changes + 1) % 2 ^ 64 } → (x f y of os : List ℕ)
      → outcome (done (record { view = w; inverse = InsertStr r.back; payload = r.cut.end.0 - r.cut.start.0; first = 0; second = 0 })) b' o' of os
      ≡ leaves (done (applied_as v rows)) v (lent b x f y o of os) rows
  line-done l n b' o o' w g el en ew x f y of os =
      let k = line-within in
      let m = cut_left v b r.cut.start.0 r.cut.end.0 k.0 k.1 room b' o o' g in
      let z = line-cutting n (en ∙ ap (min r.lo.0) (el ∙ ap (last_row is_lf) m)) in
      cut_done v b r.cut.start.0 r.cut.end.0 k.0 k.1 room b' o o' g r.back (at n 0) w ew x f y of os ∙ ap (λ (d : Edited ℕ). leaves (done (applied_as v d)) v (lent b x f y o of os) d) z
