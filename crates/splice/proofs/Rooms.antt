-- A part of the text changed in a shorter buffer, and what stands behind it moved once: down over what the part gave up, or up before the part is changed.
use mathlib.Core.Path.{◌≡◌, sym, ◌∙◌}
use mathlib.Core.List.{List, [], ◌++◌, append-nil, append_assoc}
use Prim.Native.Nat.{ℕ, ◌+◌, ◌-◌, ◌≤◌, max}
use native.Mathlib.Omega.{arith}
use lib.ListN.{length, take, drop, replicate, length-append, length-take, length-drop, length-replicate, drop_of_length-le}
use lib.Seq.{take_at, drop_at, take-take, take-append_seam, drop-drop}
use Rattle.promise.proofs.Lists.{drop-take}
use Rattle.text.specs.Rows.{spliced}
use Rattle.text.specs.Text.{renewed}
use Rattle.splice.specs.Splice.{gap_opened, gap_removed}

-- u stands for the first e of the text, and is no longer than they were
module _ (b : List ℕ) (used e : ℕ) (u : List ℕ) (hu : length u ≤ e) (he : e ≤ used) (hb : used ≤ length b) where
  abbrev part : List ℕ
  part = u ++ replicate (e - length u) 0

  part-renewed : renewed (take e b) e u ≡ part
  unfolding renewed
  part-renewed =
      let m : max e (length u) ≡ e = omega arith in
      rw (m, drop_of_length-le (take e b) {i = e} (omega (arith, length-take e b)), append-nil)

  tail_same : drop e (part ++ drop e b) ≡ drop e b
  tail_same = drop_at part (drop e b) e (simp (length-append, length-replicate) (omega arith))

  text-down : spliced (take used (part ++ drop e b)) (length u) e [] ≡ u ++ drop e (take used b)
  text-down =
      let a : take (length u) (take used (part ++ drop e b)) ≡ u =
      take-take (length u) used (part ++ drop e b) (omega arith) ∙ rw append_assoc (take-append_seam u (replicate (e - length u) 0 ++ drop e b)) in
      rw (a, drop-take e used (part ++ drop e b), tail_same, drop-take e used b)

  pub moved_down : gap_removed (renewed (take e b) e u ++ drop e b) used (length u) e ≡ renewed b used (u ++ drop e (take used b))
  unfolding renewed
  moved_down =
      let w : List ℕ = u ++ drop e (take used b) in
      let l : length w ≤ used = omega (arith, length-append u (drop e (take used b)), length-drop e (take used b), length-take used b) in
      let m : max used (length w) ≡ used = omega arith in
      let k : used ≡ e + (used - e) = omega arith in
      let d : drop used (part ++ drop e b) ≡ drop used b = rw (k, ← drop-drop (used - e) e (part ++ drop e b), tail_same, drop-drop) in
      rw (part-renewed, text-down, m, d)

-- room for m more is opened behind the first e of the text
abbrev pub opened : List ℕ → ℕ → ℕ → ℕ → List ℕ
opened b used e m = gap_opened b used e (replicate m 32 ++ [])

module _ (b : List ℕ) (used e m : ℕ) (he : e ≤ used) (hb : used + m ≤ length b) where
  abbrev front : List ℕ
  front = take e (take used b)

  abbrev behind : List ℕ
  behind = drop e (take used b)

  front_long : length front ≡ e
  front_long = simp length-take (omega arith)

  room_long : length (front ++ replicate m 32) ≡ e + m
  room_long = simp (length-append, length-replicate) (omega (arith, front_long))

  opened-is : opened b used e m ≡ (front ++ replicate m 32) ++ (behind ++ drop (used + m) b)
  unfolding renewed
  opened-is =
      let l : length (front ++ ((replicate m 32 ++ []) ++ behind)) ≡ used + m = simp (length-append, length-replicate, length-take, length-drop) (omega arith) in
      let z : used - (used + m) ≡ 0 = omega arith in
      let n : max used (used + m) ≡ used + m = omega arith in
      rw (l, z, n, append-nil (replicate {A = ℕ} m 32)) (simp append_assoc)

  opened-part : take (e + m) (opened b used e m) ≡ front ++ replicate m 32
  opened-part = rw opened-is (take_at (front ++ replicate m 32) (behind ++ drop (used + m) b) (e + m) room_long)

  pub opened-length : length (take (e + m) (opened b used e m)) ≡ e + m
  opened-length = rw opened-part room_long

  pub opened-front : take e (take (e + m) (opened b used e m)) ≡ take e (take used b)
  opened-front = rw opened-part (take_at front (replicate m 32) e front_long)

  -- w fills the first e with the room
  pub moved_up : (w : List ℕ) → length w ≡ e + m → renewed (take (e + m) (opened b used e m)) e w ++ drop (e + m) (opened b used e m) ≡ renewed b used (w ++ drop e (take used b))
  unfolding renewed
  moved_up w l =
      let d : drop (e + m) (opened b used e m) ≡ behind ++ drop (used + m) b = rw opened-is (drop_at (front ++ replicate m 32) (behind ++ drop (used + m) b) (e + m) room_long) in
      let z : e - (e + m) ≡ 0 = omega arith in
      let n : max e (e + m) ≡ e + m = omega arith in
      let g : drop (e + m) (front ++ replicate m 32) ≡ [] = drop_of_length-le (front ++ replicate m 32) {i = e + m} (omega (arith, room_long)) in
      let a : length (w ++ behind) ≡ used + m = simp (length-append, length-take, length-drop) (omega arith) in
      let y : used - (used + m) ≡ 0 = omega arith in
      let v : max used (used + m) ≡ used + m = omega arith in
      rw (d, opened-part, l, z, n, g, a, y, v, append-nil w) (sym (append_assoc w behind (drop (used + m) b)))
