-- Rows 7 to 9 from the numbers of a plan.
use Rattle.std.proofs.Common.{◌≡◌, ℕ, Bool, true, false, not, ◌&&◌, ◌||◌, ltb, leb, length, sym, refl, ap, le-ltb, lt-ltb, leb-false, leb-true}
use Rattle.promise.specs.Paper.{done, refused}
use Rattle.edit.specs.declared.Room.{Room}
use Rattle.edit.specs.declared.Plan.{Plan}
use Rattle.edit.specs.Edits.{Edited}
use Rattle.edit.specs.Refusals.{room_ok, record_ok}
use Rattle.edit.specs.Call.{first_of, verdict_of, result_tests, plan_of}

not-leb : (a b : ℕ) → not (leb a b) ≡ ltb b a
not-leb a b = go (leb a b) refl
  where
    go : (q : Bool) → leb a b ≡ q → not q ≡ ltb b a
    go true e = sym (le-ltb b a (leb-true a b e))
    go false e = sym (lt-ltb b a (leb-false a b e))

not-both : (a b : Bool) → not (a && b) ≡ (not a || not b)
not-both true b = refl
not-both false b = refl

module _ (R : Room) (p : Plan) (d : Edited ℕ) (e : plan_of d ≡ p) where
  no_room : not (room_ok R d.text) ≡ (ltb R.buffer p.used || ltb 16384 p.used)
  unfolding room_ok
  no_room =
      let n : length d.text ≡ p.used = ap (λ (q : Plan). q.used) e in
      rw (n, not-both (leb p.used R.buffer) (leb p.used 16384), not-leb p.used R.buffer, not-leb p.used 16384)

  no_record : not (record_ok R d.inverse) ≡ (ltb R.payload p.payload || ltb R.first p.first || ltb R.second p.second)
  unfolding record_ok
  no_record =
      let x : length d.inverse.payload ≡ p.payload = ap (λ (q : Plan). q.payload) e in
      let f : length d.inverse.first ≡ p.first = ap (λ (q : Plan). q.first) e in
      let s : length d.inverse.second ≡ p.second = ap (λ (q : Plan). q.second) e in
      rw (x, f, s, not-both (leb p.payload R.payload && leb p.first R.first) (leb p.second R.second), not-both (leb p.payload R.payload) (leb p.first R.first), not-leb p.payload R.payload, not-leb p.first R.first, not-leb p.second R.second)

  pub judged-7 : (w : Bool) → not w ≡ true → refused 7 0 ≡ verdict_of (result_tests w R d)
  unfolding first_of
  judged-7 w h = rw h

  pub judged-8 : (w : Bool) → not w ≡ false → (ltb R.buffer p.used || ltb 16384 p.used) ≡ true → refused 8 0 ≡ verdict_of (result_tests w R d)
  unfolding first_of
  judged-8 w h k = rw (h, no_room, k)

  module _ (w : Bool) (h : not w ≡ false) (k : (ltb R.buffer p.used || ltb 16384 p.used) ≡ false) where
    pub judged-9 : (ltb R.payload p.payload || ltb R.first p.first || ltb R.second p.second) ≡ true → refused 9 0 ≡ verdict_of (result_tests w R d)
    unfolding first_of
    judged-9 m = rw (h, no_room, k, no_record, m)

    pub judged-fine : (ltb R.payload p.payload || ltb R.first p.first || ltb R.second p.second) ≡ false → done tt ≡ verdict_of (result_tests w R d)
    unfolding first_of
    judged-fine m = rw (h, no_room, k, no_record, m)
