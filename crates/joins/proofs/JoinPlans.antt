-- The plan of a join walks the text as it was: what is known after k rows below row r.
use mathlib.Core.Path.{◌≡◌, refl, sym, ap, ◌∙◌}
use mathlib.Core.Bool.{Bool, true, false, ◌&&◌, ◌||◌}
use mathlib.Core.List.{List, [], ◌∷◌, ◌++◌}
use mathlib.Core.Logic.{◌⊎◌, inl, inr, ⊎_elim}
use Prim.Native.Nat.{ℕ, suc, ◌+◌, ◌-◌, ◌≤◌, ◌<◌, min, max}
use native.Mathlib.Omega.{arith}
use native.Mathlib.Numerals.{add-one}
use native.Mathlib.Decide.{dec_le}
use borrow.Author.Tests.{ltb-true, ltb-false, eqb-true, eqb-false}
use Rattle.promise.proofs.Bools.{both}
use lib.Dec.{ltb, eqb}
use lib.ListN.{length, drop, get_or, length-drop, drop_of_length-le}
use lib.Seq.{drop-cons, drop-drop, drop-append_seam}
use Rattle.text.specs.declared.Span.{Span}
use Rattle.text.specs.Rows.{Line, line, lines, unlines, last_row, row_len, row_end, span, char_at}
use Rattle.text.specs.Text.{is_lf}
use Rattle.text.proofs.Spots.{row_within}
use Rattle.text.proofs.Broken.{broken_last, first_len}
use Rattle.text.proofs.Ended.{Ended, ended_at}
use Rattle.text.proofs.Changes.{rows-below}
use Rattle.text.proofs.Fronts.{behind-front}
use Rattle.edit.specs.Edits.{gap, join_row, joined}
use Rattle.edit.specs.Refusals.{is_space, spaces}
use Rattle.joins.specs.declared.JoinTurn.{JoinTurn}
use Rattle.joins.specs.Turns.{join_turn, join_plan, joins}
use Rattle.text.proofs.Walks.{span-parts}
use Rattle.joins.proofs.JoinTurns.{below_of, row_to, after_of, row_at, below_count, turn, turn_size, row_size, turn_gap, turn_small, joins-none, Starts, joins-same, joined-joins, joins-cols, joins-flags, joins-payload}

-- what stands from offset `at` on, after k rows below row r
abbrev pub Walked : List ℕ → ℕ → ℕ → ℕ → Type 0
Walked t r k at = drop at t ≡ after_of t r k ++ unlines (drop k (below_of t r))

module _ (t : List ℕ) (r : ℕ) (h : r ≤ last_row is_lf t) where
  module _ (k at : ℕ) (w : Walked t r k at) where
    walked_all : k ≡ length (below_of t r) → length t ≤ at
    unfolding unlines
    walked_all e =
        let z : after_of t r k ≡ [] = rw e (broken_last is_lf (rows-below t r h)) in
        let n : drop at t ≡ [] = w ∙ rw (z, drop_of_length-le (below_of t r) {i = k} (omega arith)) in
        omega (arith, simp length-drop at (ap length n))

    module _ (l : k < length (below_of t r)) where
      next_row : Ended (get_or (below_of t r) k (line [] []) ∷ drop (suc k) (below_of t r))
      next_row = rw (← drop-cons (below_of t r) k (line [] []) l) (ended_at k (rows-below t r h) l).1

      walked_lf : drop at t ≡ 10 ∷ unlines (get_or (below_of t r) k (line [] []) ∷ drop (suc k) (below_of t r))
      walked_lf = w ∙ rw ((ended_at k (rows-below t r h) l).0, drop-cons (below_of t r) k (line [] []) l)

      walked_past : drop (at + 1) t ≡ unlines (get_or (below_of t r) k (line [] []) ∷ drop (suc k) (below_of t r))
      walked_past = sym (drop-drop 1 at t) ∙ ap (drop 1) walked_lf

      pub walked_within : at < length t
      walked_within = omega (arith, simp length-drop at (ap length walked_lf))

      pub walked_len : row_len is_lf (drop (at + 1) t) 0 ≡ length (get_or (below_of t r) k (line [] [])).body
      walked_len = rw walked_past (first_len is_lf next_row)

      pub walked_more : Walked t r (suc k) (at + 1 + length (get_or (below_of t r) k (line [] [])).body)
      unfolding unlines
      walked_more =
          let y = get_or (below_of t r) k (line [] []) in
          sym (drop-drop (length y.body) (at + 1) t) ∙ ap (drop (length y.body)) walked_past ∙ drop-append_seam y.body (y.after ++ unlines (drop (suc k) (below_of t r)))

-- the walk is where row r + k ends
pub walked_row : (t : List ℕ) (r k : ℕ) → r + k ≤ last_row is_lf t → Walked t r k (row_end is_lf t (r + k))
walked_row t r k h =
    let n : suc r + k ≡ suc (r + k) = omega arith in
    let d : drop k (below_of t r) ≡ below_of t (r + k) = drop-drop k (suc r) (lines is_lf t) ∙ rw n in
    behind-front t (r + k) h ∙ sym (ap (λ (y : Line ℕ). y.after ++ unlines (drop k (below_of t r))) (row_at t r k (omega arith)) ∙ rw d)

-- and nowhere else
walked_end : (t : List ℕ) (r k at : ℕ) → r + k ≤ last_row is_lf t → at ≤ length t → Walked t r k at → at ≡ row_end is_lf t (r + k)
walked_end t r k at h l w =
    let e : ℕ = row_end is_lf t (r + k) in
    let q : drop at t ≡ drop e t = w ∙ sym (walked_row t r k h) in
    omega (arith, row_within is_lf t (r + k), length-drop at t, length-drop e t, ap length q)

pub record Planned (t : List ℕ) (r : ℕ) (b : Bool) (m used at left k : ℕ) : Type 0 where
  pub few : k ≤ length (below_of t r)
  pub more : k ≤ m
  pub used_is : used ≡ length (joins t r b k).text
  pub left_is : left ≡ length (row_to t r b k).body
  pub walked : Walked t r k at

abbrev pub Planning : List ℕ → ℕ → Bool → ℕ → ℕ → ℕ → ℕ → ℕ → ℕ → Type 0
Planning t count b end len used at left k = (r : ℕ) → Starts t r end len → Planned t r b (max count 1) used at left k

pub planning_none : (t : List ℕ) (count : ℕ) (b : Bool) (end len : ℕ) → Planning t count b end len (length t) end len 0
unfolding join_row row_len
planning_none t count b end len r q = record {
  few = omega arith;
  more = omega arith;
  used_is = sym (ap length (joins-none t r b q.within));
  left_is = q.long;
  walked = rw q.ends (unfold row_len in (behind-front t r q.within));
}

module _ (t : List ℕ) (r : ℕ) (b : Bool) (m used at left k : ℕ) (h : r ≤ last_row is_lf t) (p : Planned t r b m used at left k) where
  -- the walk is not at the end of the text
  module _ (i : at < length t) where
    plan_more : k < length (below_of t r)
    plan_more = elim (dec_le (suc k) (length (below_of t r))) [ yes l ↦ l | no l ↦ absurd (omega (arith, walked_all t r h k at p.walked (omega (arith, p.few)))) ]

    module _ (j : JoinTurn) (e : j ≡ join_turn t at left b) where
      abbrev y_plan : Line ℕ
      y_plan = get_or (below_of t r) k (line [] [])

      plan_len : j.len ≡ length y_plan.body
      plan_len = ap (λ (j : JoinTurn). j.len) e ∙ walked_len t r h k at p.walked plan_more

      plan_gap : j.gap ≡ length (gap 32 b (row_to t r b k).body y_plan.body)
      plan_gap = turn_gap t r h b k plan_more j left p.left_is plan_len (rw e)

      pub plan_sizes : (1 ≤ used) × (left ≤ used) × (j.gap ≤ 1) × (at + 1 + j.len ≤ length t)
      plan_sizes =
          let w = (turn t r h b k plan_more).within in
          let q = turn_small t at left b j e in
          (omega (arith, p.used_is), omega (arith, p.used_is, p.left_is), q.0, omega arith)

      pub planned_more : k < m → Planned t r b m (used - 1 + j.gap) (at + 1 + j.len) (left + j.gap + j.len) (k + 1)
      planned_more l = rw (add-one k) (record {
        few = plan_more;
        more = l;
        used_is = omega (arith, turn_size t r h b k plan_more, (turn t r h b k plan_more).within, plan_gap, p.used_is);
        left_is = omega (arith, row_size t r h b k plan_more, plan_gap, plan_len, p.left_is);
        walked = rw plan_len (walked_more t r h k at p.walked plan_more);
      })

-- the test of the plan's loop
abbrev pub goes_on : ℕ → ℕ → ℕ → ℕ → Bool
goes_on at n k count = ltb at n && (eqb k 0 || ltb k count)

wish_more : (k count : ℕ) → (eqb k 0 || ltb k count) ≡ true → k < max count 1
wish_more k count e = go (eqb k 0) refl e
  where
    go : (q : Bool) → eqb k 0 ≡ q → (q || ltb k count) ≡ true → k < max count 1
    go true p e = omega (arith, eqb-true k 0 p)
    go false p e = omega (arith, ltb-true k count e)

wish_met : (k count : ℕ) → (eqb k 0 || ltb k count) ≡ false → max count 1 ≤ k
wish_met k count e = go (eqb k 0) refl e
  where
    go : (q : Bool) → eqb k 0 ≡ q → (q || ltb k count) ≡ false → max count 1 ≤ k
    go true p e = absurd (let z : true ≡ false = e in let w : ◌≡◌ {A = ℕ} 0 1 = cc in omega arith)
    go false p e = let n = eqb-false k 0 p in let l = ltb-false k count e in omega arith

pub on_inside : (at n : ℕ) (q : Bool) → (ltb at n && q) ≡ true → at < n
on_inside at n q e = ltb-true at n (both (ltb at n) q e).0

on_more : (at n k count : ℕ) → goes_on at n k count ≡ true → k < max count 1
on_more at n k count e = wish_more k count (both (ltb at n) (eqb k 0 || ltb k count) e).1

on_end : (at n k count : ℕ) → goes_on at n k count ≡ false → (n ≤ at) ⊎ (max count 1 ≤ k)
on_end at n k count e = go (ltb at n) refl e
  where
    go : (q : Bool) → ltb at n ≡ q → (q && (eqb k 0 || ltb k count)) ≡ false → (n ≤ at) ⊎ (max count 1 ≤ k)
    go true p e = inr (wish_met k count e)
    go false p e = inl (ltb-false at n p)

module _ (t : List ℕ) (r : ℕ) (b : Bool) (count used at left k : ℕ) (h : r ≤ last_row is_lf t) (p : Planned t r b (max count 1) used at left k) (e : goes_on at (length t) k count ≡ false) where
  plan_all : joined is_lf is_space spaces t r count b ≡ joins t r b k
  plan_all = joined-joins t r count b h ∙ sym (joins-same t r b k (max count 1) p.few p.more (⊎_elim ended_here (λ l. inr l) (on_end at (length t) k count e)))
    where
      ended_here : length t ≤ at → (length (below_of t r) ≤ k) ⊎ (max count 1 ≤ k)
      ended_here l = elim (dec_le (length (below_of t r)) k) [ yes q ↦ inl q | no q ↦ absurd (omega (arith, walked_within t r h k at p.walked (omega arith))) ]

  pub planned_all : at ≤ length t → record { end = char_at at; sizes = record { used = used; payload = 0; first = k; second = k } } ≡ join_plan t r count b
  unfolding span
  planned_all l =
      let u = p.used_is in
      let m : r + k ≤ last_row is_lf t = omega (arith, p.few, below_count t r) in
      let n : min (r + k) (last_row is_lf t) ≡ r + k = omega arith in
      rw (plan_all, joins-cols t r b k p.few, joins-flags t r b k p.few, joins-payload t r b k, u, n, ← walked_end t r k at m l p.walked)

pub starts-at : (t : List ℕ) (f : Span) → f ≡ span is_lf t f.row.0 → Starts t f.row.0 f.end.0 (f.end.0 - f.start.0)
starts-at t f e = let q = span-parts t f e in record { within = q.0; ends = q.2; long = omega arith }

module _ (t : List ℕ) (count : ℕ) (b : Bool) (end len used at left k : ℕ) (p : Planning t count b end len used at left k) where
  module _ (i : at < length t) (j : JoinTurn) (q : j ≡ join_turn t at left b) where
    pub planning_more : goes_on at (length t) k count ≡ true → Planning t count b end len (used - 1 + j.gap) (at + 1 + j.len) (left + j.gap + j.len) (k + 1)
    planning_more e r s = planned_more t r b (max count 1) used at left k s.within (p r s) i j q (on_more at (length t) k count e)

    pub planning_sizes : (f : Span) → f ≡ span is_lf t f.row.0 → end ≡ f.end.0 → len ≡ f.end.0 - f.start.0 → (1 ≤ used) × (left ≤ used) × (j.gap ≤ 1) × (at + 1 + j.len ≤ length t)
    planning_sizes f h x y =
        let s = starts-at t f h in
        plan_sizes t f.row.0 b (max count 1) used at left k s.within (p f.row.0 (rw (x, y) s)) i j q

  pub planning_all : (f : Span) → f ≡ span is_lf t f.row.0 → end ≡ f.end.0 → len ≡ f.end.0 - f.start.0 → goes_on at (length t) k count ≡ false → at ≤ length t
      → record { end = char_at at; sizes = record { used = used; payload = 0; first = k; second = k } } ≡ join_plan t f.row.0 count b
  planning_all f h x y e = let s = starts-at t f h in planned_all t f.row.0 b count used at left k s.within (p f.row.0 (rw (x, y) s)) e
