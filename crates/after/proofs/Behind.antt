-- Where positions land that stand behind an insertion or a cut, by adding positions; and that these shifts keep the order of positions.
use mathlib.Core.Path.{◌≡◌, refl}
use mathlib.Core.Bool.{Bool, true, false}
use mathlib.Core.Logic.{inl, inr, ⊎_elim}
use mathlib.Core.List.{List}
use Prim.Native.Nat.{ℕ, zero, suc, ◌+◌, ◌-◌, ◌≤◌, ◌<◌}
use native.Mathlib.Decide.{dec_le}
use native.Mathlib.Omega.{arith}
use borrow.Author.Tests.{le-ltb, lt-leb, eq-eqb, ne_eqb}
use lib.ListN.{length}
use Rattle.promise.proofs.Bools.{known}
use Rattle.text.specs.declared.Position.{Position}
use Rattle.text.specs.Rows.{at, upto, ◌⊕◌, last_row, row_len, end_of}
use Rattle.text.specs.Text.{is_lf}
use Rattle.text.proofs.Laws.{add_same, add-next, add_nothing, add-to_row}
use Rattle.text.proofs.Order.{upto_is, is_upto, upto-self, upto-trans, upto-total, upto-both, row_le}
use Rattle.text.proofs.Adds.{behind, apart, order_moved}
use Rattle.text.proofs.Spots.{one-row}
use Rattle.after.specs.After.{after_insert, after_delete_char, after_delete_lines}
use Rattle.after.proofs.Inserts.{insert-before}
use Rattle.after.proofs.Deletes.{delete_before, delete_inside, lines-above, lines-inside}

-- ---- insertions

insert-at : (a b r c : ℕ) (x : List ℕ) → after_insert (at a b ⊕ at r c) (at a b) x ≡ at a b ⊕ end_of is_lf x ⊕ at r c
unfolding after_insert end_of
insert-at a b zero c x = rw (add_same a b c) (go (last_row is_lf x) refl)
  where
    here : upto (at a b) (at a (b + c)) ≡ true
    here = is_upto (at a b) (at a (b + c)) (inr (refl, omega arith))

    go : (l : ℕ) → last_row is_lf x ≡ l → after_insert (at a (b + c)) (at a b) x ≡ at a b ⊕ at (last_row is_lf x) (row_len is_lf x (last_row is_lf x)) ⊕ at 0 c
    go zero e =
        let k : b + c + length x ≡ b + length x + c = omega arith in
        rw (here, eq-eqb a a refl, e, one-row is_lf x e, add_same a b (length x), add_same a (b + length x) c, k)
    go (suc l) e =
        let k : row_len is_lf x (suc l) + (b + c - b) ≡ row_len is_lf x (suc l) + c = omega arith in
        rw (here, eq-eqb a a refl, e, ne_eqb (suc l) 0 (omega arith), add-next a b (suc l) (row_len is_lf x (suc l)) (omega arith), add_same (a + suc l) (row_len is_lf x (suc l)) c, k)
insert-at a b (suc r) c x = rw (add-next a b (suc r) c (omega arith)) (go (last_row is_lf x) refl)
  where
    here : upto (at a b) (at (a + suc r) c) ≡ true
    here = is_upto (at a b) (at (a + suc r) c) (inl (omega arith))

    go : (l : ℕ) → last_row is_lf x ≡ l → after_insert (at (a + suc r) c) (at a b) x ≡ at a b ⊕ at (last_row is_lf x) (row_len is_lf x (last_row is_lf x)) ⊕ at (suc r) c
    go zero e =
        let k : a + suc r + 0 ≡ a + suc r = omega arith in
        rw (here, ne_eqb (a + suc r) a (omega arith), e, add_same a b (row_len is_lf x 0), add-next a (b + row_len is_lf x 0) (suc r) c (omega arith), k)
    go (suc l) e =
        let k : a + suc r + suc l ≡ a + suc l + suc r = omega arith in
        rw (here, ne_eqb (a + suc r) a (omega arith), e, add-next a b (suc l) (row_len is_lf x (suc l)) (omega arith), add-next (a + suc l) (row_len is_lf x (suc l)) (suc r) c (omega arith), k)

module _ (q : Position) (x : List ℕ) where
  pub insert-behind : (d : Position) → after_insert (q ⊕ d) q x ≡ q ⊕ end_of is_lf x ⊕ d
  insert-behind d = insert-at q.row.0 q.col.0 d.row.0 d.col.0 x

  -- what stands just there goes behind what comes in
  pub insert-there : after_insert q q x ≡ q ⊕ end_of is_lf x
  insert-there = rw (add_nothing q, add_nothing (q ⊕ end_of is_lf x)) at (insert-behind (at 0 0))

  insert-least : (p : Position) → upto q p ≡ true → upto (q ⊕ end_of is_lf x) (after_insert p q x) ≡ true
  insert-least p h = let d = apart q p h in rw (d.is, insert-behind d.by) (behind (q ⊕ end_of is_lf x) d.by)

  pub insert-order : (p r : Position) → upto p r ≡ true → upto (after_insert p q x) (after_insert r q x) ≡ true
  insert-order p r h = ⊎_elim both_behind ahead (known (upto q p))
    where
      both_behind : upto q p ≡ true → upto (after_insert p q x) (after_insert r q x) ≡ true
      both_behind k =
          let d = apart q p k in
          let e = apart q r (upto-trans q p r k h) in
          rw (d.is, e.is, insert-behind d.by, insert-behind e.by) (order_moved q (q ⊕ end_of is_lf x) d.by e.by (rw (d.is, e.is) at h))

      ahead : upto q p ≡ false → upto (after_insert p q x) (after_insert r q x) ≡ true
      ahead k = rw (← insert-before p q x k) (⊎_elim after (λ m. rw (← insert-before r q x m) h) (known (upto q r)))
        where
          after : upto q r ≡ true → upto p (after_insert r q x) ≡ true
          after m =
              upto-trans p q (after_insert r q x) (upto-total q p k) (upto-trans q (q ⊕ end_of is_lf x) (after_insert r q x) (behind q (end_of is_lf x)) (insert-least r m))

-- ---- cuts

delete_at : (s : Position) (a b r c : ℕ) → upto s (at a b) ≡ true → after_delete_char (at a b ⊕ at r c) s (at a b) ≡ s ⊕ at r c
unfolding after_delete_char
delete_at s a b zero c h = rw (add_same a b c) (go (upto (at a (b + c)) s) refl)
  where
    here : upto (at a b) (at a (b + c)) ≡ true
    here = is_upto (at a b) (at a (b + c)) (inr (refl, omega arith))

    go : (t : Bool) → upto (at a (b + c)) s ≡ t → after_delete_char (at a (b + c)) s (at a b) ≡ s ⊕ at 0 c
    go true e =
        let n : at a (b + c) ≡ s = upto-both (at a (b + c)) s e (upto-trans s (at a b) (at a (b + c)) h here) in
        let z : c ≡ 0 = (let k = upto_is (at a (b + c)) (at a b) (upto-trans (at a (b + c)) s (at a b) e h) in ⊎_elim (λ l. absurd (omega arith)) (λ l. omega arith) k) in
        rw (e, z, add_nothing s) (rw z at n)
    go false e =
        let k : s.col.0 + (b + c - b) ≡ s.col.0 + c = omega arith in
        rw (e, here, eq-eqb a a refl, add_same s.row.0 s.col.0 c, k)
delete_at s a b (suc r) c h = rw (add-next a b (suc r) c (omega arith)) (go (upto (at (a + suc r) c) s) refl)
  where
    here : upto (at a b) (at (a + suc r) c) ≡ true
    here = is_upto (at a b) (at (a + suc r) c) (inl (omega arith))

    go : (t : Bool) → upto (at (a + suc r) c) s ≡ t → after_delete_char (at (a + suc r) c) s (at a b) ≡ s ⊕ at (suc r) c
    go true e = absurd (omega (arith, row_le s (at a b) h, row_le (at (a + suc r) c) s e))
    go false e =
        let w = row_le s (at a b) h in
        let k : a + suc r - (a - s.row.0) ≡ s.row.0 + suc r = omega arith in
        rw (e, here, ne_eqb (a + suc r) a (omega arith), add-next s.row.0 s.col.0 (suc r) c (omega arith), k)

module _ (s e : Position) (u : upto s e ≡ true) where
  pub delete_behind : (d : Position) → after_delete_char (e ⊕ d) s e ≡ s ⊕ d
  delete_behind d = delete_at s e.row.0 e.col.0 d.row.0 d.col.0 u

  -- nothing goes before the start that was not before it
  delete_least : (q : Position) → upto s q ≡ true → upto s (after_delete_char q s e) ≡ true
  delete_least q h =
      ⊎_elim (λ k. rw (← delete_before q s e k) h) (λ k. ⊎_elim there (λ m. rw (← delete_inside q s e k m) (upto-self s)) (known (upto e q))) (known (upto q s))
    where
      there : upto e q ≡ true → upto s (after_delete_char q s e) ≡ true
      there m = let d = apart e q m in rw (d.is, delete_behind d.by) (behind s d.by)

  pub delete_order : (p q : Position) → upto p q ≡ true → upto (after_delete_char p s e) (after_delete_char q s e) ≡ true
  delete_order p q h = ⊎_elim before past (known (upto p s))
    where
      before : upto p s ≡ true → upto (after_delete_char p s e) (after_delete_char q s e) ≡ true
      before k =
          rw (← delete_before p s e k)
          (⊎_elim (λ m. rw (← delete_before q s e m) h) (λ m. upto-trans p s (after_delete_char q s e) k (delete_least q (upto-total q s m))) (known (upto q s)))

      past : upto p s ≡ false → upto (after_delete_char p s e) (after_delete_char q s e) ≡ true
      past k = ⊎_elim both_behind (λ m. rw (← delete_inside p s e k m) (delete_least q (upto-trans s p q (upto-total p s k) h))) (known (upto e p))
        where
          both_behind : upto e p ≡ true → upto (after_delete_char p s e) (after_delete_char q s e) ≡ true
          both_behind m =
              let d = apart e p m in
              let f = apart e q (upto-trans e p q m h) in
              rw (d.is, f.is, delete_behind d.by, delete_behind f.by) (order_moved e s d.by f.by (rw (d.is, f.is) at h))

-- ---- whole rows

module _ (lo hi : ℕ) (u : lo ≤ hi) where
  lines_at : (r c : ℕ) → after_delete_lines (at (suc hi + r) c) lo hi ≡ at (lo + r) c
  unfolding after_delete_lines
  lines_at r c =
      let k : suc hi + r - (hi - lo + 1) ≡ lo + r = omega arith in
      rw (le-ltb (suc hi + r) lo (omega arith), lt-leb (suc hi + r) hi (omega arith), k)

  pub lines-behind : (d : Position) → after_delete_lines (at (suc hi) 0 ⊕ d) lo hi ≡ at lo 0 ⊕ d
  lines-behind d = rw (add-to_row (suc hi) d.row.0 d.col.0, add-to_row lo d.row.0 d.col.0) (lines_at d.row.0 d.col.0)

  past-hi : (p : Position) → hi < p.row.0 → upto (at (suc hi) 0) p ≡ true
  past-hi p h = is_upto (at (suc hi) 0) p (elim (dec_le p.row.0 (suc hi)) [ yes l ↦ inr (omega arith, omega arith) | no l ↦ inl (omega arith) ])

  -- what stands in these rows or behind them
  pub lines-least : (p : Position) → lo ≤ p.row.0 → upto (at lo 0) (after_delete_lines p lo hi) ≡ true
  lines-least p h = elim (dec_le p.row.0 hi) [
    | yes k ↦ rw (← lines-inside p lo hi h k) (upto-self (at lo 0))
    | no k ↦ (let d = apart (at (suc hi) 0) p (past-hi p (omega arith)) in rw (d.is, lines-behind d.by) (behind (at lo 0) d.by))
  ]

  pub lines-order : (p q : Position) → upto p q ≡ true → upto (after_delete_lines p lo hi) (after_delete_lines q lo hi) ≡ true
  lines-order p q h = elim (dec_le lo p.row.0) [
    | yes a ↦ elim (dec_le p.row.0 hi) [
      | yes b ↦ rw (← lines-inside p lo hi a b) (lines-least q (omega (arith, row_le p q h)))
      | no b ↦ both_behind (omega arith)
    ]
    | no a ↦ rw (← lines-above p lo hi (omega arith)) (elim (dec_le lo q.row.0) [
      | yes b ↦ upto-trans p (at lo 0) (after_delete_lines q lo hi) (is_upto p (at lo 0) (inl (omega arith))) (lines-least q b)
      | no b ↦ rw (← lines-above q lo hi (omega arith)) h
    ])
  ]
    where
      both_behind : hi < p.row.0 → upto (after_delete_lines p lo hi) (after_delete_lines q lo hi) ≡ true
      both_behind b =
          let d = apart (at (suc hi) 0) p (past-hi p b) in
          let e = apart (at (suc hi) 0) q (past-hi q (omega (arith, row_le p q h))) in
          rw (d.is, e.is, lines-behind d.by, lines-behind e.by) (order_moved (at (suc hi) 0) (at lo 0) d.by e.by (rw (d.is, e.is) at h))
