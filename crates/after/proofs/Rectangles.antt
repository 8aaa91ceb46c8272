-- Where a position lands after an edit of blocks: ways out of the three functions.
use mathlib.Core.Path.{◌≡◌, refl, subst}
use mathlib.Core.Bool.{Bool, true, false, cond, ◌||◌, or-true}
use mathlib.Core.List.{List, ◌∷◌}
use Prim.Native.Nat.{ℕ, ◌+◌, ◌-◌, ◌≤◌, ◌<◌, min, max}
use native.Mathlib.Omega.{arith}
use borrow.Author.Tests.{le-leb, lt-leb, lt-ltb, le-ltb, leb-true, leb-false, ltb-true, ltb-false}
use lib.Dec.{T, ltb, leb}
use lib.ListN.{length, drop, get_or}
use Rattle.promise.proofs.Bools.{neither, T_true, T-left}
use Rattle.promise.proofs.Lists.{next}
use Rattle.text.specs.declared.Position.{Position}
use Rattle.text.specs.Rows.{at}
use Rattle.text.specs.Text.{all}
use Rattle.text.proofs.Alls.{all_drop}
use Rattle.edit.specs.Refusals.{small}
use Rattle.after.specs.After.{after_delete_block, after_insert_block, after_delete_block_chunks}

-- ---- a rectangle deleted

module _ (p s e : Position) (top bottom left right : ℕ) (t : top ≡ min s.row.0 e.row.0) (b : bottom ≡ max s.row.0 e.row.0)
    (l : left ≡ min s.col.0 e.col.0) (r : right ≡ max s.col.0 e.col.0) where
  pub block_outside : (ltb p.row.0 top || ltb bottom p.row.0 || ltb p.col.0 left) ≡ true → p ≡ after_delete_block p s e
  unfolding after_delete_block
  block_outside h = rw (← t, ← b, ← l, ← r) (go (ltb p.row.0 top || ltb bottom p.row.0) h)
    where
      go : (a : Bool) → (a || ltb p.col.0 left) ≡ true
          → p ≡ cond a p (cond (ltb right p.col.0) (at p.row.0 (p.col.0 - (right - left + 1))) (cond (leb left p.col.0) (at p.row.0 left) p))
      go true q = refl
      go false q = let k : p.col.0 < left = ltb-true _ _ q in rw (le-ltb right p.col.0 (omega arith), lt-leb left p.col.0 k)

  module _ (i : (ltb p.row.0 top || ltb bottom p.row.0 || ltb p.col.0 left) ≡ false) where
    rows_in : (ltb p.row.0 top || ltb bottom p.row.0) ≡ false
    rows_in = (neither (ltb p.row.0 top || ltb bottom p.row.0) (ltb p.col.0 left) i).0

    col_in : left ≤ p.col.0
    col_in = ltb-false _ _ (neither (ltb p.row.0 top || ltb bottom p.row.0) (ltb p.col.0 left) i).1

    pub block_right : right < p.col.0 → at p.row.0 (p.col.0 - (right - left + 1)) ≡ after_delete_block p s e
    unfolding after_delete_block
    block_right h = rw (← t, ← b, ← l, ← r, rows_in, lt-ltb right p.col.0 h)

    pub block_inside : p.col.0 ≤ right → at p.row.0 left ≡ after_delete_block p s e
    unfolding after_delete_block
    block_inside h = rw (← t, ← b, ← l, ← r, rows_in, le-ltb right p.col.0 h, le-leb left p.col.0 col_in)

-- ---- chunks put in or deleted: of three tests the code makes the first and the last before the one between

first_last : (a b c : Bool) → (a || c) ≡ true → (a || b || c) ≡ true
first_last true b c h = refl
first_last false b c h = rw h (or-true b)

between : (a b c : Bool) → b ≡ true → (a || b || c) ≡ true
between a b c h = rw (h, or-true a)

pub small_at : (xs : List ℕ) (k : ℕ) → k < length xs → T (all small xs) → get_or xs k 0 ≤ 1_000_000
unfolding all
small_at xs k h p =
    let q : T (all small (get_or xs k 0 ∷ drop (k + 1) xs)) = subst (λ (l : List ℕ). T (all small l)) (next xs k h) (all_drop small k xs p) in
    leb-true _ _ (T_true _ (T-left (small (get_or xs k 0)) (all small (drop (k + 1) xs)) q))

module _ (p q : Position) (xs : List ℕ) where
  pub put-outside : (ltb p.row.0 q.row.0 || ltb p.col.0 q.col.0) ≡ true → p ≡ after_insert_block p q xs
  unfolding after_insert_block
  put-outside h = rw (first_last (ltb p.row.0 q.row.0) (leb (q.row.0 + length xs) p.row.0) (ltb p.col.0 q.col.0) h)

  pub cut_outside : (ltb p.row.0 q.row.0 || leb p.col.0 q.col.0) ≡ true → p ≡ after_delete_block_chunks p q xs
  unfolding after_delete_block_chunks
  cut_outside h = rw (first_last (ltb p.row.0 q.row.0) (leb (q.row.0 + length xs) p.row.0) (leb p.col.0 q.col.0) h)

  -- not above q, and past its column by the test c
  module _ (c : Bool) (i : (ltb p.row.0 q.row.0 || c) ≡ false) where
    pub not-above : q.row.0 ≤ p.row.0
    not-above = ltb-false _ _ (neither (ltb p.row.0 q.row.0) c i).0

    below_all : length xs ≤ p.row.0 - q.row.0 → leb (q.row.0 + length xs) p.row.0 ≡ true
    below_all h = le-leb (q.row.0 + length xs) p.row.0 (omega (arith, not-above))

    within : p.row.0 - q.row.0 < length xs → (ltb p.row.0 q.row.0 || leb (q.row.0 + length xs) p.row.0 || c) ≡ false
    within h = rw ((neither (ltb p.row.0 q.row.0) c i).0, (neither (ltb p.row.0 q.row.0) c i).1, lt-leb (q.row.0 + length xs) p.row.0 (omega (arith, not-above)))

  module _ (i : (ltb p.row.0 q.row.0 || ltb p.col.0 q.col.0) ≡ false) where
    pub put-moved : p.row.0 - q.row.0 < length xs → at p.row.0 (p.col.0 + get_or xs (p.row.0 - q.row.0) 0) ≡ after_insert_block p q xs
    unfolding after_insert_block
    put-moved h = rw (within (ltb p.col.0 q.col.0) i h)

  module _ (i : (ltb p.row.0 q.row.0 || leb p.col.0 q.col.0) ≡ false) where
    pub past-col : q.col.0 < p.col.0
    past-col = leb-false _ _ (neither (ltb p.row.0 q.row.0) (leb p.col.0 q.col.0) i).1

    pub cut_below : length xs ≤ p.row.0 - q.row.0 → p ≡ after_delete_block_chunks p q xs
    unfolding after_delete_block_chunks
    cut_below h = rw (between (ltb p.row.0 q.row.0) (leb (q.row.0 + length xs) p.row.0) (leb p.col.0 q.col.0) (below_all (leb p.col.0 q.col.0) i h))

    pub cut_inside : p.row.0 - q.row.0 < length xs → p.col.0 - q.col.0 < get_or xs (p.row.0 - q.row.0) 0
        → at p.row.0 q.col.0 ≡ after_delete_block_chunks p q xs
    unfolding after_delete_block_chunks
    cut_inside h k = rw (within (leb p.col.0 q.col.0) i h, lt-leb (q.col.0 + get_or xs (p.row.0 - q.row.0) 0) p.col.0 (omega (arith, past-col)))
