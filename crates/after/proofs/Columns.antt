-- Block edits move positions in their rows: to which column, by row and column; in order; and a deleted rectangle as chunks of one width.
use mathlib.Core.Path.{◌≡◌, refl, sym, ◌∙◌, ap, subst}
use mathlib.Core.Bool.{Bool, true, false, cond, ◌||◌, or-true}
use mathlib.Core.Logic.{inl, inr, ⊎_elim}
use mathlib.Core.List.{List, [], ◌∷◌}
use Prim.Native.Nat.{ℕ, suc, ◌+◌, ◌-◌, ◌≤◌, ◌<◌, min, max}
use native.Mathlib.Decide.{dec_le}
use native.Mathlib.Omega.{arith}
use borrow.Author.Tests.{lt-ltb, le-ltb, le-leb, lt-leb, leb-true}
use lib.Dec.{ltb, leb}
use lib.ListN.{length, get_or, replicate, length-replicate, get_or-replicate}
use Rattle.text.specs.declared.Position.{Position}
use Rattle.text.specs.Rows.{at, upto}
use Rattle.text.proofs.Order.{upto_is, is_upto}
use Rattle.edit.specs.Edits.{corner, height, breadth}
use Rattle.after.specs.After.{after_insert_block, after_delete_block_chunks, after_delete_block}

-- column j of row m goes to column `col m j` of that row, and columns keep their order
pub record InRows (f : Position → Position) (col : ℕ → ℕ → ℕ) : Type 0 where
  pub is : (m j : ℕ) → f (at m j) ≡ at m (col m j)
  pub keeps : (m i j : ℕ) → i ≤ j → col m i ≤ col m j

pub rows-order : (f : Position → Position) (col : ℕ → ℕ → ℕ) → InRows f col → (p q : Position) → upto p q ≡ true → upto (f p) (f q) ≡ true
rows-order f col g p q h =
    rw (g.is p.row.0 p.col.0, g.is q.row.0 q.col.0)
    (is_upto (at p.row.0 (col p.row.0 p.col.0)) (at q.row.0 (col q.row.0 q.col.0))
    (⊎_elim (λ l. inl l) (λ e. inr (e.0, subst (λ (m : ℕ). col p.row.0 p.col.0 ≤ col m q.col.0) e.0 (g.keeps p.row.0 p.col.0 q.col.0 e.1))) (upto_is p q h)))

-- one of two columns of a row
one_of : (b : Bool) (m i j : ℕ) → cond b (at m i) (at m j) ≡ at m (cond b i j)
one_of true m i j = refl
one_of false m i j = refl

-- ---- chunks of widths `lens` in the rows from r on: F w j is where column j goes in a row of a chunk of width w

module _ (F : ℕ → ℕ → ℕ) where
  unfoldable pub column : ℕ → List ℕ → ℕ → ℕ → ℕ
  column r lens m j = cond (ltb m r || leb (r + length lens) m) j (F (get_or lens (m - r) 0) j)

  pub column_keeps : ((w i j : ℕ) → i ≤ j → F w i ≤ F w j) → (r : ℕ) (lens : List ℕ) (m i j : ℕ) → i ≤ j → column r lens m i ≤ column r lens m j
  unfolding column
  column_keeps f r lens m i j h = go (ltb m r || leb (r + length lens) m)
    where
      go : (b : Bool) → cond b i (F (get_or lens (m - r) 0) i) ≤ cond b j (F (get_or lens (m - r) 0) j)
      go true = h
      go false = f (get_or lens (m - r) 0) i j h

  module _ (r : ℕ) (lens : List ℕ) where
    pub column_above : (m j : ℕ) → m < r → column r lens m j ≡ j
    unfolding column
    column_above m j h = rw (lt-ltb m r h)

    pub column_under : (m j : ℕ) → r + length lens ≤ m → column r lens m j ≡ j
    unfolding column
    column_under m j h = rw (le-leb (r + length lens) m h, or-true (ltb m r))

    pub column_at : (k j : ℕ) → k < length lens → column r lens (r + k) j ≡ F (get_or lens k 0) j
    unfolding column
    column_at k j h = let e : r + k - r ≡ k = omega arith in rw (le-ltb (r + k) r (omega arith), lt-leb (r + length lens) (r + k) (omega arith), e)

  -- the first chunk, then the others
  pub column_then : (r n : ℕ) (ns : List ℕ) (m j : ℕ) → column (suc r) ns m (column r (n ∷ []) m j) ≡ column r (n ∷ ns) m j
  column_then r n ns m j = elim (dec_le r m) [
    | yes a ↦ elim (dec_le m r) [
      | yes b ↦ (let e : r + 0 ≡ m = omega arith in subst (λ (m : ℕ). column (suc r) ns m (column r (n ∷ []) m j) ≡ column r (n ∷ ns) m j) e here)
      | no b ↦ (let e : suc r + (m - suc r) ≡ m = omega arith in subst (λ (m : ℕ). column (suc r) ns m (column r (n ∷ []) m j) ≡ column r (n ∷ ns) m j) e (below (m - suc r)))
    ]
    | no a ↦ rw (column_above r (n ∷ []) m j (omega arith), column_above r (n ∷ ns) m j (omega arith)) (column_above (suc r) ns m j (omega arith))
  ]
    where
      here : column (suc r) ns (r + 0) (column r (n ∷ []) (r + 0) j) ≡ column r (n ∷ ns) (r + 0) j
      here = column_above (suc r) ns (r + 0) (column r (n ∷ []) (r + 0) j) (omega arith) ∙ column_at r (n ∷ []) 0 j (omega arith) ∙ sym (column_at r (n ∷ ns) 0 j (omega arith))

      below : (k : ℕ) → column (suc r) ns (suc r + k) (column r (n ∷ []) (suc r + k) j) ≡ column r (n ∷ ns) (suc r + k) j
      below k =
          rw (column_under r (n ∷ []) (suc r + k) j (omega arith)) (elim (dec_le (length ns) k) [
            | yes l ↦ column_under (suc r) ns (suc r + k) j (omega arith) ∙ sym (column_under r (n ∷ ns) (suc r + k) j (omega arith))
            | no l ↦ column_at (suc r) ns k j (omega arith) ∙ sym (subst (λ (m : ℕ). column r (n ∷ ns) m j ≡ F (get_or ns k 0) j) (omega arith) (column_at r (n ∷ ns) (suc k) j (omega arith)))
          ])

-- ---- a chunk that comes in at column c

unfoldable pub put_in : ℕ → ℕ → ℕ → ℕ
put_in c w j = cond (ltb j c) j (j + w)

pub put-left : (c w j : ℕ) → j < c → put_in c w j ≡ j
unfolding put_in
put-left c w j h = rw (lt-ltb j c h)

pub put_right : (c w j : ℕ) → c ≤ j → put_in c w j ≡ j + w
unfolding put_in
put_right c w j h = rw (le-ltb j c h)

put_keeps : (c w i j : ℕ) → i ≤ j → put_in c w i ≤ put_in c w j
put_keeps c w i j h = elim (dec_le c i) [
  | yes a ↦ rw (put_right c w i a, put_right c w j (omega arith)) (omega arith)
  | no a ↦ rw (put-left c w i (omega arith)) (elim (dec_le c j) [ yes b ↦ rw (put_right c w j b) (omega arith) | no b ↦ rw (put-left c w j (omega arith)) h ])
]

-- ---- a chunk that goes

unfoldable pub cut_out : ℕ → ℕ → ℕ → ℕ
cut_out c w j = cond (leb j c) j (cond (leb (c + w) j) (j - w) c)

pub cut_left : (c w j : ℕ) → j ≤ c → cut_out c w j ≡ j
unfolding cut_out
cut_left c w j h = rw (le-leb j c h)

pub cut_within : (c w j : ℕ) → c ≤ j → j < c + w → cut_out c w j ≡ c
unfolding cut_out
cut_within c w j a b = elim (dec_le j c) [ yes l ↦ rw (le-leb j c l) (omega arith) | no l ↦ rw (lt-leb j c (omega arith), lt-leb (c + w) j b) ]

pub cut_right : (c w j : ℕ) → c + w ≤ j → cut_out c w j ≡ j - w
unfolding cut_out
cut_right c w j a = elim (dec_le j c) [ yes l ↦ rw (le-leb j c l) (omega arith) | no l ↦ rw (lt-leb j c (omega arith), le-leb (c + w) j a) ]

cut_keeps : (c w i j : ℕ) → i ≤ j → cut_out c w i ≤ cut_out c w j
cut_keeps c w i j h = elim (dec_le j c) [
  | yes a ↦ rw (cut_left c w i (omega arith), cut_left c w j a) h
  | no a ↦ elim (dec_le (c + w) j) [
    | yes b ↦ rw (cut_right c w j b) (elim (dec_le (c + w) i) [
      | yes d ↦ rw (cut_right c w i d) (omega arith)
      | no d ↦ elim (dec_le c i) [ yes e ↦ rw (cut_within c w i e (omega arith)) (omega arith) | no e ↦ rw (cut_left c w i (omega arith)) (omega arith) ]
    ])
    | no b ↦ rw (cut_within c w j (omega arith) (omega arith)) (elim (dec_le c i) [ yes e ↦ rw (cut_within c w i e (omega arith)) (omega arith) | no e ↦ rw (cut_left c w i (omega arith)) (omega arith) ])
  ]
]

-- ---- the two shifts

beside-or : (b c : Bool) (i j : ℕ) → cond (b || c) i j ≡ cond b i (cond c i j)
beside-or true c i j = refl
beside-or false c i j = refl

module _ (q : Position) (lens : List ℕ) where
  abbrev beside : ℕ → Bool
  beside m = ltb m q.row.0 || leb (q.row.0 + length lens) m

  abbrev width : ℕ → ℕ
  width m = get_or lens (m - q.row.0) 0

  pub put-in_rows : InRows (λ p. after_insert_block p q lens) (column (put_in q.col.0) q.row.0 lens)
  unfolding after_insert_block column put_in
  put-in_rows = record {
    is = λ m j. one_of (beside m || ltb j q.col.0) m j (j + width m) ∙ ap (at m) (beside-or (beside m) (ltb j q.col.0) j (j + width m));
    keeps = column_keeps (put_in q.col.0) (put_keeps q.col.0) q.row.0 lens;
  }

  pub cut_in_rows : InRows (λ p. after_delete_block_chunks p q lens) (column (cut_out q.col.0) q.row.0 lens)
  unfolding after_delete_block_chunks column cut_out
  cut_in_rows = record {
    is = λ m j.
        let k : ℕ = cond (leb (q.col.0 + width m) j) (j - width m) q.col.0 in
        ap (cond (beside m || leb j q.col.0) (at m j)) (one_of (leb (q.col.0 + width m) j) m (j - width m) q.col.0)
        ∙ one_of (beside m || leb j q.col.0) m j k ∙ ap (at m) (beside-or (beside m) (leb j q.col.0) j k);
    keeps = column_keeps (cut_out q.col.0) (cut_keeps q.col.0) q.row.0 lens;
  }

-- ---- a rectangle is chunks all of one width

module _ (s e : Position) where
  abbrev left : ℕ
  left = min s.col.0 e.col.0

  abbrev right : ℕ
  right = max s.col.0 e.col.0

  abbrev widths : List ℕ
  widths = replicate (height s e) (breadth s e)

  tall : length widths ≡ height s e
  tall = length-replicate (height s e) (breadth s e)

  -- columns, in its rows
  same_col : (j : ℕ) → cond (ltb right j) (j - (right - left + 1)) (cond (leb left j) left j) ≡ cut_out left (breadth s e) j
  same_col j = elim (dec_le j left) [
    | yes a ↦ rw (le-ltb right j (omega arith), cut_left left (breadth s e) j a) (edge (leb left j) refl a)
    | no a ↦ elim (dec_le j right) [
      | yes b ↦ rw (le-ltb right j b, le-leb left j (omega arith), cut_within left (breadth s e) j (omega arith) (omega arith))
      | no b ↦ rw (lt-ltb right j (omega arith), cut_right left (breadth s e) j (omega arith)) (omega arith)
    ]
  ]
    where
      edge : (c : Bool) → leb left j ≡ c → j ≤ left → cond c left j ≡ j
      edge true q a = omega (arith, leb-true left j q)
      edge false q a = refl

  abbrev top : ℕ
  top = min s.row.0 e.row.0

  abbrev bottom : ℕ
  bottom = max s.row.0 e.row.0

  block_at : (m j : ℕ) → after_delete_block (at m j) s e ≡ at m (cond (ltb m top || ltb bottom m) j (cond (ltb right j) (j - (right - left + 1)) (cond (leb left j) left j)))
  unfolding after_delete_block
  block_at m j =
      ap (λ (p : Position). cond (ltb m top || ltb bottom m) (at m j) (cond (ltb right j) (at m (j - (right - left + 1))) p)) (one_of (leb left j) m left j)
      ∙ ap (cond (ltb m top || ltb bottom m) (at m j)) (one_of (ltb right j) m (j - (right - left + 1)) (cond (leb left j) left j))
      ∙ one_of (ltb m top || ltb bottom m) m j (cond (ltb right j) (j - (right - left + 1)) (cond (leb left j) left j))

  inside : (m j : ℕ) → top ≤ m → m ≤ bottom → column (cut_out left) top widths m j ≡ cut_out left (breadth s e) j
  inside m j a b =
      let n : top + (m - top) ≡ m = omega arith in
      subst (λ (m : ℕ). column (cut_out left) top widths m j ≡ cut_out left (breadth s e) j) n
      (column_at (cut_out left) top widths (m - top) j (omega (arith, tall)) ∙ ap (λ (w : ℕ). cut_out left w j) (get_or-replicate (height s e) (m - top) (breadth s e) 0 (omega arith)))

  same_cols : (m j : ℕ) → cond (ltb m top || ltb bottom m) j (cond (ltb right j) (j - (right - left + 1)) (cond (leb left j) left j)) ≡ column (cut_out left) top widths m j
  same_cols m j = elim (dec_le top m) [
    | yes a ↦ elim (dec_le m bottom) [
      | yes b ↦ rw (le-ltb m top a, le-ltb bottom m b) (same_col j ∙ sym (inside m j a b))
      | no b ↦ rw (lt-ltb bottom m (omega arith), or-true (ltb m top)) (sym (column_under (cut_out left) top widths m j (omega (arith, tall))))
    ]
    | no a ↦ rw (lt-ltb m top (omega arith)) (sym (column_above (cut_out left) top widths m j (omega arith)))
  ]

  pub block_chunks : (p : Position) → after_delete_block p s e ≡ after_delete_block_chunks p (corner s e) widths
  block_chunks p = block_at p.row.0 p.col.0 ∙ ap (at p.row.0) (same_cols p.row.0 p.col.0) ∙ sym ((cut_in_rows (corner s e) widths).is p.row.0 p.col.0)
