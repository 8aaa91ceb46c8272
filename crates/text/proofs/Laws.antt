-- Laws of rows, positions and offsets, over any element type.
use mathlib.Core.Path.{◌≡◌, refl, sym, ap, ◌∙◌}
use mathlib.Core.Bool.{Bool, true, false, cond}
use mathlib.Core.List.{List, [], ◌∷◌, ◌++◌}
use Prim.Native.Nat.{ℕ, zero, suc, ◌≤◌, ◌+◌, ◌-◌, ◌<◌, min}
use native.Mathlib.Omega.{arith}
use lib.ListN.{length, take, drop, get_or, replicate}
use Rattle.text.specs.Rows.{Line, line, onto, lines, unlines, row_count, row_len, row_start, last_row, clamp, offset, end_of, at, ◌⊕◌}
use native.Mathlib.Nat.{add-zero, zero-add, add_assoc, sub-zero, suc-sub-suc}
use borrow.Author.Tests.{ne_eqb}
use Rattle.text.specs.Theorems.{weld}
use Rattle.text.specs.declared.Position.{Position}

module _ {A : Type 0} (lf : A → Bool) where
  -- a text has a first row
  pub lines_cons : (t : List A) → (r : Line A) × (rs : List (Line A)) × (lines lf t ≡ r ∷ rs)
  unfolding lines onto
  lines_cons [] = (line [] [], [], refl)
  lines_cons (x ∷ t) = go (lf x) (lines lf t)
    where
      go : (b : Bool) (l : List (Line A)) → (r : Line A) × (rs : List (Line A)) × (cond b (line [] (x ∷ []) ∷ l) (onto x l) ≡ r ∷ rs)
      go true l = (line [] (x ∷ []), l, refl)
      go false [] = (line (x ∷ []) [], [], refl)
      go false (r ∷ rs) = (line (x ∷ r.body) r.after, rs, refl)

  -- an LF ends a row, and any other element goes before the first one
  module _ (x : A) (t : List A) where
    pub lines-lf : lf x ≡ true → lines lf (x ∷ t) ≡ line [] (x ∷ []) ∷ lines lf t
    unfolding lines
    lines-lf e = rw e

    pub lines_other : lf x ≡ false → lines lf (x ∷ t) ≡ line (x ∷ (lines_cons t).0.body) (lines_cons t).0.after ∷ (lines_cons t).1
    unfolding lines onto
    lines_other e = rw (e, (lines_cons t).2)

    pub count_lf_lem : lf x ≡ true → row_count lf (x ∷ t) ≡ suc (row_count lf t)
    unfolding row_count
    count_lf_lem e = ap length (lines-lf e)

    pub count_other : lf x ≡ false → row_count lf (x ∷ t) ≡ row_count lf t
    unfolding row_count
    count_other e = ap length (lines_other e) ∙ sym (ap length (lines_cons t).2)

    pub start-lf : (r : ℕ) → lf x ≡ true → row_start lf (x ∷ t) (suc r) ≡ suc (row_start lf t r)
    unfolding row_start unlines
    start-lf r e = rw (lines-lf e)

    pub start-other : (r : ℕ) → lf x ≡ false → row_start lf (x ∷ t) (suc r) ≡ suc (row_start lf t (suc r))
    unfolding row_start unlines
    start-other r e = rw (lines_other e, (lines_cons t).2)

    pub len_lf : lf x ≡ true → row_len lf (x ∷ t) 0 ≡ 0
    unfolding row_len
    len_lf e = rw (lines-lf e)

    pub len_lf_next : (r : ℕ) → lf x ≡ true → row_len lf (x ∷ t) (suc r) ≡ row_len lf t r
    unfolding row_len
    len_lf_next r e = rw (lines-lf e)

    pub len_other : lf x ≡ false → row_len lf (x ∷ t) 0 ≡ suc (row_len lf t 0)
    unfolding row_len
    len_other e = rw (lines_other e, (lines_cons t).2)

    pub len_other_next : (r : ℕ) → lf x ≡ false → row_len lf (x ∷ t) (suc r) ≡ row_len lf t (suc r)
    unfolding row_len
    len_other_next r e = rw (lines_other e, (lines_cons t).2)

  pub count_none : row_count lf [] ≡ 1
  unfolding row_count lines
  count_none = refl

  pub count_pos : (t : List A) → 1 ≤ row_count lf t
  unfolding row_count
  count_pos t = rw (lines_cons t).2 (omega arith)

  pub start_first : (t : List A) → row_start lf t 0 ≡ 0
  unfolding row_start unlines
  start_first t = refl

  pub start_none : (r : ℕ) → row_start lf [] r ≡ 0
  unfolding row_start lines unlines
  start_none zero = refl
  start_none (suc zero) = refl
  start_none (suc (suc r)) = refl

  pub len_none : (r : ℕ) → row_len lf [] r ≡ 0
  unfolding row_len lines
  len_none zero = refl
  len_none (suc r) = refl

  -- no element is lost, and none is made
  pub unlines-lines : (t : List A) → unlines (lines lf t) ≡ t
  unfolding lines onto unlines
  unlines-lines [] = refl
  unlines-lines (x ∷ t) = go (lf x) (lines lf t) (lines_cons t).2 (unlines-lines t)
    where
      go : (b : Bool) (l : List (Line A)) → l ≡ (lines_cons t).0 ∷ (lines_cons t).1 → unlines l ≡ t → unlines (cond b (line [] (x ∷ []) ∷ l) (onto x l)) ≡ x ∷ t
      go true l e h = ap (◌∷◌ x) h
      go false [] e h = cc
      go false (r ∷ rs) e h = ap (◌∷◌ x) h

-- the rows of two texts, one after the other
module _ {A : Type 0} where
  pub lines-append : (lf : A → Bool) (s u : List A) → lines lf (s ++ u) ≡ weld (lines lf s) (lines lf u)
  unfolding lines onto weld
  lines-append lf [] u = go (lines lf u) (lines_cons lf u).2
    where
      go : (l : List (Line A)) → l ≡ (lines_cons lf u).0 ∷ (lines_cons lf u).1 → l ≡ weld (line [] [] ∷ []) l
      go [] e = cc
      go (r ∷ rs) e = refl
  lines-append lf (x ∷ s) u = rw (lines-append lf s u, (lines_cons lf s).2) (go (lf x) (lines_cons lf s).0 (lines_cons lf s).1 (lines lf u))
    where
      go : (b : Bool) (r : Line A) (rs l : List (Line A))
          → cond b (line [] (x ∷ []) ∷ weld (r ∷ rs) l) (onto x (weld (r ∷ rs) l)) ≡ weld (cond b (line [] (x ∷ []) ∷ (r ∷ rs)) (onto x (r ∷ rs))) l
      go true r rs l = refl
      go false r [] [] = refl
      go false r [] (y ∷ l) = refl
      go false r (r' ∷ rs) l = refl

-- ==== places: the end of what stands before a place is the place

-- ---- adding positions

pub add_same : (a b c : ℕ) → at a b ⊕ at 0 c ≡ at a (b + c)
unfolding ◌⊕◌
add_same a b c = refl

pub add-next : (a b r c : ℕ) → 0 < r → at a b ⊕ at r c ≡ at (a + r) c
unfolding ◌⊕◌
add-next a b r c h = rw (ne_eqb r 0 (omega arith))

origin : (r c : ℕ) → at 0 0 ⊕ at r c ≡ at r c
origin zero c = add_same 0 0 c ∙ rw zero-add
origin (suc r) c = add-next 0 0 (suc r) c (omega arith) ∙ rw zero-add

pub add-origin : (p : Position) → at 0 0 ⊕ p ≡ p
add-origin p = origin p.row.0 p.col.0

pub add_nothing : (p : Position) → p ⊕ at 0 0 ≡ p
add_nothing p = add_same p.row.0 p.col.0 0 ∙ rw add-zero

-- from the start of a row on, rows are added
pub add-to_row : (a r c : ℕ) → at a 0 ⊕ at r c ≡ at (a + r) c
add-to_row a zero c = rw (add_same a 0 c, zero-add, add-zero)
add-to_row a (suc r) c = add-next a 0 (suc r) c (omega arith)

assoc : (a b r c s d : ℕ) → (at a b ⊕ at r c) ⊕ at s d ≡ at a b ⊕ (at r c ⊕ at s d)
assoc a b zero c zero d = rw (add_same a b c, add_same a (b + c) d, add_same 0 c d, add_same a b (c + d), add_assoc)
assoc a b (suc r) c zero d =
    rw (add-next a b (suc r) c (omega arith), add_same (a + suc r) c d, add_same (suc r) c d, add-next a b (suc r) (c + d) (omega arith))
assoc a b zero c (suc s) d =
    rw (add_same a b c, add-next a (b + c) (suc s) d (omega arith), add-next 0 c (suc s) d (omega arith), zero-add, add-next a b (suc s) d (omega arith))
assoc a b (suc r) c (suc s) d =
    rw (add-next a b (suc r) c (omega arith), add-next (a + suc r) c (suc s) d (omega arith), add-next (suc r) c (suc s) d (omega arith), add-next a b (suc r + suc s) d (omega arith), add_assoc)

-- where texts end adds up, in any grouping
pub add-positions : (p q r : Position) → (p ⊕ q) ⊕ r ≡ p ⊕ (q ⊕ r)
add-positions p q r = assoc p.row.0 p.col.0 q.row.0 q.col.0 r.row.0 r.col.0

-- one element more before a text: an LF, or another
after-lf : (l c : ℕ) → at 1 0 ⊕ at l c ≡ at (suc l) c
after-lf l c = add-to_row 1 l c ∙ ap (λ (r : ℕ). at r c) (omega arith)

after_first : (c : ℕ) → at 0 1 ⊕ at 0 c ≡ at 0 (suc c)
after_first c = let e : 1 + c ≡ suc c = omega arith in add_same 0 1 c ∙ rw e

after-later : (l c : ℕ) → at 0 1 ⊕ at (suc l) c ≡ at (suc l) c
after-later l c = add-next 0 1 (suc l) c (omega arith) ∙ rw zero-add

module _ {A : Type 0} (lf : A → Bool) where
  pub last_lf : (x : A) (t : List A) → lf x ≡ true → last_row lf (x ∷ t) ≡ suc (last_row lf t)
  unfolding last_row
  last_lf x t e = let k = count_lf_lem lf x t e in let h = count_pos lf t in omega arith

  pub last_other : (x : A) (t : List A) → lf x ≡ false → last_row lf (x ∷ t) ≡ last_row lf t
  unfolding last_row
  last_other x t e = ap (λ (n : ℕ). n - 1) (count_other lf x t e)

  pub last_none : last_row lf [] ≡ 0
  unfolding last_row
  last_none = rw (count_none lf)

  -- the end of a text, from its first element
  pub end_none : end_of lf [] ≡ at 0 0
  unfolding end_of
  end_none = rw (last_none, len_none lf)

  pub end-lf : (x : A) (t : List A) → lf x ≡ true → end_of lf (x ∷ t) ≡ at 1 0 ⊕ end_of lf t
  unfolding end_of
  end-lf x t e = rw (last_lf x t e, len_lf_next lf x t (last_row lf t) e, after-lf (last_row lf t) (row_len lf t (last_row lf t)))

  pub end-other : (x : A) (t : List A) → lf x ≡ false → end_of lf (x ∷ t) ≡ at 0 1 ⊕ end_of lf t
  unfolding end_of
  end-other x t e = rw (last_other x t e) (go (last_row lf t))
    where
      go : (l : ℕ) → at l (row_len lf (x ∷ t) l) ≡ at 0 1 ⊕ at l (row_len lf t l)
      go zero = rw (len_other lf x t e, after_first (row_len lf t 0))
      go (suc l) = rw (len_other_next lf x t l e, after-later l (row_len lf t (suc l)))

  -- the end of two texts, one after the other
  pub end-append : (s u : List A) → end_of lf (s ++ u) ≡ end_of lf s ⊕ end_of lf u
  end-append [] u = rw (end_none, add-origin (end_of lf u))
  end-append (x ∷ s) u = go (lf x) refl (end-append s u)
    where
      go : (b : Bool) → lf x ≡ b → end_of lf (s ++ u) ≡ end_of lf s ⊕ end_of lf u → end_of lf (x ∷ (s ++ u)) ≡ end_of lf (x ∷ s) ⊕ end_of lf u
      go true e ih = rw (end-lf x (s ++ u) e, end-lf x s e, ih, add-positions (at 1 0) (end_of lf s) (end_of lf u))
      go false e ih = rw (end-other x (s ++ u) e, end-other x s e, ih, add-positions (at 0 1) (end_of lf s) (end_of lf u))

  -- ---- the end of a text, as a place in a longer one

  abbrev Within : List A → List A → Type 0
  Within s u =
      (last_row lf s ≤ last_row lf (s ++ u)) × (row_len lf s (last_row lf s) ≤ row_len lf (s ++ u) (last_row lf s))
      × (row_start lf (s ++ u) (last_row lf s) + row_len lf s (last_row lf s) ≡ length s)

  within_text : (s u : List A) → Within s u
  within_text [] u = rw (last_none, len_none lf, start_first lf u) (omega arith)
  within_text (x ∷ s) u = go (lf x) refl (last_row lf s) refl (within_text s u)
    where
      go : (b : Bool) → lf x ≡ b → (l : ℕ) → last_row lf s ≡ l → Within s u → Within (x ∷ s) u
      go true e l k w =
          rw (last_lf x s e, last_lf x (s ++ u) e, len_lf_next lf x s (last_row lf s) e, len_lf_next lf x (s ++ u) (last_row lf s) e, start-lf lf x (s ++ u) (last_row lf s) e)
          (omega arith, w.1, omega arith)
      go false e zero k w =
          rw (last_other x s e, last_other x (s ++ u) e, k, len_other lf x s e, len_other lf x (s ++ u) e, start_first lf (x ∷ (s ++ u)))
          (let v = rw (k, start_first lf (s ++ u)) at w in (omega arith, omega arith, omega arith))
      go false e (suc l) k w =
          rw (last_other x s e, last_other x (s ++ u) e, k, len_other_next lf x s l e, len_other_next lf x (s ++ u) l e, start-other lf x (s ++ u) l e)
          (let v = rw k at w in (omega arith, v.1, omega arith))

  pub clamp-end : (s u : List A) → clamp lf (s ++ u) (end_of lf s) ≡ end_of lf s
  unfolding clamp end_of
  clamp-end s u =
      let w = within_text s u in
      let m : min (last_row lf s) (last_row lf (s ++ u)) ≡ last_row lf s = omega arith in
      let n : min (row_len lf s (last_row lf s)) (row_len lf (s ++ u) (last_row lf s)) ≡ row_len lf s (last_row lf s) = omega arith in
      rw (m, n)

  pub offset-end : (s u : List A) → offset lf (s ++ u) (end_of lf s) ≡ length s
  unfolding offset
  offset-end s u = rw (clamp-end s u) (unfold end_of in (within_text s u).2)

  -- ---- a place, as the end of what stands before it

  -- p in x ∷ t, when it is not before x, is q in t
  abbrev Moved : A → List A → Position → Position → Position → Type 0
  Moved x t unit p q = (clamp lf (x ∷ t) p ≡ unit ⊕ clamp lf t q) × (offset lf (x ∷ t) p ≡ suc (offset lf t q))

  moved_lf : (x : A) (t : List A) (r c : ℕ) → lf x ≡ true → Moved x t (at 1 0) (at (suc r) c) (at r c)
  unfolding clamp offset
  moved_lf x t r c e =
      let m : min (suc r) (suc (last_row lf t)) ≡ suc (min r (last_row lf t)) = omega arith in
      rw (last_lf x t e, m, len_lf_next lf x t (min r (last_row lf t)) e, start-lf lf x t (min r (last_row lf t)) e)
      (sym (after-lf (min r (last_row lf t)) (min c (row_len lf t (min r (last_row lf t))))), omega arith)

  moved_later : (x : A) (t : List A) (r c k : ℕ) → lf x ≡ false → min r (last_row lf t) ≡ suc k → Moved x t (at 0 1) (at r c) (at r c)
  unfolding clamp offset
  moved_later x t r c k e m =
      rw (last_other x t e, m, len_other_next lf x t k e, start-other lf x t k e) (sym (after-later k (min c (row_len lf t (suc k)))), omega arith)

  moved_first : (x : A) (t : List A) (r c : ℕ) → lf x ≡ false → min r (last_row lf t) ≡ 0 → Moved x t (at 0 1) (at r (suc c)) (at r c)
  unfolding clamp offset
  moved_first x t r c e m =
      let n : min (suc c) (suc (row_len lf t 0)) ≡ suc (min c (row_len lf t 0)) = omega arith in
      rw (last_other x t e, m, len_other lf x t e, n, start_first lf (x ∷ t), start_first lf t) (sym (after_first (min c (row_len lf t 0))), omega arith)

  -- p is before x
  abbrev Front : List A → Position → Type 0
  Front t p = (clamp lf t p ≡ at 0 0) × (offset lf t p ≡ 0)

  front-none : (r c : ℕ) → Front [] (at r c)
  unfolding clamp offset
  front-none r c =
      let m : min r 0 ≡ 0 = omega arith in
      let n : min c 0 ≡ 0 = omega arith in
      rw (last_none, m, len_none lf, n, start_none lf) (refl, omega arith)

  front-lf : (x : A) (t : List A) (c : ℕ) → lf x ≡ true → Front (x ∷ t) (at 0 c)
  unfolding clamp offset
  front-lf x t c e =
      let m : min 0 (last_row lf (x ∷ t)) ≡ 0 = omega arith in
      let n : min c 0 ≡ 0 = omega arith in
      rw (m, len_lf lf x t e, n, start_first lf (x ∷ t)) (refl, omega arith)

  front-first : (x : A) (t : List A) (r : ℕ) → lf x ≡ false → min r (last_row lf t) ≡ 0 → Front (x ∷ t) (at r 0)
  unfolding clamp offset
  front-first x t r e m =
      let n : min 0 (row_len lf (x ∷ t) 0) ≡ 0 = omega arith in
      rw (last_other x t e, m, n, start_first lf (x ∷ t)) (refl, omega arith)

  At : List A → Position → Type 0
  At t p = end_of lf (take (offset lf t p) t) ≡ clamp lf t p

  at_front : (t : List A) (p : Position) → Front t p → At t p
  unfolding At
  at_front t p f = rw (f.0, f.1, end_none)

  at_moved : (x : A) (t : List A) (unit p q : Position) → ((s : List A) → end_of lf (x ∷ s) ≡ unit ⊕ end_of lf s) → Moved x t unit p q → At t q → At (x ∷ t) p
  unfolding At
  at_moved x t unit p q u m h = rw (m.0, m.1, u (take (offset lf t q) t), h)

  end-at : (t : List A) (r c : ℕ) → At t (at r c)
  end-at [] r c = at_front [] (at r c) (front-none r c)
  end-at (x ∷ t) r c = go (lf x) refl r c (λ r c. end-at t r c)
    where
      there : (r c k : ℕ) → lf x ≡ false → min r (last_row lf t) ≡ k → ((r c : ℕ) → At t (at r c)) → At (x ∷ t) (at r c)
      there r zero zero e m ih = at_front (x ∷ t) (at r 0) (front-first x t r e m)
      there r (suc c) zero e m ih = at_moved x t (at 0 1) (at r (suc c)) (at r c) (λ s. end-other x s e) (moved_first x t r c e m) (ih r c)
      there r c (suc k) e m ih = at_moved x t (at 0 1) (at r c) (at r c) (λ s. end-other x s e) (moved_later x t r c k e m) (ih r c)

      go : (b : Bool) → lf x ≡ b → (r c : ℕ) → ((r c : ℕ) → At t (at r c)) → At (x ∷ t) (at r c)
      go true e zero c ih = at_front (x ∷ t) (at 0 c) (front-lf x t c e)
      go true e (suc r) c ih = at_moved x t (at 1 0) (at (suc r) c) (at r c) (λ s. end-lf x s e) (moved_lf x t r c e) (ih r c)
      go false e r c ih = there r c (min r (last_row lf t)) e refl ih

  pub end_take : (t : List A) (p : Position) → end_of lf (take (offset lf t p) t) ≡ clamp lf t p
  unfolding At
  end_take t p = end-at t p.row.0 p.col.0

  -- ---- corollaries

  pub start-le : (t : List A) (r : ℕ) → row_start lf t r ≤ length t
  start-le t zero = rw (start_first lf t) (omega arith)
  start-le [] (suc r) = rw (start_none lf) (omega arith)
  start-le (x ∷ t) (suc r) = go (lf x) refl (start-le t r) (start-le t (suc r))
    where
      go : (b : Bool) → lf x ≡ b → row_start lf t r ≤ length t → row_start lf t (suc r) ≤ length t → row_start lf (x ∷ t) (suc r) ≤ suc (length t)
      go true e h k = rw (start-lf lf x t r e) (omega arith)
      go false e h k = rw (start-other lf x t r e) (omega arith)

  -- only a row of the text starts before its end
  pub start-before : (t : List A) (r : ℕ) → row_start lf t r < length t → r ≤ last_row lf t
  start-before t zero h = omega arith
  start-before [] (suc r) h = absurd (omega (arith, start_none lf (suc r)))
  start-before (x ∷ t) (suc r) h = go (lf x) refl (start-before t r) (start-before t (suc r))
    where
      go : (b : Bool) → lf x ≡ b → (row_start lf t r < length t → r ≤ last_row lf t) → (row_start lf t (suc r) < length t → suc r ≤ last_row lf t) → suc r ≤ last_row lf (x ∷ t)
      go true e k l = omega (arith, last_lf x t e, k (omega (arith, start-lf lf x t r e)))
      go false e k l = omega (arith, last_other x t e, l (omega (arith, start-other lf x t r e)))

  -- a row that starts behind the first of two texts
  pub start-behind : (s u : List A) (r : ℕ) → last_row lf s < r → row_start lf (s ++ u) r ≡ length s + row_start lf u (r - last_row lf s)
  start-behind [] u r h = rw (last_none, sub-zero, zero-add)
  start-behind (x ∷ s) u zero h = absurd (omega arith)
  start-behind (x ∷ s) u (suc r) h = go (lf x) refl (start-behind s u r) (start-behind s u (suc r))
    where
      go : (b : Bool) → lf x ≡ b → (last_row lf s < r → row_start lf (s ++ u) r ≡ length s + row_start lf u (r - last_row lf s))
          → (last_row lf s < suc r → row_start lf (s ++ u) (suc r) ≡ length s + row_start lf u (suc r - last_row lf s))
          → row_start lf (x ∷ (s ++ u)) (suc r) ≡ suc (length s) + row_start lf u (suc r - last_row lf (x ∷ s))
      go true e k l = rw (start-lf lf x (s ++ u) r e, last_lf x s e, suc-sub-suc) (omega (arith, k (omega (arith, last_lf x s e))))
      go false e k l = rw (start-other lf x (s ++ u) r e, last_other x s e) (omega (arith, l (omega (arith, last_other x s e))))

  -- a row stands at its start: what follows there, up to an LF, is it
  pub row_at : (t : List A) (r : ℕ) → row_len lf (drop (row_start lf t r) t) 0 ≡ row_len lf t r
  row_at t zero = rw (start_first lf t)
  row_at [] (suc r) = rw (start_none lf, len_none lf 0, len_none lf (suc r))
  row_at (x ∷ t) (suc r) = go (lf x) refl (row_at t r) (row_at t (suc r))
    where
      go : (b : Bool) → lf x ≡ b → row_len lf (drop (row_start lf t r) t) 0 ≡ row_len lf t r → row_len lf (drop (row_start lf t (suc r)) t) 0 ≡ row_len lf t (suc r)
          → row_len lf (drop (row_start lf (x ∷ t) (suc r)) (x ∷ t)) 0 ≡ row_len lf (x ∷ t) (suc r)
      go true e h k = rw (start-lf lf x t r e, len_lf_next lf x t r e) h
      go false e h k = rw (start-other lf x t r e, len_other_next lf x t r e) k

  -- the rows from r on are those of what follows its start
  pub lines_from : (t : List A) (r : ℕ) → r ≤ last_row lf t → lines lf (drop (row_start lf t r) t) ≡ drop r (lines lf t)
  lines_from t zero h = rw (start_first lf t)
  lines_from [] (suc r) h = absurd (omega (arith, last_none))
  lines_from (x ∷ t) (suc r) h = go (lf x) refl (lines_from t r) (lines_from t (suc r))
    where
      go : (b : Bool) → lf x ≡ b → (r ≤ last_row lf t → lines lf (drop (row_start lf t r) t) ≡ drop r (lines lf t))
          → (suc r ≤ last_row lf t → lines lf (drop (row_start lf t (suc r)) t) ≡ drop (suc r) (lines lf t))
          → lines lf (drop (row_start lf (x ∷ t) (suc r)) (x ∷ t)) ≡ drop (suc r) (lines lf (x ∷ t))
      go true e k l = rw (start-lf lf x t r e, lines-lf lf x t e) (k (omega (arith, last_lf x t e)))
      go false e k l = rw (start-other lf x t r e, l (omega (arith, last_other x t e)), lines_other lf x t e, (lines_cons lf t).2)

  pub len_le : (t : List A) (r : ℕ) → row_len lf t r ≤ length t
  len_le [] r = rw (len_none lf) (omega arith)
  len_le (x ∷ t) r = go (lf x) refl r (λ r. len_le t r)
    where
      go : (b : Bool) → lf x ≡ b → (r : ℕ) → ((r : ℕ) → row_len lf t r ≤ length t) → row_len lf (x ∷ t) r ≤ suc (length t)
      go true e zero h = rw (len_lf lf x t e) (omega arith)
      go true e (suc r) h = rw (len_lf_next lf x t r e) (omega (arith, h r))
      go false e zero h = rw (len_other lf x t e) (omega (arith, h 0))
      go false e (suc r) h = rw (len_other_next lf x t r e) (omega (arith, h (suc r)))

  pub last_le : (t : List A) → last_row lf t ≤ length t
  last_le [] = rw last_none (omega arith)
  last_le (x ∷ t) = go (lf x) refl (last_le t)
    where
      go : (b : Bool) → lf x ≡ b → last_row lf t ≤ length t → last_row lf (x ∷ t) ≤ suc (length t)
      go true e h = rw (last_lf x t e) (omega arith)
      go false e h = rw (last_other x t e) (omega arith)

  -- the LFs of two texts, one after the other, and of one element n times
  pub last_append : (s u : List A) → last_row lf (s ++ u) ≡ last_row lf s + last_row lf u
  last_append [] u = omega (arith, last_none)
  last_append (x ∷ s) u = go (lf x) refl (last_append s u)
    where
      go : (b : Bool) → lf x ≡ b → last_row lf (s ++ u) ≡ last_row lf s + last_row lf u → last_row lf (x ∷ (s ++ u)) ≡ last_row lf (x ∷ s) + last_row lf u
      go true e ih = omega (arith, last_lf x (s ++ u) e, last_lf x s e)
      go false e ih = omega (arith, last_other x (s ++ u) e, last_other x s e)

  pub last_same : (x : A) (n : ℕ) → lf x ≡ true → last_row lf (replicate n x) ≡ n
  last_same x zero e = last_none
  last_same x (suc n) e = last_lf x (replicate n x) e ∙ ap suc (last_same x n e)

  pub last_others : (x : A) (n : ℕ) → lf x ≡ false → last_row lf (replicate n x) ≡ 0
  last_others x zero e = last_none
  last_others x (suc n) e = last_other x (replicate n x) e ∙ last_others x n e

  pub count_last : (t : List A) → row_count lf t ≡ last_row lf t + 1
  unfolding last_row
  count_last t = let h = count_pos lf t in omega arith

  -- the last row and a row's length, from the rows
  module _ (t : List A) (L : List (Line A)) (e : lines lf t ≡ L) where
    pub rows_last : last_row lf t + 1 ≡ length L
    unfolding row_count
    rows_last = sym (count_last t) ∙ ap length e

    pub rows-len : (r : ℕ) → row_len lf t r ≡ length (get_or L r (line [] [])).body
    unfolding row_len
    rows-len r = rw e
