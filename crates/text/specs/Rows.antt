-- Rows, over any element type: all that is asked of an element is whether it is LF.
use Rattle.std.specs.Prelude.{Bool, cond, ◌&&◌, ◌||◌, List, [], ◌∷◌, ◌++◌, ℕ, ◌+◌, ◌-◌, min, eqb, leb, ltb, length, take, drop, get_or}
use Rattle.text.specs.declared.CharOffset.{CharOffset}
use Rattle.text.specs.declared.Position.{Position}
use Rattle.text.specs.declared.Span.{Span}
use Rattle.text.specs.declared.Place.{Place}

-- a row: what stands in it, and what ends it: its LF, or nothing
pub record Line (A : Type 0) : Type 0 where
  pub body : List A
  pub after : List A

module _ {A : Type 0} where
  abbrev pub line : List A → List A → Line A
  line b a = record { body = b; after = a }

  -- an element more at the front of the first row (a text has one)
  unfoldable pub onto : A → List (Line A) → List (Line A)
  onto x [] = line (x ∷ []) [] ∷ []
  onto x (r ∷ rs) = line (x ∷ r.body) r.after ∷ rs

  -- "Rows = LF count + 1": the text, split after each LF
  unfoldable pub lines : (A → Bool) → List A → List (Line A)
  lines lf [] = line [] [] ∷ []
  lines lf (x ∷ t) = cond (lf x) (line [] (x ∷ []) ∷ lines lf t) (onto x (lines lf t))

  -- the text of some rows: each brings its own LF, and none is made
  unfoldable pub unlines : List (Line A) → List A
  unlines [] = []
  unlines (r ∷ rs) = r.body ++ (r.after ++ unlines rs)

abbrev pub char_at : ℕ → CharOffset
char_at n = record { 0 = n }

abbrev pub at : ℕ → ℕ → Position
at r c = record { row = record { 0 = r }; col = record { 0 = c } }

-- "Positions order by row, then column": p is q, or before it
abbrev pub upto : Position → Position → Bool
upto p q = ltb p.row.0 q.row.0 || (eqb p.row.0 q.row.0 && leb p.col.0 q.col.0)

abbrev pub earlier : Position → Position → Position
earlier p q = cond (upto p q) p q

abbrev pub later : Position → Position → Position
later p q = cond (upto p q) q p

-- where a text ends that starts at p, if from its own start it ends at q
infixl 65 ◌⊕◌
unfoldable pub ◌⊕◌ : Position → Position → Position
p ⊕ q = cond (eqb q.row.0 0) (at p.row.0 (p.col.0 + q.col.0)) (at (p.row.0 + q.row.0) q.col.0)

module _ {A : Type 0} (lf : A → Bool) where
  unfoldable pub row_count : List A → ℕ
  row_count t = length (lines lf t)

  -- a text has a row, so this is the number of the last
  unfoldable pub last_row : List A → ℕ
  last_row t = row_count t - 1

  -- "a row's length excludes its LF"; 0 past the last row
  unfoldable pub row_len : List A → ℕ → ℕ
  row_len t r = length (get_or (lines lf t) r (line [] [])).body

  -- how many elements stand before a row; past the last row, all
  unfoldable pub row_start : List A → ℕ → ℕ
  row_start t r = length (unlines (take r (lines lf t)))

  -- where a row ends, before its LF
  abbrev pub row_end : List A → ℕ → ℕ
  row_end t r = row_start t r + row_len t r

  -- the row of this number, or the last: where it starts, and where it ends
  unfoldable pub span : List A → ℕ → Span
  span t n =
      let r = min n (last_row t) in
      record { row = record { 0 = r }; start = char_at (row_start t r); end = char_at (row_end t r) }

  -- "To clamp: row to the last row, then column to that row's length"
  unfoldable pub clamp : List A → Position → Position
  clamp t p = let r = min p.row.0 (last_row t) in at r (min p.col.0 (row_len t r))

  -- how many elements stand before a position, clamped
  unfoldable pub offset : List A → Position → ℕ
  offset t p = row_start t (clamp t p).row.0 + (clamp t p).col.0

  abbrev pub place : List A → Position → Place
  place t p = record { pos = clamp t p; at = char_at (offset t p) }

  -- the position where a text ends; the element at index i stands at the end of the first i
  unfoldable pub end_of : List A → Position
  end_of t = at (last_row t) (row_len t (last_row t))

  -- "a position that this doesn't change is in the text"
  unfoldable pub in_text : List A → Position → Bool
  in_text t p = eqb (clamp t p).row.0 p.row.0 && eqb (clamp t p).col.0 p.col.0

-- the elements x in place of those from offset a up to e
abbrev pub spliced : {A : Type 0} → List A → ℕ → ℕ → List A → List A
spliced t a e x = take a t ++ (x ++ drop e t)
