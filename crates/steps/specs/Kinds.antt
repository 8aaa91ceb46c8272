-- The steps of each kind of edit. Document 01's sentence stands above each.
use mathlib.Core.Bool.{Bool}
use mathlib.Core.List.{List, [], ◌∷◌, ◌++◌}
use Prim.Native.Nat.{ℕ, suc, ◌+◌, ◌-◌, min, max}
use lib.ListN.{length, take, drop, get_or, replicate}
use Rattle.text.specs.declared.Position.{Position}
use Rattle.text.specs.Rows.{Line, line, lines, last_row, row_start, offset, earlier, spliced}
use Rattle.edit.specs.declared.MotionKind.{MotionKind}
use Rattle.edit.specs.declared.MotionKind.TheVariants.{Char, Line as Lines, Block}
use Rattle.edit.specs.declared.Edit.{Edit}
use Rattle.edit.specs.declared.Edit.TheVariants.{InsertChar, InsertStr, DeleteRange, JoinLines, SplitLines, Replace, InsertBlock, DeleteBlockChunks}
use Rattle.edit.specs.Edits.{Made, gap, unspace, join_next, pieces, cut_from, cut_to, line_from, line_to, corner, height, breadth}
use Rattle.steps.specs.Steps.{Step, step, ahead}

module _ {A : Type 0} (lf : A → Bool) where
  -- InsertStr, InsertChar: "clamp, splice"
  abbrev pub insert_steps : List A → Position → List A → List (Step A)
  insert_steps t p x = step (offset lf t p) 0 0 0 x ∷ []

  -- DeleteRange Char: "order the ends, clamp each, cut if start is before end"
  abbrev pub char_steps : List A → Position → Position → List (Step A)
  char_steps t p q = step (cut_from lf t p q) (cut_to lf t p q - cut_from lf t p q) 0 0 [] ∷ []

  -- DeleteRange Line: "order, clamp both rows to lo..hi. If rows follow, cut from lo's start to the start of hi+1 .. If hi is last and lo > 0,
  -- also cut the LF ending lo-1 .. Otherwise cut all"
  abbrev pub line_steps : List A → Position → Position → List (Step A)
  line_steps t p q =
      let lo = min (min p.row.0 q.row.0) (last_row lf t) in
      let hi = min (max p.row.0 q.row.0) (last_row lf t) in
      step (offset lf t (line_from lf t lo hi)) (line_to lf t hi - offset lf t (line_from lf t lo hi)) 0 0 [] ∷ []

  -- Replace: "cut as Char, clamp the start *after* the cut, insert there": the insertion stands at the cut's end or behind it
  abbrev pub replace_steps : List A → Position → Position → List A → List (Step A)
  replace_steps t p q x =
      let u = spliced t (cut_from lf t p q) (cut_to lf t p q) [] in
      step (cut_from lf t p q) (cut_to lf t p q - cut_from lf t p q) 0 0 [] ∷ step (offset lf u (earlier p q) - cut_from lf t p q) 0 0 0 x ∷ []

module _ {A : Type 0} where
  -- JoinLines: "Each join removes the LF and adds a space only if asked and both sides are non-empty"; k elements stand before the LF that
  -- ends the row so far, r
  unfoldable pub join_steps : A → Bool → Line A → ℕ → List (Line A) → List (Step A)
  join_steps space b r k [] = []
  join_steps space b r k (s ∷ ss) = step k 1 (length (gap space b r.body s.body)) 1 [] ∷ join_steps space b (join_next space b r s) (length s.body) ss

  -- InsertBlock: "each existing row is padded with spaces to the column if shorter, then its chunk goes in; absent rows are skipped"
  unfoldable pub put_steps : ℕ → List (List A) → List (Line A) → List (Step A)
  put_steps c [] rs = []
  put_steps c (k ∷ ks) [] = []
  put_steps c (k ∷ ks) (r ∷ rs) = step (min c (length r.body)) 0 (c - length r.body) 0 k ∷ ahead (length (drop c r.body ++ r.after)) (put_steps c ks rs)

  -- DeleteBlockChunks: "cut from column minus pad (not below 0) to column plus width, each within the row .. the returned chunk lacks the part
  -- before the column"
  unfoldable pub cut_steps : ℕ → List ℕ → List ℕ → List (Line A) → List (Step A)
  cut_steps c [] ds rs = []
  cut_steps c (w ∷ ws) ds [] = []
  cut_steps c (w ∷ ws) ds (r ∷ rs) =
      let n = length r.body in
      let a = min (c - get_or ds 0 0) n in
      step a (min (c + w) n - a) 0 (min c n - a) [] ∷ ahead (length (drop (c + w) r.body ++ r.after)) (cut_steps c ws (drop 1 ds) rs)

module _ {A : Type 0} (lf : A → Bool) where
  abbrev pub block_steps : List A → Position → List A → List ℕ → List (Step A)
  block_steps t p x ns = ahead (row_start lf t p.row.0) (put_steps p.col.0 (pieces ns x) (drop p.row.0 (lines lf t)))

  abbrev pub chunk_steps : List A → Position → List ℕ → List ℕ → List (Step A)
  chunk_steps t p ws ds = ahead (row_start lf t p.row.0) (cut_steps p.col.0 ws ds (drop p.row.0 (lines lf t)))

  -- "row clamped; count 0 acts as 1; stops at the last row"
  abbrev pub joined_steps : A → List A → ℕ → ℕ → Bool → List (Step A)
  joined_steps space t row count b =
      let r = min row (last_row lf t) in
      let x = get_or (lines lf t) r (line [] []) in
      ahead (row_start lf t r) (join_steps space b x (length x.body) (take (max count 1) (drop (suc r) (lines lf t))))

module _ {A : Type 0} where
  -- where the first step stands; d if there is none
  unfoldable pub first_at : ℕ → List (Step A) → ℕ
  first_at d [] = d
  first_at d (s ∷ ss) = s.keep

  -- the same steps, after the first n elements
  unfoldable pub behind : ℕ → List (Step A) → List (Step A)
  behind n [] = []
  behind n (s ∷ ss) = step (s.keep - n) s.gone s.pad s.lost s.come ∷ ss

module _ {A : Type 0} (lf sp : A → Bool) (made : Made A) where
  -- SplitLines: "columns taken last first. Flag yes: a space at the column is removed if there .. then LF goes in. Flag no: the column is clamped
  -- to the row's length at that step": the row for a column goes up to the first break behind it
  unfoldable pub split_steps : List A → List ℕ → List ℕ → List (Step A)
  split_steps b [] fs = []
  split_steps b (c ∷ cs) fs =
      let R = split_steps b cs (drop 1 fs) in
      let z = drop c (take (first_at (length b) R) b) in
      let a = min c (first_at (length b) R) in
      let g = length z - length (unspace lf sp made (get_or fs 0 0) z) in
      step a g 1 g [] ∷ behind (a + g) R

  abbrev pub split_at : List A → ℕ → List ℕ → List ℕ → List (Step A)
  split_at t row cs fs = let r = min row (last_row lf t) in ahead (row_start lf t r) (split_steps (get_or (lines lf t) r (line [] [])).body cs fs)

  -- DeleteRange Block: "order ends; columns left..right inclusive, each row cut within its length; absent rows give an empty chunk": chunks all of one
  -- width, with no pads
  unfoldable pub range_steps : Position → Position → MotionKind → List A → List (Step A)
  range_steps p q Char t = char_steps lf t p q
  range_steps p q Lines t = line_steps lf t p q
  range_steps p q Block t = chunk_steps lf t (corner p q) (replicate (height p q) (breadth p q)) []

  -- the steps of every edit
  unfoldable pub steps_by : Edit → List A → List ℕ → List ℕ → List A → List (Step A)
  steps_by (InsertChar p) x f s t = insert_steps lf t p x
  steps_by (InsertStr p) x f s t = insert_steps lf t p x
  steps_by (DeleteRange p q k) x f s t = range_steps p q k t
  steps_by (JoinLines r n b) x f s t = joined_steps lf made.space t r.0 n b
  steps_by (SplitLines r) x f s t = split_at t r.0 f s
  steps_by (Replace p q) x f s t = replace_steps lf t p q x
  steps_by (InsertBlock p) x f s t = block_steps lf t p x f
  steps_by (DeleteBlockChunks p) x f s t = chunk_steps lf t p f s

-- what an edit makes itself, if anything: a block pads, a join puts a space between, a split breaks
unfoldable pub makes : {A : Type 0} → Made A → Edit → A
makes made (InsertChar p) = made.pad
makes made (InsertStr p) = made.pad
makes made (DeleteRange p q k) = made.pad
makes made (JoinLines r n b) = made.space
makes made (SplitLines r) = made.break
makes made (Replace p q) = made.pad
makes made (InsertBlock p) = made.pad
makes made (DeleteBlockChunks p) = made.pad
