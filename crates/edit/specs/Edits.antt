-- What each edit makes of a text: the new text, the inverse and the cursor. Document 01's sentence stands above each.
-- The elements may be of any type. What is asked of one is whether it is LF and whether it is a space; and an edit makes some
-- itself: padding, the space of a join, the break of a split.
use Rattle.std.specs.Prelude.{Bool, true, false, cond, not, ◌||◌, ℕ, zero, suc, ◌+◌, ◌-◌, min, max, ltb, eqb, length, take, drop, get_or, replicate}
use mathlib.Core.List.{List, [], ◌∷◌, ◌++◌, map, flatten}
use Rattle.std.proofs.Math.Seq.{slice}
use Rattle.text.specs.declared.Position.{Position}
use Rattle.text.specs.declared.Row.{Row}
use Rattle.text.specs.Rows.{Line, line, lines, unlines, at, earlier, later, last_row, row_len, row_start, clamp, offset, end_of, spliced}
use Rattle.edit.specs.declared.MotionKind.{MotionKind}
use Rattle.edit.specs.declared.MotionKind.TheVariants.{Char, Line as Lines, Block}
use Rattle.edit.specs.declared.Edit.{Edit}
use Rattle.edit.specs.declared.Edit.TheVariants.{InsertChar, InsertStr, DeleteRange, JoinLines, SplitLines, Replace, InsertBlock, DeleteBlockChunks}

-- an edit with its payload and its two lists
pub record Whole (A : Type 0) : Type 0 where
  pub edit : Edit
  pub payload : List A
  pub first : List ℕ
  pub second : List ℕ

-- the elements that an edit makes itself
pub record Made (A : Type 0) : Type 0 where
  pub pad : A
  pub space : A
  pub break : A

pub record Edited (A : Type 0) : Type 0 where
  pub text : List A
  pub inverse : Whole A
  pub cursor : Position

module _ {A : Type 0} where
  abbrev pub whole : Edit → List A → List ℕ → List ℕ → Whole A
  whole e x f s = record { edit = e; payload = x; first = f; second = s }

  abbrev pub edited : List A → Whole A → Position → Edited A
  edited t i c = record { text = t; inverse = i; cursor = c }

abbrev pub row_at : ℕ → Row
row_at r = record { 0 = r }

-- ---- on the flat text

module _ {A : Type 0} (lf : A → Bool) where
  -- "clamp, splice. Inverse: Char delete from the clamped place to the end of the inserted text; cursor there."
  unfoldable pub inserted : List A → Position → List A → Edited A
  inserted t p x =
      let o = offset lf t p in
      let e = end_of lf (take o t ++ x) in
      edited (spliced t o o x) (whole (DeleteRange (clamp lf t p) e Char) [] [] []) e

  -- the offsets that a cut goes from and up to: "cut if start is before end", so ends that clamping put out of order cut nothing
  abbrev pub cut_from : List A → Position → Position → ℕ
  cut_from t p q = offset lf t (earlier p q)

  abbrev pub cut_to : List A → Position → Position → ℕ
  cut_to t p q = max (cut_from t p q) (offset lf t (later p q))

  -- "order the ends, clamp each, cut if start is before end. Inverse: InsertStr of the cut text at the *unclamped* ordered
  -- start. Cursor: that start, clamped in the new text."
  unfoldable pub chars_deleted : List A → Position → Position → Edited A
  chars_deleted t p q =
      let u = spliced t (cut_from t p q) (cut_to t p q) [] in
      edited u (whole (InsertStr (earlier p q)) (slice (cut_from t p q) (cut_to t p q) t) [] []) (clamp lf u (earlier p q))

  -- "If rows follow, cut from lo's start to the start of hi+1, inverse at (lo,0). If hi is last and lo > 0, also cut the LF
  -- ending lo-1, inverse at that row's end. Otherwise cut all, inverse at (0,0)": where the cut begins, and where it ends
  unfoldable pub line_from : List A → ℕ → ℕ → Position
  line_from t lo hi = cond (ltb hi (last_row lf t)) (at lo 0) (cond (ltb 0 lo) (at (lo - 1) (row_len lf t (lo - 1))) (at 0 0))

  unfoldable pub line_to : List A → ℕ → ℕ
  line_to t hi = cond (ltb hi (last_row lf t)) (row_start lf t (suc hi)) (length t)

  -- "order, clamp both rows to lo..hi. ... Cursor: lo or the new last row, the smaller; column 0."
  unfoldable pub lines_deleted : List A → Position → Position → Edited A
  lines_deleted t p q =
      let lo = min (min p.row.0 q.row.0) (last_row lf t) in
      let hi = min (max p.row.0 q.row.0) (last_row lf t) in
      let s = line_from t lo hi in
      let u = spliced t (offset lf t s) (line_to t hi) [] in
      edited u (whole (InsertStr s) (slice (offset lf t s) (line_to t hi) t) [] []) (at (min lo (last_row lf u)) 0)

  -- "cut as Char, clamp the start *after* the cut, insert there. Inverse: Replace from that place to the new end with the cut
  -- text. Cursor: new end."
  unfoldable pub replaced : List A → Position → Position → List A → Edited A
  replaced t p q x =
      let u = spliced t (cut_from t p q) (cut_to t p q) [] in
      let i = inserted u (earlier p q) x in
      edited i.text (whole (Replace (clamp lf u (earlier p q)) i.cursor) (slice (cut_from t p q) (cut_to t p q) t) [] []) i.cursor

-- ---- on the rows

module _ {A : Type 0} where
  -- the rows of a text with those from r on changed
  abbrev pub from_row : List (Line A) → ℕ → List (Line A) → List A
  from_row rows r new = unlines (take r rows ++ new)

  -- "Each join removes the LF and adds a space only if asked and both sides are non-empty": what comes between
  unfoldable pub gap : A → Bool → List A → List A → List A
  gap space true (x ∷ r) (y ∷ s) = space ∷ []
  gap space true (x ∷ r) [] = []
  gap space true [] s = []
  gap space false r s = []

  -- a row with the next one joined to it
  abbrev pub join_next : A → Bool → Line A → Line A → Line A
  join_next space b r s = line (r.body ++ (gap space b r.body s.body ++ s.body)) s.after

  unfoldable pub join_row : A → Bool → Line A → List (Line A) → Line A
  join_row space b r [] = r
  join_row space b r (s ∷ ss) = join_row space b (join_next space b r s) ss

  -- "the length before each join"
  unfoldable pub join_cols : A → Bool → Line A → List (Line A) → List ℕ
  join_cols space b r [] = []
  join_cols space b r (s ∷ ss) = length r.body ∷ join_cols space b (join_next space b r s) ss

  -- "whether that join added a space", as 0 or 1
  unfoldable pub join_flags : A → Bool → Line A → List (Line A) → List ℕ
  join_flags space b r [] = []
  join_flags space b r (s ∷ ss) = length (gap space b r.body s.body) ∷ join_flags space b (join_next space b r s) ss

  -- "each existing row is padded with spaces to the column if shorter, then its chunk goes in"
  unfoldable pub put : A → ℕ → List A → List A → List A
  put pad c k r = let s = r ++ replicate (c - length r) pad in take c s ++ (k ++ drop c s)

  unfoldable pub put_all : A → ℕ → List (List A) → List (Line A) → List (Line A)
  put_all pad c [] rs = rs
  put_all pad c (k ∷ ks) [] = []
  put_all pad c (k ∷ ks) (r ∷ rs) = line (put pad c k r.body) r.after ∷ put_all pad c ks rs

  -- how many spaces each row took; "absent rows are skipped, their width recorded"
  unfoldable pub pads_of : ℕ → List (List A) → List (Line A) → List ℕ
  pads_of c [] rs = []
  pads_of c (k ∷ ks) [] = 0 ∷ pads_of c ks []
  pads_of c (k ∷ ks) (r ∷ rs) = (c - length r.body) ∷ pads_of c ks rs

  -- a payload cut into chunks of these lengths
  unfoldable pub pieces : List ℕ → List A → List (List A)
  pieces [] x = []
  pieces (n ∷ ns) x = take n x ∷ pieces ns (drop n x)

  -- "cut from column minus pad (not below 0) to column plus width, each within the row"; "A missing pad is 0"
  unfoldable pub cut_all : ℕ → List ℕ → List ℕ → List (Line A) → List (Line A)
  cut_all c [] ds rs = rs
  cut_all c (w ∷ ws) ds [] = []
  cut_all c (w ∷ ws) ds (r ∷ rs) = line (take (c - get_or ds 0 0) r.body ++ drop (c + w) r.body) r.after ∷ cut_all c ws (drop 1 ds) rs

  -- "the returned chunk lacks the part before the column; an absent row's is empty"
  unfoldable pub chunks_of : ℕ → List ℕ → List (Line A) → List (List A)
  chunks_of c [] rs = []
  chunks_of c (w ∷ ws) [] = [] ∷ chunks_of c ws []
  chunks_of c (w ∷ ws) (r ∷ rs) = take w (drop c r.body) ∷ chunks_of c ws rs

-- "if any flag, surplus ones included, is yes"
unfoldable pub any_flag : List ℕ → Bool
any_flag [] = false
any_flag (f ∷ fs) = not (eqb f 0) || any_flag fs

-- DeleteRange Block: "order ends; columns left..right inclusive, each row cut within its length; absent rows give an empty
-- chunk. Inverse: InsertBlock at (start row, left). Cursor: that, clamped.": chunks all of one width, with no pads
abbrev pub corner : Position → Position → Position
corner p q = at (min p.row.0 q.row.0) (min p.col.0 q.col.0)

abbrev pub height : Position → Position → ℕ
height p q = suc (max p.row.0 q.row.0 - min p.row.0 q.row.0)

abbrev pub breadth : Position → Position → ℕ
breadth p q = suc (max p.col.0 q.col.0 - min p.col.0 q.col.0)

module _ {A : Type 0} (lf sp : A → Bool) (made : Made A) where
  -- "row clamped; count 0 acts as 1; stops at the last row. ... Inverse: SplitLines with the length before each join and whether
  -- that join added a space. Cursor: (row,0)."
  unfoldable pub joined : List A → ℕ → ℕ → Bool → Edited A
  joined t row count b =
      let r = min row (last_row lf t) in
      let x = get_or (lines lf t) r (line [] []) in
      let below = drop (suc r) (lines lf t) in
      let ys = take (max count 1) below in
      edited (from_row (lines lf t) r (join_row made.space b x ys ∷ drop (max count 1) below))
      (whole (SplitLines (row_at r)) [] (join_cols made.space b x ys) (join_flags made.space b x ys)) (at r 0)

  -- "Flag yes: a space at the column is removed if there": what follows the column
  unfoldable pub unspace : ℕ → List A → List A
  unspace zero s = s
  unspace (suc f) [] = []
  unspace (suc f) (x ∷ s) = cond (sp x) s (x ∷ s)

  -- "then LF goes in. Flag no: the column is clamped to the row's length at that step": the first of these rows, split at a column,
  -- where `take` and `drop` go no further than the row
  unfoldable pub split_first : ℕ → ℕ → List (Line A) → List (Line A)
  split_first c f [] = []
  split_first c f (r ∷ rs) = line (take c r.body) (made.break ∷ []) ∷ line (unspace f (drop c r.body)) r.after ∷ rs

  -- "columns taken last first"; a flag that is missing is no
  unfoldable pub split_row : Line A → List ℕ → List ℕ → List (Line A)
  split_row r [] fs = r ∷ []
  split_row r (c ∷ cs) fs = split_first c (get_or fs 0 0) (split_row r cs (drop 1 fs))

  -- "row clamped ... Inverse: JoinLines with as many joins as columns, spaces asked if any flag, surplus ones included, is yes.
  -- Cursor: (row,0)."
  unfoldable pub split : List A → ℕ → List ℕ → List ℕ → Edited A
  split t row cs fs =
      let r = min row (last_row lf t) in
      edited (from_row (lines lf t) r (split_row (get_or (lines lf t) r (line [] [])) cs fs ++ drop (suc r) (lines lf t)))
      (whole (JoinLines (row_at r) (length cs) (any_flag fs)) [] [] []) (at r 0)

  -- "absent rows are skipped, their width recorded. Inverse: DeleteBlockChunks with widths and pads. Cursor: the place, clamped."
  unfoldable pub block_inserted : List A → Position → List A → List ℕ → Edited A
  block_inserted t p x ns =
      let rs = drop p.row.0 (lines lf t) in
      let ks = pieces ns x in
      let u = from_row (lines lf t) p.row.0 (put_all made.pad p.col.0 ks rs) in
      edited u (whole (DeleteBlockChunks p) [] ns (pads_of p.col.0 ks rs)) (clamp lf u p)

  -- "Inverse: InsertBlock at the place with these chunks. Cursor: the place, clamped."
  unfoldable pub chunks_deleted : List A → Position → List ℕ → List ℕ → Edited A
  chunks_deleted t p ws ds =
      let rs = drop p.row.0 (lines lf t) in
      let ks = chunks_of p.col.0 ws rs in
      let u = from_row (lines lf t) p.row.0 (cut_all p.col.0 ws ds rs) in
      edited u (whole (InsertBlock p) (flatten ks) (map length ks) []) (clamp lf u p)

  -- Block: chunks all of one width, at the corner of the range (see `corner`)
  unfoldable pub range_deleted : List A → Position → Position → MotionKind → Edited A
  range_deleted t p q Char = chars_deleted lf t p q
  range_deleted t p q Lines = lines_deleted lf t p q
  range_deleted t p q Block = chunks_deleted t (corner p q) (replicate (height p q) (breadth p q)) []

  unfoldable pub edited_by : Edit → List A → List ℕ → List ℕ → List A → Edited A
  edited_by (InsertChar p) x f s t = inserted lf t p x
  edited_by (InsertStr p) x f s t = inserted lf t p x
  edited_by (DeleteRange p q k) x f s t = range_deleted t p q k
  edited_by (JoinLines r n b) x f s t = joined t r.0 n b
  edited_by (SplitLines r) x f s t = split t r.0 f s
  edited_by (Replace p q) x f s t = replaced lf t p q x
  edited_by (InsertBlock p) x f s t = block_inserted t p x f
  edited_by (DeleteBlockChunks p) x f s t = chunks_deleted t p f s
