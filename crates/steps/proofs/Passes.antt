-- The steps of an edit pass over no more than its text.
use mathlib.Core.Path.{◌≡◌, sym, ap, ◌∙◌}
use mathlib.Core.Bool.{Bool, true, false, cond}
use mathlib.Core.List.{List, [], ◌∷◌, ◌++◌}
use Prim.Native.Nat.{ℕ, suc, ◌+◌, ◌-◌, ◌≤◌, min, max}
use native.Mathlib.Omega.{arith}
use lib.Dec.{ltb}
use lib.ListN.{length, take, drop, get_or, replicate, length-append, length-drop, take-append-drop}
use lib.Seq.{length-take-le}
use Rattle.text.specs.declared.Position.{Position}
use Rattle.text.specs.Rows.{Line, line, lines, unlines, earlier, later, last_row, row_start, offset, spliced}
use Rattle.text.proofs.Laws.{start-le}
use Rattle.text.proofs.Spots.{offset-le}
use Rattle.edit.specs.declared.MotionKind.{MotionKind}
use Rattle.edit.specs.declared.MotionKind.TheVariants.{Char, Line as Lines, Block}
use Rattle.edit.specs.declared.Edit.{Edit}
use Rattle.edit.specs.declared.Edit.TheVariants.{InsertChar, InsertStr, DeleteRange, JoinLines, SplitLines, Replace, InsertBlock, DeleteBlockChunks}
use Rattle.edit.specs.Edits.{Made, pieces, cut_from, cut_to, line_from, line_to, corner, height, breadth}
use Rattle.steps.specs.Steps.{Step, ahead, passed}
use Rattle.steps.specs.Kinds.{insert_steps, char_steps, line_steps, replace_steps, joined_steps, split_at, range_steps, steps_by}
use Rattle.text.proofs.Broken.{unlines-append}
use Rattle.steps.proofs.Laws.{Parted, parted_take, below_parted, rows_whole, row_cons}
use Rattle.steps.proofs.Splits.{split-passed}
use Rattle.steps.proofs.Sums.{ahead-passed, put-passed, cut_passed, join-passed}
use Rattle.steps.proofs.Flats.{line-order}

through : {i j k : ℕ} → i ≤ j → j ≤ k → i ≤ k
through h e = omega arith

front : (i j : ℕ) → i ≤ i + j
front i j = omega arith

module _ {A : Type 0} (lf : A → Bool) where
  rows-length : (t : List A) (r : ℕ) → row_start lf t r + length (unlines (drop r (lines lf t))) ≡ length t
  unfolding row_start
  rows-length t r =
      let L = lines lf t in
      sym (length-append (unlines (take r L)) (unlines (drop r L))) ∙ ap (λ (l : List A). length l) (rows_whole lf t r)

  rows-passed : (t : List A) (r : ℕ) (ss : List (Step A)) → passed ss ≤ length (unlines (drop r (lines lf t))) → passed (ahead (row_start lf t r) ss) ≤ length t
  rows-passed t r ss h = omega (arith, rows-length t r, ahead-passed (row_start lf t r) ss)

  insert-passed : (t : List A) (p : Position) (x : List A) → passed (insert_steps lf t p x) ≤ length t
  unfolding passed
  insert-passed t p x = omega (arith, offset-le lf t p)

  char_passed : (t : List A) (p q : Position) → passed (char_steps lf t p q) ≤ length t
  unfolding passed
  char_passed t p q = omega (arith, offset-le lf t (earlier p q), offset-le lf t (later p q))

  pub line-to : (t : List A) (hi : ℕ) → line_to lf t hi ≤ length t
  unfolding line_to
  line-to t hi = go (ltb hi (last_row lf t))
    where
      go : (b : Bool) → cond b (row_start lf t (suc hi)) (length t) ≤ length t
      go true = start-le lf t (suc hi)
      go false = omega arith

  lines-passed : (t : List A) (p q : Position) → passed (line_steps lf t p q) ≤ length t
  unfolding passed
  lines-passed t p q =
      let lo : ℕ = min (min p.row.0 q.row.0) (last_row lf t) in
      let hi : ℕ = min (max p.row.0 q.row.0) (last_row lf t) in
      let o : ℕ = offset lf t (line_from lf t lo hi) in
      let h : o ≤ line_to lf t hi = line-order lf t lo hi (omega arith) (omega arith) in
      one o (line_to lf t hi) (length t) h (line-to t hi)
    where
      one : (o e n : ℕ) → o ≤ e → e ≤ n → o + (e - o) + 0 ≤ n
      one o e n h k = omega arith

  replace_passed : (t : List A) (p q : Position) (x : List A) → passed (replace_steps lf t p q x) ≤ length t
  unfolding passed
  replace_passed t p q x =
      let a : ℕ = cut_from lf t p q in
      let e : ℕ = cut_to lf t p q in
      let u : List A = spliced t a e [] in
      let ha : a ≤ length t = offset-le lf t (earlier p q) in
      let he : e ≤ length t = omega (arith, offset-le lf t (earlier p q), offset-le lf t (later p q)) in
      let l : length u ≡ a + (length t - e) = length-append (take a t) (drop e t) ∙ sums (length-take-le a t ha) (length-drop e t) in
      two a e (offset lf u (earlier p q)) (length t) (length u) (omega arith) he l (offset-le lf u (earlier p q))
    where
      sums : {i j k l : ℕ} → i ≡ j → k ≡ l → i + k ≡ j + l
      sums h k = omega arith

      two : (a e o n u : ℕ) → a ≤ e → e ≤ n → u ≡ a + (n - e) → o ≤ u → a + (e - a) + (o - a + 0 + 0) ≤ n
      two a e o n u h k j i = omega arith

module _ {A : Type 0} (lf sp : A → Bool) (made : Made A) where
  cons_le : (l : List (Line A)) (x : Line A) (n : ℕ) (below : List (Line A)) → l ≡ x ∷ below → length x.body + length (x.after ++ unlines (take n below)) ≤ length (unlines l)
  unfolding unlines
  cons_le l x n below e =
      let w : unlines below ≡ unlines (take n below) ++ unlines (drop n below) = sym (sym (unlines-append (take n below) (drop n below)) ∙ ap unlines (take-append-drop n below)) in
      rw (e, w) (omega (arith, length-append x.body (x.after ++ (unlines (take n below) ++ unlines (drop n below))), length-append x.after (unlines (take n below) ++ unlines (drop n below)), length-append (unlines (take n below)) (unlines (drop n below)), length-append x.after (unlines (take n below))))

  joined-passed : (t : List A) (row count : ℕ) (b : Bool) → passed (joined_steps lf made.space t row count b) ≤ length t
  joined-passed t row count b =
      let L = lines lf t in
      let r : ℕ = min row (last_row lf t) in
      let x = get_or L r (line [] []) in
      let below = drop (suc r) L in
      let n : ℕ = max count 1 in
      let e = row_cons lf sp made t row in
      let h : Parted x.after below = below_parted lf t r x below e in
      let j = join-passed made.space b x (length x.body) (take n below) (parted_take n x.after below h) in
      rows-passed lf t r _ (through j (cons_le (drop r L) x n below e))

  split-steps_passed : (t : List A) (row : ℕ) (cs fs : List ℕ) → passed (split_at lf sp made t row cs fs) ≤ length t
  split-steps_passed t row cs fs =
      let L = lines lf t in
      let r : ℕ = min row (last_row lf t) in
      let x = get_or L r (line [] []) in
      rows-passed lf t r _ (through (through (split-passed lf sp made x.body cs fs) (front (length x.body) _)) (cons_le (drop r L) x 0 (drop (suc r) L) (row_cons lf sp made t row)))

  range_passed : (p q : Position) (k : MotionKind) (t : List A) → passed (range_steps lf sp made p q k t) ≤ length t
  unfolding range_steps
  range_passed p q Char t = char_passed lf t p q
  range_passed p q Lines t = lines-passed lf t p q
  range_passed p q Block t = rows-passed lf t (corner p q).row.0 _ (cut_passed (corner p q).col.0 (replicate (height p q) (breadth p q)) [] (drop (corner p q).row.0 (lines lf t)))

  pub steps_passed : (e : Edit) (x : List A) (f s : List ℕ) (t : List A) → passed (steps_by lf sp made e x f s t) ≤ length t
  unfolding steps_by
  steps_passed (InsertChar p) x f s t = insert-passed lf t p x
  steps_passed (InsertStr p) x f s t = insert-passed lf t p x
  steps_passed (DeleteRange p q k) x f s t = range_passed p q k t
  steps_passed (JoinLines r n b) x f s t = joined-passed t r.0 n b
  steps_passed (SplitLines r) x f s t = split-steps_passed t r.0 f s
  steps_passed (Replace p q) x f s t = replace_passed lf t p q x
  steps_passed (InsertBlock p) x f s t = rows-passed lf t p.row.0 _ (put-passed p.col.0 (pieces f x) (drop p.row.0 (lines lf t)))
  steps_passed (DeleteBlockChunks p) x f s t = rows-passed lf t p.row.0 _ (cut_passed p.col.0 f s (drop p.row.0 (lines lf t)))
