-- What the builders are asked for, from a row's start on, is the edit's steps on the whole text.
use mathlib.Core.Path.{◌≡◌, sym, ap, ◌∙◌}
use mathlib.Core.Bool.{Bool}
use mathlib.Core.List.{List, [], ◌∷◌, ◌++◌, append_assoc}
use Prim.Native.Nat.{ℕ, suc, ◌+◌, ◌≤◌, ◌<◌, min, max}
use native.Mathlib.Omega.{arith}
use lib.ListN.{length, take, drop, drop_of_length-le}
use lib.Seq.{slice, take-append-add, take-append_seam, drop-append_seam}
use Rattle.promise.proofs.Lists.{take_min}
use Rattle.text.specs.declared.Position.{Position}
use Rattle.text.specs.declared.Row.{Row}
use Rattle.text.specs.declared.Span.{Span}
use Rattle.text.specs.Rows.{Line, line, lines, unlines, row_count, last_row, row_len, row_start, span}
use Rattle.text.specs.Text.{is_lf}
use Rattle.text.proofs.Laws.{lines_from, count_last}
use Rattle.text.proofs.Changes.{row_of, row_from, text-around}
use Rattle.edit.specs.declared.Edit.TheVariants.{JoinLines, SplitLines, InsertBlock, DeleteBlockChunks}
use Rattle.edit.specs.Edits.{pieces}
use Rattle.edit.specs.Refusals.{is_space, spaces}
use Rattle.steps.specs.Steps.{ahead}
use Rattle.steps.specs.Kinds.{join_steps, put_steps, cut_steps, chunk_steps, split_steps, steps_by}
use Rattle.joining.specs.Joining.{join_from}
use Rattle.building.proofs.Builds.{puts_none}
use Rattle.cutting.proofs.CutRows.{cuts_none}

module _ (t : List ℕ) where
  abbrev from : ℕ → List ℕ
  from r = drop (row_start is_lf t r) t

  pub put_whole : (p : Position) (x ns s : List ℕ) → p.row.0 ≤ last_row is_lf t
      → ahead (row_start is_lf t p.row.0) (put_steps p.col.0 (pieces ns x) (lines is_lf (from p.row.0))) ≡ steps_by is_lf is_space spaces (InsertBlock p) x ns s t
  unfolding steps_by
  put_whole p x ns s h = rw (lines_from is_lf t p.row.0 h)

  pub cut_whole : (p : Position) (x ws ds : List ℕ) → p.row.0 ≤ last_row is_lf t
      → ahead (row_start is_lf t p.row.0) (cut_steps p.col.0 ws ds (lines is_lf (from p.row.0))) ≡ steps_by is_lf is_space spaces (DeleteBlockChunks p) x ws ds t
  unfolding steps_by
  cut_whole p x ws ds h = rw (lines_from is_lf t p.row.0 h)

  -- the row so far is empty, and the joins are as many as asked for
  pub join-whole : (row : Row) (n : ℕ) (b : Bool) (x f s : List ℕ)
      → ahead (row_start is_lf t (min row.0 (last_row is_lf t))) (join_from 32 b [] (max n 1) (lines is_lf (from (min row.0 (last_row is_lf t))))) ≡ steps_by is_lf is_space spaces (JoinLines row n b) x f s t
  unfolding steps_by join_from
  join-whole row n b x f s =
      let r : ℕ = min row.0 (last_row is_lf t) in
      let e = lines_from is_lf t r (omega arith) ∙ row_from t r (omega arith) in
      ap (λ (l : List (Line ℕ)). ahead (row_start is_lf t r) (join_from 32 b [] (max n 1) l)) e

  -- a row as it stands in the text
  pub row_slice : (n : ℕ) (f : Span) → f ≡ span is_lf t n → slice f.start.0 f.end.0 t ≡ (row_of t (min n (last_row is_lf t))).body
  unfolding span row_start row_len
  row_slice n f e =
      let r : ℕ = min n (last_row is_lf t) in
      let A : List ℕ = unlines (take r (lines is_lf t)) in
      let b : List ℕ = (row_of t r).body in
      let z : List ℕ = (row_of t r).after ++ unlines (drop (suc r) (lines is_lf t)) in
      let w : t ≡ A ++ (b ++ z) = text-around t r (omega arith) ∙ ap (λ (l : List ℕ). A ++ l) (append_assoc b (row_of t r).after (unlines (drop (suc r) (lines is_lf t)))) in
      ap (λ (s : Span). slice s.start.0 s.end.0 t) e ∙ ap (slice (length A) (length A + length b)) w ∙ rw (take-append-add A (b ++ z) (length b), drop-append_seam A (take (length b) (b ++ z))) (take-append_seam b z)

  -- the row lent is the one that is split
  pub split-whole : (row : Row) (f : Span) (body x cs fs : List ℕ) → f ≡ span is_lf t row.0 → body ≡ slice f.start.0 f.end.0 t
      → ahead f.start.0 (split_steps is_lf is_space spaces body cs fs) ≡ steps_by is_lf is_space spaces (SplitLines row) x cs fs t
  unfolding steps_by span
  split-whole row f body x cs fs e q =
      ap (λ (b : List ℕ). ahead f.start.0 (split_steps is_lf is_space spaces b cs fs)) (q ∙ row_slice row.0 f e)
      ∙ ap (λ (s : Span). ahead s.start.0 (split_steps is_lf is_space spaces (row_of t (min row.0 (last_row is_lf t))).body cs fs)) e

  -- an absent row has no steps
  no_rows : (r : ℕ) → last_row is_lf t < r → drop r (lines is_lf t) ≡ []
  unfolding row_count
  no_rows r h = drop_of_length-le (lines is_lf t) {i = r} (omega (arith, count_last is_lf t))

  no_chunks : (p : Position) (ws ds : List ℕ) → last_row is_lf t < p.row.0 → [] ≡ chunk_steps is_lf t p ws ds
  unfolding ahead
  no_chunks p ws ds h = rw (no_rows p.row.0 h, cuts_none p.col.0 ws ds)

  pub put-absent : (p : Position) (x ns s : List ℕ) → last_row is_lf t < p.row.0 → [] ≡ steps_by is_lf is_space spaces (InsertBlock p) x ns s t
  unfolding steps_by ahead
  put-absent p x ns s h = rw (no_rows p.row.0 h, puts_none p.col.0 (pieces ns x))

  pub cut_absent : (p : Position) (x ws ds : List ℕ) → last_row is_lf t < p.row.0 → [] ≡ steps_by is_lf is_space spaces (DeleteBlockChunks p) x ws ds t
  unfolding steps_by
  cut_absent p x ws ds h = no_chunks p ws ds h

-- a caller that counts no further than 256, once row 3 has been judged
pub join-bounded : (b : Bool) (p : List ℕ) (m : ℕ) (r : Line ℕ) (rs : List (Line ℕ)) → min m (length rs) ≤ 256 → join_from 32 b p (min m 256) (r ∷ rs) ≡ join_from 32 b p m (r ∷ rs)
unfolding join_from
join-bounded b p m r rs h =
    let e : min (min m 256) (length rs) ≡ min m (length rs) = omega arith in
    let k : take (min m 256) rs ≡ take m rs = take_min (min m 256) rs ∙ ap (λ (i : ℕ). take i rs) e ∙ sym (take_min m rs) in
    ap (λ (l : List (Line ℕ)). join_steps 32 b (line (p ++ r.body) r.after) (length r.body) l) k
