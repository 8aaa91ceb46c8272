-- The splits of a row change nothing behind it: they may be made on the text up to where it ends.
use mathlib.Core.Path.{◌≡◌, sym, ap, ◌∙◌}
use mathlib.Core.List.{List, [], ◌∷◌, ◌++◌, append-nil, append_assoc}
use Prim.Native.Nat.{ℕ, ◌+◌, ◌≤◌, min}
use native.Mathlib.Nat.{add-zero}
use native.Mathlib.Omega.{arith}
use lib.ListN.{length, take, drop, get_or, length-append}
use lib.Seq.{take-append-le, drop-append-le}
use Rattle.text.specs.Rows.{Line, line, unlines, last_row, row_end, span, spliced}
use Rattle.text.specs.Text.{is_lf}
use Rattle.text.proofs.Broken.{unlines-append}
use Rattle.text.proofs.Changes.{row_of}
use Rattle.text.proofs.Fronts.{bared, behind-front, front_above}
use Rattle.edit.specs.Edits.{split_row, split}
use Rattle.edit.specs.Refusals.{is_space, spaces}
use Rattle.joins.specs.Turns.{gone_at}
use Rattle.joins.proofs.JoinTurns.{below_of}
use Rattle.joins.proofs.SplitRows.{gone_within, least, split-front, split-body}
use Rattle.joins.proofs.SplitTurns.{split_text}
use Rattle.joins.proofs.Parts.{rows_above, part-row, part-below, part-last, part-span}

spliced-front : (u s : List ℕ) (i j : ℕ) (p : List ℕ) → i ≤ length u → j ≤ length u → spliced (u ++ s) i j p ≡ spliced u i j p ++ s
spliced-front u s i j p h k = rw (take-append-le i u s h, drop-append-le j u s k) (simp append_assoc)

-- what ends a row ends the last of the rows that it is split into
split-ended : (x : Line ℕ) (cs fs : List ℕ) → unlines (split_row is_lf is_space spaces x cs fs) ≡ unlines (split_row is_lf is_space spaces (bared x) cs fs) ++ x.after
unfolding split_row unlines
split-ended x [] fs = rw (append-nil x.after, append-nil x.body)
split-ended x (c ∷ cs) fs =
    let p = split-front x cs (drop 1 fs) in
    let q = split-front (bared x) cs (drop 1 fs) in
    let w = take (least (length x.body) cs) x.body in
    let f = get_or fs 0 0 in
    let u = unlines (line w q.0 ∷ q.1) in
    let i = min c (length w) in
    let j = min c (length w) + gone_at w c f in
    let l : length w ≤ length u = simp length-append (omega arith) in
    let h : unlines (line w p.0 ∷ p.1) ≡ u ++ x.after = sym (ap unlines p.2) ∙ split-ended x cs (drop 1 fs) ∙ ap (λ (l : List (Line ℕ)). unlines l ++ x.after) q.2 in
    rw (p.2, q.2, split-body (line w p.0) p.1 c f, split-body (line w q.0) q.1 c f, h) (spliced-front u x.after i j (10 ∷ []) (omega arith) (omega (arith, gone_within w c f)))

-- ---- row r of the text t

module _ (t : List ℕ) (r : ℕ) (h : r ≤ last_row is_lf t) where
  row_end_lem : row_end is_lf t (r + 0) ≡ row_end is_lf t r
  row_end_lem = rw (add-zero r)

  last_row_lem : r + 0 ≤ last_row is_lf t
  last_row_lem = omega arith

  pub row_span_lem : span is_lf (take (row_end is_lf t r) t) r ≡ span is_lf t r
  row_span_lem = ap (λ (e : ℕ). span is_lf (take e t) r) (sym row_end_lem) ∙ part-span t r 0 last_row_lem

  module _ (cs fs : List ℕ) where
    part-split : (split is_lf is_space spaces (take (row_end is_lf t r) t) r cs fs).text ≡ unlines (rows_above t r) ++ unlines (split_row is_lf is_space spaces (bared (row_of t r)) cs fs)
    part-split =
        let S = split_row is_lf is_space spaces (bared (row_of t r)) cs fs in
        ap (λ (e : ℕ). (split is_lf is_space spaces (take e t) r cs fs).text) (sym row_end_lem)
        ∙ split_text (take (row_end is_lf t (r + 0)) t) r (omega (arith, part-last t r 0 last_row_lem)) cs fs
        ∙ rw (front_above t (r + 0) last_row_lem r (omega arith), part-row t r 0 last_row_lem, part-below t r 0 last_row_lem, append-nil S) (unlines-append (rows_above t r) S)

    pub row_split : (split is_lf is_space spaces t r cs fs).text ≡ (split is_lf is_space spaces (take (row_end is_lf t r) t) r cs fs).text ++ drop (row_end is_lf t r) t
    row_split =
        let x = row_of t r in
        let S = split_row is_lf is_space spaces x cs fs in
        split_text t r h cs fs
        ∙ rw (part-split, behind-front t r h, unlines-append (rows_above t r) (S ++ below_of t r), unlines-append S (below_of t r), split-ended x cs fs) (simp append_assoc)
