-- A turn of a split: the columns from index k on were taken from row r of the text t.
use mathlib.Core.Path.{◌≡◌, refl, sym, ap, ◌∙◌}
use mathlib.Core.Bool.{◌&&◌, ◌||◌}
use mathlib.Core.List.{List, [], ◌∷◌, ◌++◌, append_assoc}
use Prim.Native.Nat.{ℕ, zero, suc, ◌+◌, ◌≤◌, ◌<◌, min}
use native.Mathlib.Numerals.{add-one}
use native.Mathlib.Omega.{arith}
use lib.Dec.{eqb, leb}
use lib.ListN.{length, take, drop, get_or, length-append, length-take, length-drop}
use lib.Seq.{slice, length-slice, drop-cons, drop-drop, drop-length, take-take, take-append-le, take-append-add, drop-append_seam, length-take-le}
use Rattle.promise.proofs.Lists.{first_from}
use Rattle.text.specs.declared.Span.{Span}
use Rattle.text.specs.Rows.{Line, line, lines, unlines, last_row, row_len, row_start, row_end, span, spliced}
use Rattle.text.specs.Text.{is_lf}
use Rattle.text.proofs.Laws.{unlines-lines}
use Rattle.text.proofs.Walks.{span-parts}
use Rattle.text.proofs.Broken.{unlines-append}
use Rattle.text.proofs.Changes.{row_of, rows-around, text-around}
use Rattle.edit.specs.Edits.{split_row, split}
use Rattle.edit.specs.Refusals.{is_space, spaces, within_first, within_all}
use Rattle.joins.specs.declared.SplitTurn.{SplitTurn}
use Rattle.joins.specs.Turns.{gone_at, split_turn}
use Rattle.joins.proofs.SplitRows.{gone_one, gone_within, least, least_le, split-front, split-spliced}

-- the text once the columns from k on were taken
abbrev pub split_to : List ℕ → ℕ → List ℕ → List ℕ → ℕ → List ℕ
split_to t r cs fs k = (split is_lf is_space spaces t r (drop k cs) (drop k fs)).text

-- how long its row r is
abbrev pub left_to : List ℕ → ℕ → List ℕ → ℕ → ℕ
left_to t r cs k = least (row_len is_lf t r) (drop k cs)

-- ---- what a turn finds, in numbers

pub turn_bounds : (t : List ℕ) (s e c f : ℕ) → s ≤ e → e ≤ length t → (y : SplitTurn) → y ≡ split_turn t s e c f → (s ≤ y.at.0) × (y.at.0 + y.gone ≤ e) × (y.gone ≤ 1)
turn_bounds t s e c f h k y q =
    let z = slice s e t in
    let l = length-slice s e t k in
    let a : y.at.0 ≡ s + min c (length z) = ap (λ (y : SplitTurn). y.at.0) q in
    let g : y.gone ≡ gone_at z c f = ap (λ (y : SplitTurn). y.gone) q in
    (omega arith, omega (arith, gone_within z c f), omega (arith, gone_one z c f))

-- ---- the row in the text

slice_front : (P w Q : List ℕ) (m : ℕ) → m ≤ length w → slice (length P) (length P + m) (P ++ (w ++ Q)) ≡ take m w
slice_front P w Q m h = rw (take-append-add P (w ++ Q) m, drop-append_seam P (take m (w ++ Q)), take-append-le m w Q h)

module _ (t : List ℕ) (r : ℕ) (h : r ≤ last_row is_lf t) where
  abbrev A : List (Line ℕ)
  A = take r (lines is_lf t)

  abbrev x : Line ℕ
  x = row_of t r

  abbrev B : List (Line ℕ)
  B = drop (suc r) (lines is_lf t)

  pub split_text : (cs fs : List ℕ) → (split is_lf is_space spaces t r cs fs).text ≡ unlines (A ++ (split_row is_lf is_space spaces x cs fs ++ B))
  unfolding split
  split_text cs fs = let m : min r (last_row is_lf t) ≡ r = omega arith in rw m

  split-none : (fs : List ℕ) → (split is_lf is_space spaces t r [] fs).text ≡ t
  unfolding split_row
  split-none fs = split_text [] fs ∙ ap unlines (sym (rows-around t r h)) ∙ unlines-lines is_lf t

  -- the row at first, and the first row now
  pub first_slice : (m : ℕ) → m ≤ row_len is_lf t r → slice (row_start is_lf t r) (row_start is_lf t r + m) t ≡ take m x.body
  unfolding row_start row_len
  first_slice m l =
      ap (slice (length (unlines A)) (length (unlines A) + m)) (text-around t r h ∙ ap (λ (l : List ℕ). unlines A ++ l) (append_assoc x.body x.after (unlines B)))
      ∙ slice_front (unlines A) x.body (x.after ++ unlines B) m l

  pub now_slice : (cs fs : List ℕ) → slice (row_start is_lf t r) (row_start is_lf t r + least (row_len is_lf t r) cs) (split is_lf is_space spaces t r cs fs).text ≡ take (least (row_len is_lf t r) cs) x.body
  unfolding row_start row_len unlines
  now_slice cs fs =
      let q = split-front x cs fs in
      let m = least (length x.body) cs in
      let w : List ℕ = take m x.body in
      let l : length w ≡ m = length-take-le m x.body (least_le (length x.body) cs) in
      rw (split_text cs fs, q.2, unlines-append A ((line w q.0 ∷ q.1) ++ B))
      (slice_front (unlines A) w (q.0 ++ unlines (q.1 ++ B)) m (omega arith) ∙ take-take m m x.body (omega arith))

  now_within : (cs fs : List ℕ) → row_start is_lf t r + least (row_len is_lf t r) cs ≤ length (split is_lf is_space spaces t r cs fs).text
  unfolding row_start row_len unlines
  now_within cs fs =
      let q = split-front x cs fs in
      let l = length-take-le (least (length x.body) cs) x.body (least_le (length x.body) cs) in
      rw (split_text cs fs, q.2, unlines-append A ((line (take (least (length x.body) cs) x.body) q.0 ∷ q.1) ++ B)) (simp length-append (omega arith))

  front_long : (cs : List ℕ) → length (take (least (row_len is_lf t r) cs) x.body) ≡ least (row_len is_lf t r) cs
  unfolding row_len
  front_long cs = length-take-le (least (length x.body) cs) x.body (least_le (length x.body) cs)

  -- a flag's column is within the row, or the flag is no
  within-cons : (c : ℕ) (cs fs : List ℕ) → within_all x (c ∷ cs) fs ≡ ((eqb (get_or fs 0 0) 0 || leb c (least (row_len is_lf t r) cs)) && within_all x cs (drop 1 fs))
  unfolding within_all within_first row_len
  within-cons c cs fs = rw ((split-front x cs (drop 1 fs)).2, front_long cs)

  -- ---- a turn, on a text u with that row

  module _ (c : ℕ) (cs fs : List ℕ) (u : List ℕ) (q : slice (row_start is_lf t r) (row_start is_lf t r + least (row_len is_lf t r) cs) u ≡ take (least (row_len is_lf t r) cs) x.body)
      (y : SplitTurn) (e : y ≡ split_turn u (row_start is_lf t r) (row_start is_lf t r + least (row_len is_lf t r) cs) c (get_or fs 0 0)) where
    abbrev w : List ℕ
    w = take (least (row_len is_lf t r) cs) x.body

    gone_is : y.gone ≡ gone_at w c (get_or fs 0 0)
    gone_is = ap (λ (y : SplitTurn). y.gone) e ∙ rw q

    at-is : y.at.0 ≡ row_start is_lf t r + least (row_len is_lf t r) (c ∷ cs)
    unfolding least
    at-is = ap (λ (y : SplitTurn). y.at.0) e ∙ rw (q, front_long cs)

    text-is : (split is_lf is_space spaces t r (c ∷ cs) fs).text ≡ spliced (split is_lf is_space spaces t r cs (drop 1 fs)).text y.at.0 (y.at.0 + y.gone) (10 ∷ [])
    unfolding split_row row_start row_len
    text-is =
        let k = split-front x cs (drop 1 fs) in
        let f = get_or fs 0 0 in
        let a : y.at.0 ≡ length (unlines A) + min c (length w) = ap (λ (y : SplitTurn). y.at.0) e ∙ rw q in
        let g : y.at.0 + y.gone ≡ length (unlines A) + (min c (length w) + gone_at w c f) = omega (arith, gone_is) in
        split_text (c ∷ cs) fs ∙ rw (split_text cs (drop 1 fs), k.2, g, a) (split-spliced A (line w k.0) k.1 B c f)

    gone_least : y.gone ≤ 1
    gone_least = omega (arith, gone_is, gone_one w c (get_or fs 0 0))

    size_is : length (split is_lf is_space spaces t r (c ∷ cs) fs).text + y.gone ≡ length (split is_lf is_space spaces t r cs (drop 1 fs)).text + 1
    size_is =
        let n = now_within cs (drop 1 fs) in
        let g = gone_within w c (get_or fs 0 0) in
        let a : y.at.0 ≡ row_start is_lf t r + min c (length w) = ap (λ (y : SplitTurn). y.at.0) e ∙ rw q in
        let i : y.at.0 + y.gone ≤ length (split is_lf is_space spaces t r cs (drop 1 fs)).text = omega (arith, gone_is, front_long cs) in
        rw text-is (simp (length-append, length-take, length-drop) (omega arith))

-- the row that is split
pub record Spans (t : List ℕ) (r start end : ℕ) : Type 0 where
  pub within : r ≤ last_row is_lf t
  pub begins : start ≡ row_start is_lf t r
  pub ends : end ≡ row_end is_lf t r

-- ---- the turn at index j

module _ (t : List ℕ) (r : ℕ) (h : r ≤ last_row is_lf t) (cs fs : List ℕ) (j : ℕ) (l : j < length cs) where
  cols_cons : drop j cs ≡ get_or cs j 0 ∷ drop (suc j) cs
  cols_cons = drop-cons cs j 0 l

  flags_rest : drop 1 (drop j fs) ≡ drop (suc j) fs
  flags_rest = drop-drop 1 j fs ∙ rw (add-one j)

  pub within_more : within_all (row_of t r) (drop j cs) (drop j fs) ≡ ((eqb (get_or fs j 0) 0 || leb (get_or cs j 0) (left_to t r cs (suc j))) && within_all (row_of t r) (drop (suc j) cs) (drop (suc j) fs))
  within_more = ap (λ (d : List ℕ). within_all (row_of t r) d (drop j fs)) cols_cons ∙ within-cons t r h (get_or cs j 0) (drop (suc j) cs) (drop j fs) ∙ rw (first_from fs j, flags_rest)

  module _ (u : List ℕ) (q : slice (row_start is_lf t r) (row_start is_lf t r + left_to t r cs (suc j)) u ≡ take (left_to t r cs (suc j)) (row_of t r).body)
      (y : SplitTurn) (e : y ≡ split_turn u (row_start is_lf t r) (row_start is_lf t r + left_to t r cs (suc j)) (get_or cs j 0) (get_or fs j 0)) where
    turn_now : y ≡ split_turn u (row_start is_lf t r) (row_start is_lf t r + left_to t r cs (suc j)) (get_or cs j 0) (get_or (drop j fs) 0 0)
    turn_now = rw (first_from fs j) e

    pub turn_at : y.at.0 ≡ row_start is_lf t r + left_to t r cs j
    turn_at = rw cols_cons (at-is t r h (get_or cs j 0) (drop (suc j) cs) (drop j fs) u q y turn_now)

    text-now : split_to t r cs fs j ≡ (split is_lf is_space spaces t r (get_or cs j 0 ∷ drop (suc j) cs) (drop j fs)).text
    text-now = ap (λ (d : List ℕ). (split is_lf is_space spaces t r d (drop j fs)).text) cols_cons

    text-before : (split is_lf is_space spaces t r (drop (suc j) cs) (drop 1 (drop j fs))).text ≡ split_to t r cs fs (suc j)
    text-before = ap (λ (d : List ℕ). (split is_lf is_space spaces t r (drop (suc j) cs) d).text) flags_rest

    pub turn_text : split_to t r cs fs j ≡ spliced (split_to t r cs fs (suc j)) y.at.0 (y.at.0 + y.gone) (10 ∷ [])
    turn_text = text-now ∙ text-is t r h (get_or cs j 0) (drop (suc j) cs) (drop j fs) u q y turn_now ∙ rw text-before

    pub turn_one : y.gone ≤ 1
    turn_one = gone_least t r h (get_or cs j 0) (drop (suc j) cs) (drop j fs) u q y turn_now

    pub turn_size : length (split_to t r cs fs j) + y.gone ≡ length (split_to t r cs fs (suc j)) + 1
    turn_size = omega (arith, ap length text-now, ap length text-before, size_is t r h (get_or cs j 0) (drop (suc j) cs) (drop j fs) u q y turn_now)

-- before the first turn
pub splits_none : (t : List ℕ) (r : ℕ) → r ≤ last_row is_lf t → (cs fs : List ℕ) → split_to t r cs fs (length cs) ≡ t
splits_none t r h cs fs = ap (λ (d : List ℕ). (split is_lf is_space spaces t r d (drop (length cs) fs)).text) (drop-length cs) ∙ split-none t r h (drop (length cs) fs)

-- the text grows with each turn
pub splits_grow : (t : List ℕ) (r : ℕ) → r ≤ last_row is_lf t → (cs fs : List ℕ) (k : ℕ) → k ≤ length cs → length (split_to t r cs fs k) ≤ length (split is_lf is_space spaces t r cs fs).text
splits_grow t r h cs fs zero l = omega arith
splits_grow t r h cs fs (suc j) l =
    let u = split_to t r cs fs (suc j) in
    let q = now_slice t r h (drop (suc j) cs) (drop (suc j) fs) in
    let y = split_turn u (row_start is_lf t r) (row_start is_lf t r + left_to t r cs (suc j)) (get_or cs j 0) (get_or fs j 0) in
    omega (arith, splits_grow t r h cs fs j (omega arith), turn_size t r h cs fs j l u q y refl, turn_one t r h cs fs j l u q y refl)

pub spans_at : (t : List ℕ) (f : Span) → f ≡ span is_lf t f.row.0 → Spans t f.row.0 f.start.0 f.end.0
spans_at t f e = let q = span-parts t f e in record { within = q.0; begins = q.1; ends = q.2 }
