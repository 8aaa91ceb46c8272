-- The lists of an inverse are made of the edit's steps.
use mathlib.Core.Path.{◌≡◌, refl, sym, ap, ap₂, ◌∙◌}
use mathlib.Core.Bool.{Bool}
use mathlib.Core.List.{List, [], ◌∷◌, ◌++◌, map}
use Prim.Native.Nat.{ℕ, suc, ◌+◌, ◌-◌, ◌≤◌, min, max}
use native.Mathlib.Nat.{sub-zero, zero-add}
use native.Mathlib.Omega.{arith}
use lib.ListN.{length, take, drop, get_or, replicate, length-append, length-take, length-drop, length-replicate, length-map}
use Rattle.text.specs.declared.Position.{Position}
use Rattle.text.specs.Rows.{Line, line, lines, last_row, row_start}
use Rattle.edit.specs.declared.MotionKind.{MotionKind}
use Rattle.edit.specs.declared.MotionKind.TheVariants.{Char, Line as Lines, Block}
use Rattle.edit.specs.declared.Edit.{Edit}
use Rattle.edit.specs.declared.Edit.TheVariants.{InsertChar, InsertStr, DeleteRange, JoinLines, SplitLines, Replace, InsertBlock, DeleteBlockChunks}
use Rattle.edit.specs.Edits.{Made, gap, join_next, join_cols, join_flags, pads_of, pieces, chunks_of, inserted, chars_deleted, lines_deleted, replaced, joined, split, block_inserted, chunks_deleted, corner, height, breadth, range_deleted, edited_by}
use Rattle.edit.proofs.Blocks.{pieces-length}
use Rattle.steps.specs.Steps.{Step, ahead, given_back, padded, places}
use Rattle.steps.specs.Kinds.{join_steps, put_steps, cut_steps, range_steps, steps_by}
use Rattle.steps.specs.Resolves.{StartsAt}
use Rattle.recording.specs.Recorded.{filled_up, columns, first_by_range, first_by, second_by, first_long_of_range, first_long, second_long}

module _ {A : Type 0} where
  pub padded-ahead : (n : ℕ) (ss : List (Step A)) → padded (ahead n ss) ≡ padded ss
  unfolding padded ahead
  padded-ahead n [] = refl
  padded-ahead n (s ∷ ss) = refl

  pub given_ahead : (n : ℕ) (ss : List (Step A)) → given_back (ahead n ss) ≡ given_back ss
  unfolding given_back ahead
  given_ahead n [] = refl
  given_ahead n (s ∷ ss) = refl

  pub padded-long : (ss : List (Step A)) → length (padded ss) ≡ length ss
  unfolding padded
  padded-long [] = refl
  padded-long (s ∷ ss) = ap suc (padded-long ss)

  pub given_long : (ss : List (Step A)) → length (given_back ss) ≡ length ss
  unfolding given_back
  given_long [] = refl
  given_long (s ∷ ss) = ap suc (given_long ss)

  pub places-long : (k : ℕ) (ss : List (Step A)) → length (places k ss) ≡ length ss
  unfolding places
  places-long k [] = refl
  places-long k (s ∷ ss) = ap suc (places-long (k + s.keep + (s.pad + length s.come)) ss)

-- one item more
filled_more : (n v : ℕ) (xs ys : List ℕ) → xs ≡ filled_up n ys → (v ∷ xs) ≡ filled_up (suc n) (v ∷ ys)
filled_more n v xs ys e = let d : suc n - suc (length ys) ≡ n - length ys = omega arith in rw (d, e)

-- the part of a cut from a on that is behind v, and a row's part from c on
less_both : (u v a : ℕ) → a ≤ v → u - v ≡ u - a - (v - a)
less_both u v a h = omega arith

low : (c d n : ℕ) → min (c - d) n ≤ min c n
low c d n = omega arith

part-of_row : (c w n : ℕ) → min w (n - c) ≡ min (c + w) n - min c n
part-of_row c w n = omega arith

chunks_none : (A : Type 0) (c : ℕ) (ws : List ℕ) → map length (chunks_of {A = A} c ws []) ≡ replicate (length ws) 0
unfolding chunks_of
chunks_none A c [] = refl
chunks_none A c (w ∷ ws) = ap (λ (l : List ℕ). 0 ∷ l) (chunks_none A c ws)

module _ {A : Type 0} where
  pads_none : (c : ℕ) (ks : List (List A)) → pads_of {A = A} c ks [] ≡ replicate (length ks) 0
  unfolding pads_of
  pads_none c [] = refl
  pads_none c (k ∷ ks) = ap (λ (l : List ℕ). 0 ∷ l) (pads_none c ks)

  pub pads_are : (c : ℕ) (ks : List (List A)) (rs : List (Line A)) → pads_of c ks rs ≡ filled_up (length ks) (padded (put_steps c ks rs))
  unfolding pads_of padded put_steps
  pads_are c [] rs = refl
  pads_are c (k ∷ ks) [] = rw (sub-zero (suc (length ks))) (ap (λ (l : List ℕ). 0 ∷ l) (pads_none c ks))
  pads_are c (k ∷ ks) (r ∷ rs) =
      let m : ℕ = length (drop c r.body ++ r.after) in
      filled_more (length ks) (c - length r.body) (pads_of c ks rs) (padded (ahead m (put_steps c ks rs))) (pads_are c ks rs ∙ ap (filled_up (length ks)) (sym (padded-ahead m (put_steps c ks rs))))

  pub chunks_are : (c : ℕ) (ws ds : List ℕ) (rs : List (Line A)) → map length (chunks_of c ws rs) ≡ filled_up (length ws) (given_back (cut_steps c ws ds rs))
  unfolding chunks_of given_back cut_steps
  chunks_are c [] ds rs = refl
  chunks_are c (w ∷ ws) ds [] = rw (sub-zero (suc (length ws))) (ap (λ (l : List ℕ). 0 ∷ l) (chunks_none A c ws))
  chunks_are c (w ∷ ws) ds (r ∷ rs) =
      let n : ℕ = length r.body in
      let a : ℕ = min (c - get_or ds 0 0) n in
      let m : ℕ = length (drop (c + w) r.body ++ r.after) in
      let S : List (Step A) = cut_steps c ws (drop 1 ds) rs in
      let e : length (take w (drop c r.body)) ≡ min (c + w) n - a - (min c n - a) = length-take w (drop c r.body) ∙ ap (min w) (length-drop c r.body) ∙ part-of_row c w n ∙ less_both (min (c + w) n) (min c n) a (low c (get_or ds 0 0) n) in
      ap (λ (v : ℕ). v ∷ map length (chunks_of c ws rs)) e ∙ filled_more (length ws) (min (c + w) n - a - (min c n - a)) (map length (chunks_of c ws rs)) (given_back (ahead m S)) (chunks_are c ws (drop 1 ds) rs ∙ ap (filled_up (length ws)) (sym (given_ahead m S)))

  pub flags_are : (space : A) (b : Bool) (r : Line A) (k : ℕ) (ss : List (Line A)) → join_flags space b r ss ≡ padded (join_steps space b r k ss)
  unfolding join_flags padded join_steps
  flags_are space b r k [] = refl
  flags_are space b r k (s ∷ ss) = ap (λ (l : List ℕ). length (gap space b r.body s.body) ∷ l) (flags_are space b (join_next space b r s) (length s.body) ss)

  -- where k elements of the row so far stand behind the m before
  cols_from : (space : A) (b : Bool) (S m k : ℕ) (r : Line A) (ss : List (Line A)) → m + k ≡ S + length r.body
      → join_cols space b r ss ≡ map (λ (a : ℕ). a - S) (places m (join_steps space b r k ss))
  unfolding join_cols places join_steps
  cols_from space b S m k r [] e = refl
  cols_from space b S m k r (s ∷ ss) e =
      let g : List A = gap space b r.body s.body in
      let d : length r.body ≡ m + k - S = omega arith in
      let l : m + k + (length g + 0) + length s.body ≡ S + length (r.body ++ (g ++ s.body)) = omega (arith, length-append r.body (g ++ s.body), length-append g s.body) in
      ap₂ {C = List ℕ} (λ v t. v ∷ t) d (cols_from space b S (m + k + (length g + 0)) (length s.body) (join_next space b r s) ss l)

  places-ahead : (n : ℕ) (ss : List (Step A)) → places 0 (ahead n ss) ≡ places n ss
  unfolding places ahead
  places-ahead n [] = refl
  places-ahead n (s ∷ ss) = rw (zero-add (n + s.keep))

  pub cols_are : (space : A) (b : Bool) (S : ℕ) (r : Line A) (ss : List (Line A)) → join_cols space b r ss ≡ columns S (ahead S (join_steps space b r (length r.body) ss))
  cols_are space b S r ss = cols_from space b S S (length r.body) r ss refl ∙ ap (map (λ (a : ℕ). a - S)) (sym (places-ahead S (join_steps space b r (length r.body) ss)))

-- ---- whole edits

module _ {A : Type 0} (lf sp : A → Bool) (made : Made A) where
  cut_first_lem : (t : List A) (p : Position) (ws ds : List ℕ) (n : ℕ) → length ws ≡ n
      → (chunks_deleted lf sp made t p ws ds).inverse.first ≡ filled_up n (given_back (ahead (row_start lf t p.row.0) (cut_steps p.col.0 ws ds (drop p.row.0 (lines lf t)))))
  unfolding chunks_deleted
  cut_first_lem t p ws ds n e =
      let rs = drop p.row.0 (lines lf t) in
      rw (given_ahead (row_start lf t p.row.0) (cut_steps p.col.0 ws ds rs), ← e) (chunks_are p.col.0 ws ds rs)

  range_first : (p q : Position) (m : MotionKind) (t : List A) → (range_deleted lf sp made t p q m).inverse.first ≡ first_by_range p q m (range_steps lf sp made p q m t)
  unfolding range_deleted range_steps first_by_range chars_deleted lines_deleted
  range_first p q Char t = refl
  range_first p q Lines t = refl
  range_first p q Block t = cut_first_lem t (corner p q) (replicate (height p q) (breadth p q)) [] (height p q) (length-replicate {A = ℕ} (height p q) (breadth p q))

  range_second : (p q : Position) (m : MotionKind) (t : List A) → (range_deleted lf sp made t p q m).inverse.second ≡ []
  unfolding range_deleted chars_deleted lines_deleted chunks_deleted
  range_second p q Char t = refl
  range_second p q Lines t = refl
  range_second p q Block t = refl

  pub first_is : (e : Edit) (x : List A) (f s : List ℕ) (t : List A) (k : ℕ) → StartsAt lf e k t → (edited_by lf sp made e x f s t).inverse.first ≡ first_by e f k (steps_by lf sp made e x f s t)
  unfolding edited_by steps_by first_by StartsAt inserted replaced joined split block_inserted
  first_is (InsertChar p) x f s t k h = refl
  first_is (InsertStr p) x f s t k h = refl
  first_is (DeleteRange p q m) x f s t k h = range_first p q m t
  first_is (JoinLines r n b) x f s t k h =
      let row = get_or (lines lf t) (min r.0 (last_row lf t)) (line [] []) in
      rw h (cols_are made.space b (row_start lf t (min r.0 (last_row lf t))) row (take (max n 1) (drop (suc (min r.0 (last_row lf t))) (lines lf t))))
  first_is (SplitLines r) x f s t k h = refl
  first_is (Replace p q) x f s t k h = refl
  first_is (InsertBlock p) x f s t k h = refl
  first_is (DeleteBlockChunks p) x f s t k h = cut_first_lem t p f s (length f) refl

  pub second_is : (e : Edit) (x : List A) (f s : List ℕ) (t : List A) → (edited_by lf sp made e x f s t).inverse.second ≡ second_by e (length f) (steps_by lf sp made e x f s t)
  unfolding edited_by steps_by second_by inserted replaced joined split block_inserted chunks_deleted
  second_is (InsertChar p) x f s t = refl
  second_is (InsertStr p) x f s t = refl
  second_is (DeleteRange p q m) x f s t = range_second p q m t
  second_is (JoinLines r n b) x f s t =
      let j = min r.0 (last_row lf t) in
      let row = get_or (lines lf t) j (line [] []) in
      let ss = take (max n 1) (drop (suc j) (lines lf t)) in
      flags_are made.space b row (length row.body) ss ∙ sym (padded-ahead (row_start lf t j) (join_steps made.space b row (length row.body) ss))
  second_is (SplitLines r) x f s t = refl
  second_is (Replace p q) x f s t = refl
  second_is (InsertBlock p) x f s t =
      let rs = drop p.row.0 (lines lf t) in
      let ks = pieces f x in
      pads_are p.col.0 ks rs ∙ ap₂ {C = List ℕ} (λ n l. filled_up n l) (pieces-length f x) (sym (padded-ahead (row_start lf t p.row.0) (put_steps p.col.0 ks rs)))
  second_is (DeleteBlockChunks p) x f s t = refl

-- ---- how long they are

filled-long : (n : ℕ) (xs : List ℕ) → length (filled_up n xs) ≡ max n (length xs)
filled-long n xs = length-append xs (replicate (n - length xs) 0) ∙ omega (arith, length-replicate {A = ℕ} (n - length xs) 0)

module _ {A : Type 0} where
  range_long : (p q : Position) (m : MotionKind) (ss : List (Step A)) → length (first_by_range p q m ss) ≡ first_long_of_range p q m (length ss)
  unfolding first_by_range first_long_of_range
  range_long p q Char ss = refl
  range_long p q Lines ss = refl
  range_long p q Block ss = filled-long (height p q) (given_back ss) ∙ ap (max (height p q)) (given_long ss)

  pub first_long_lem : (e : Edit) (f : List ℕ) (k : ℕ) (ss : List (Step A)) → length (first_by e f k ss) ≡ first_long e (length f) (length ss)
  unfolding first_by first_long
  first_long_lem (InsertChar p) f k ss = refl
  first_long_lem (InsertStr p) f k ss = refl
  first_long_lem (DeleteRange p q m) f k ss = range_long p q m ss
  first_long_lem (JoinLines r n b) f k ss = length-map (places 0 ss) (λ (a : ℕ). a - k) ∙ places-long 0 ss
  first_long_lem (SplitLines r) f k ss = refl
  first_long_lem (Replace p q) f k ss = refl
  first_long_lem (InsertBlock p) f k ss = refl
  first_long_lem (DeleteBlockChunks p) f k ss = filled-long (length f) (given_back ss) ∙ ap (max (length f)) (given_long ss)

  pub second_long_lem : (e : Edit) (m : ℕ) (ss : List (Step A)) → length (second_by e m ss) ≡ second_long e m (length ss)
  unfolding second_by second_long
  second_long_lem (InsertChar p) m ss = refl
  second_long_lem (InsertStr p) m ss = refl
  second_long_lem (DeleteRange p q k) m ss = refl
  second_long_lem (JoinLines r n b) m ss = padded-long ss
  second_long_lem (SplitLines r) m ss = refl
  second_long_lem (Replace p q) m ss = refl
  second_long_lem (InsertBlock p) m ss = filled-long m (padded ss) ∙ ap (max m) (padded-long ss)
  second_long_lem (DeleteBlockChunks p) m ss = refl

module _ {A : Type 0} (lf sp : A → Bool) (made : Made A) where
  starts : (e : Edit) (t : List A) → (k : ℕ) × StartsAt lf e k t
  unfolding StartsAt
  starts (InsertChar p) t = (0, tt)
  starts (InsertStr p) t = (0, tt)
  starts (DeleteRange p q m) t = (0, tt)
  starts (JoinLines r n b) t = (row_start lf t (min r.0 (last_row lf t)), refl)
  starts (SplitLines r) t = (0, tt)
  starts (Replace p q) t = (0, tt)
  starts (InsertBlock p) t = (0, tt)
  starts (DeleteBlockChunks p) t = (0, tt)

  module _ (e : Edit) (x : List A) (f s : List ℕ) (t : List A) (n : ℕ) (ss : List (Step A)) (h : length ss ≡ n) (q : ss ≡ steps_by lf sp made e x f s t) where
    pub first_count : length (edited_by lf sp made e x f s t).inverse.first ≡ first_long e (length f) n
    first_count =
        let k = starts e t in
        ap length (first_is lf sp made e x f s t k.0 k.1) ∙ first_long_lem e f k.0 (steps_by lf sp made e x f s t) ∙ ap (first_long e (length f)) (sym (ap length q) ∙ h)

    pub second_count : length (edited_by lf sp made e x f s t).inverse.second ≡ second_long e (length f) n
    second_count = ap length (second_is lf sp made e x f s t) ∙ second_long_lem e (length f) (steps_by lf sp made e x f s t) ∙ ap (second_long e (length f)) (sym (ap length q) ∙ h)

    pub first_made : (k : ℕ) → StartsAt lf e k t → first_by e f k ss ≡ (edited_by lf sp made e x f s t).inverse.first
    first_made k w = ap (first_by e f k) q ∙ sym (first_is lf sp made e x f s t k w)

    pub second_made : second_by e (length f) ss ≡ (edited_by lf sp made e x f s t).inverse.second
    second_made = ap (second_by e (length f)) q ∙ sym (second_is lf sp made e x f s t)
