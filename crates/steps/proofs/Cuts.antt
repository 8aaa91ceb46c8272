-- What an inverse gives back is what its steps cut.
use mathlib.Core.Path.{◌≡◌, refl, sym, ap, ◌∙◌}
use mathlib.Core.Bool.{Bool}
use mathlib.Core.List.{List, [], ◌∷◌, ◌++◌, flatten, append_assoc, append-nil}
use Prim.Native.Nat.{ℕ, ◌+◌, ◌-◌, ◌≤◌, min}
use native.Mathlib.Nat.{add-zero, sub-zero, min-eq_left}
use native.Mathlib.Decide.{dec_le}
use native.Mathlib.Omega.{arith}
use lib.ListN.{length, take, drop, get_or, replicate, length-drop, drop_of_length-le}
use lib.Seq.{slice, take-nil, take-append-le, drop-append-le, drop-append-add}
use Rattle.text.specs.declared.Position.{Position}
use Rattle.text.specs.Rows.{Line, lines, unlines, row_start}
use Rattle.edit.specs.declared.MotionKind.{MotionKind}
use Rattle.edit.specs.declared.MotionKind.TheVariants.{Char, Line as Lines, Block}
use Rattle.edit.specs.declared.Edit.{Edit}
use Rattle.edit.specs.declared.Edit.TheVariants.{InsertChar, InsertStr, DeleteRange, JoinLines, SplitLines, Replace, InsertBlock, DeleteBlockChunks}
use Rattle.edit.specs.Edits.{Made, join_next, pieces, chunks_of, cut_from, cut_to, corner, height, breadth, inserted, chars_deleted, lines_deleted, replaced, joined, split, block_inserted, chunks_deleted, range_deleted, edited_by}
use Rattle.steps.specs.Steps.{Step, step, ahead, cut_of}
use Rattle.steps.specs.Kinds.{join_steps, put_steps, cut_steps, behind, split_steps, chunk_steps, range_steps, steps_by}
use Rattle.promise.proofs.Lists.{drop-take, take_min}
use Rattle.steps.proofs.Laws.{drop_min, rows_whole}

parts : (a k e : ℕ) → a ≤ k → k ≤ e → ((e - a) - (k - a) ≡ e - k) × (a + (k - a) ≡ k) × (a + (e - a) ≡ e)
parts a k e h j = (omega arith, omega arith, omega arith)

module _ {A : Type 0} where
  cut_ahead : (a t : List A) (n : ℕ) (ss : List (Step A)) → length a ≡ n → cut_of (ahead n ss) (a ++ t) ≡ cut_of ss t
  unfolding cut_of ahead
  cut_ahead a t n [] e = refl
  cut_ahead a t n (s ∷ ss) e =
      let m₁ : n + s.keep + s.lost ≡ n + (s.keep + s.lost) = omega arith in
      let m₂ : n + s.keep + s.gone ≡ n + (s.keep + s.gone) = omega arith in
      let q₁ : drop (n + s.keep + s.lost) (a ++ t) ≡ drop (s.keep + s.lost) t = rw (m₁, ← e) (drop-append-add a t (s.keep + s.lost)) in
      let q₂ : drop (n + s.keep + s.gone) (a ++ t) ≡ drop (s.keep + s.gone) t = rw (m₂, ← e) (drop-append-add a t (s.keep + s.gone)) in
      rw (q₁, q₂)

  -- ---- steps that give nothing back

  unfoldable Lossy : List (Step A) → Type 0
  Lossy [] = Unit {0}
  Lossy (s ∷ ss) = (s.gone ≤ s.lost) × Lossy ss

  lossy_cut : (ss : List (Step A)) (t : List A) → Lossy ss → cut_of ss t ≡ []
  unfolding cut_of Lossy
  lossy_cut [] t h = refl
  lossy_cut (s ∷ ss) t h = let z : s.gone - s.lost ≡ 0 = omega (arith, h.0) in rw z (lossy_cut ss (drop (s.keep + s.gone) t) h.1)

  lossy_ahead : (n : ℕ) (ss : List (Step A)) → Lossy ss → Lossy (ahead n ss)
  unfolding ahead Lossy
  lossy_ahead n [] h = tt
  lossy_ahead n (s ∷ ss) h = h

  put-lossy : (c : ℕ) (ks : List (List A)) (rs : List (Line A)) → Lossy (put_steps c ks rs)
  unfolding put_steps Lossy
  put-lossy c [] rs = tt
  put-lossy c (k ∷ ks) [] = tt
  put-lossy c (k ∷ ks) (r ∷ rs) = (omega arith, lossy_ahead (length (drop c r.body ++ r.after)) (put_steps c ks rs) (put-lossy c ks rs))

  join-lossy : (space : A) (b : Bool) (r : Line A) (k : ℕ) (ss : List (Line A)) → Lossy (join_steps space b r k ss)
  unfolding join_steps Lossy
  join-lossy space b r k [] = tt
  join-lossy space b r k (s ∷ ss) = (omega arith, join-lossy space b (join_next space b r s) (length s.body) ss)

  -- ---- chunks

  row_part : (b z : List A) (c w : ℕ) → take (min (c + w) (length b) - min c (length b)) (drop (min c (length b)) (b ++ z)) ≡ take w (drop c b)
  row_part b z c w = elim (dec_le c (length b)) [ yes h ↦ inside h | no h ↦ past (omega arith) ]
    where
      inside : c ≤ length b → take (min (c + w) (length b) - min c (length b)) (drop (min c (length b)) (b ++ z)) ≡ take w (drop c b)
      inside h =
          let d : length (drop c b) ≡ length b - c = length-drop c b in
          let m : min (c + w) (length b) - c ≡ min w (length (drop c b)) = omega (arith, d) in
          rw (min-eq_left h, drop-append-le c b z h, m, take-append-le (min w (length (drop c b))) (drop c b) z (omega arith)) (sym (take_min w (drop c b)))

      past : length b ≤ c → take (min (c + w) (length b) - min c (length b)) (drop (min c (length b)) (b ++ z)) ≡ take w (drop c b)
      past h =
          let m : min (c + w) (length b) - min c (length b) ≡ 0 = omega arith in
          rw (m, drop_of_length-le b {i = c} h, take-nil)

  cut_chunks : (c : ℕ) (ws ds : List ℕ) (rs : List (Line A)) → cut_of (cut_steps c ws ds rs) (unlines rs) ≡ flatten (chunks_of c ws rs)
  unfolding cut_of cut_steps chunks_of unlines flatten
  cut_chunks c [] ds rs = refl
  cut_chunks c (w ∷ ws) ds [] = none ws
    where
      none : (vs : List ℕ) → [] ≡ flatten (chunks_of {A = A} c vs [])
      none [] = refl
      none (v ∷ vs) = none vs
  cut_chunks c (w ∷ ws) ds (r ∷ rs) =
      let b = r.body in
      let n : ℕ = length b in
      let a : ℕ = min (c - get_or ds 0 0) n in
      let k : ℕ = min c n in
      let e : ℕ = min (c + w) n in
      let R = cut_steps c ws (drop 1 ds) rs in
      let P = parts a k e (omega arith) (omega arith) in
      let he : e ≤ n = omega arith in
      let q : drop e (b ++ (r.after ++ unlines rs)) ≡ (drop e b ++ r.after) ++ unlines rs = drop-append-le e b (r.after ++ unlines rs) he ∙ sym (append_assoc (drop e b) r.after (unlines rs)) in
      let l : length (drop e b ++ r.after) ≡ length (drop (c + w) b ++ r.after) = rw (drop_min (c + w) b) in
      let i : cut_of (ahead (length (drop (c + w) b ++ r.after)) R) (drop e (b ++ (r.after ++ unlines rs))) ≡ flatten (chunks_of c ws rs) = rw q (cut_ahead (drop e b ++ r.after) (unlines rs) (length (drop (c + w) b ++ r.after)) R l ∙ cut_chunks c ws (drop 1 ds) rs) in
      rw (P.0, P.1, P.2, i, row_part b (r.after ++ unlines rs) c w)

module _ {A : Type 0} (lf sp : A → Bool) (made : Made A) where
  lossy_behind : (n : ℕ) (ss : List (Step A)) → Lossy ss → Lossy (behind n ss)
  unfolding behind Lossy
  lossy_behind n [] h = tt
  lossy_behind n (s ∷ ss) h = h

  split-lossy : (b : List A) (cs fs : List ℕ) → Lossy (split_steps lf sp made b cs fs)
  unfolding split_steps Lossy
  split-lossy b [] fs = tt
  split-lossy b (c ∷ cs) fs = (omega arith, lossy_behind _ (split_steps lf sp made b cs (drop 1 fs)) (split-lossy b cs (drop 1 fs)))

  -- one cut
  cut_slice : (t : List A) (a e : ℕ) (ss : List (Step A)) (x : List A) → Lossy ss → cut_of (step a (e - a) 0 0 x ∷ ss) t ≡ slice a e t
  unfolding cut_of
  cut_slice t a e ss x h = rw (lossy_cut ss (drop (a + (e - a)) t) h, sub-zero (e - a), add-zero a, append-nil (take (e - a) (drop a t))) (sym (drop-take a e t))

  cut_from_lem : (t : List A) (r : ℕ) (ss : List (Step A)) → cut_of (ahead (row_start lf t r) ss) t ≡ cut_of ss (unlines (drop r (lines lf t)))
  unfolding row_start
  cut_from_lem t r ss =
      let L = lines lf t in
      ap (cut_of (ahead (length (unlines (take r L))) ss)) (sym (rows_whole lf t r)) ∙ cut_ahead (unlines (take r L)) (unlines (drop r L)) (length (unlines (take r L))) ss refl

  cut_block : (t : List A) (p : Position) (ws ds : List ℕ) → cut_of (chunk_steps lf t p ws ds) t ≡ (chunks_deleted lf sp made t p ws ds).inverse.payload
  unfolding chunks_deleted
  cut_block t p ws ds = cut_from_lem t p.row.0 _ ∙ cut_chunks p.col.0 ws ds (drop p.row.0 (lines lf t))

  cut_range : (p q : Position) (k : MotionKind) (t : List A) → cut_of (range_steps lf sp made p q k t) t ≡ (range_deleted lf sp made t p q k).inverse.payload
  unfolding range_steps range_deleted chars_deleted lines_deleted Lossy
  cut_range p q Char t = cut_slice t (cut_from lf t p q) (cut_to lf t p q) [] [] tt
  cut_range p q Lines t = cut_slice t _ _ [] [] tt
  cut_range p q Block t = cut_block t (corner p q) (replicate (height p q) (breadth p q)) []

  pub steps_cut : (e : Edit) (x : List A) (f s : List ℕ) (t : List A) → cut_of (steps_by lf sp made e x f s t) t ≡ (edited_by lf sp made e x f s t).inverse.payload
  unfolding edited_by steps_by inserted replaced joined split block_inserted Lossy
  steps_cut (InsertChar p) x f s t = lossy_cut _ t (omega arith, tt)
  steps_cut (InsertStr p) x f s t = lossy_cut _ t (omega arith, tt)
  steps_cut (DeleteRange p q k) x f s t = cut_range p q k t
  steps_cut (JoinLines r n b) x f s t = lossy_cut _ t (lossy_ahead _ _ (join-lossy made.space b _ _ _))
  steps_cut (SplitLines r) x f s t = lossy_cut _ t (lossy_ahead _ _ (split-lossy _ f s))
  steps_cut (Replace p q) x f s t = cut_slice t (cut_from lf t p q) (cut_to lf t p q) _ [] (omega arith, tt)
  steps_cut (InsertBlock p) x f s t = lossy_cut _ t (lossy_ahead _ _ (put-lossy p.col.0 (pieces f x) (drop p.row.0 (lines lf t))))
  steps_cut (DeleteBlockChunks p) x f s t = cut_block t p f s
