-- A block insert is local: what stands from the end of the last row that gets a chunk on stays, and the rest does not depend on it.
use mathlib.Core.Path.{◌≡◌, refl, ap}
use mathlib.Core.List.{List, [], ◌∷◌, ◌++◌, append_assoc, append-nil}
use Prim.Native.Nat.{ℕ, suc, ◌+◌, ◌-◌, ◌≤◌}
use native.Mathlib.Numerals.{add-one}
use native.Mathlib.Omega.{arith}
use lib.ListN.{length, take, drop}
use lib.Seq.{take-length, drop-length}
use Rattle.text.specs.Rows.{Line, line, lines, unlines, row_count, last_row, row_start, row_end}
use Rattle.text.specs.Text.{is_lf}
use Rattle.text.proofs.Laws.{count_last}
use Rattle.text.proofs.Spots.{row_within}
use Rattle.text.proofs.Broken.{unlines-append}
use Rattle.text.proofs.Changes.{row_of}
use Rattle.text.proofs.Fronts.{bared, behind-front, front-count, front_above, front-from, whole_from, rows-between, front-start}
use Rattle.edit.specs.Edits.{put_all, pads_of, pieces, block_inserted}
use Rattle.blocks.specs.Blocks.{last_end}
use Rattle.blocks.proofs.Puts.{inserted}

pub end-next : (t : List ℕ) (r k e : ℕ) → e ≡ row_end is_lf t (r + k) → e ≡ last_end t r (k + 1)
end-next t r k e q = rw add-one q

-- ---- chunks for the rows A and one more

module _ (c : ℕ) (b a : List ℕ) (R : List (Line ℕ)) where
  put_local : (ns x : List ℕ) (A : List (Line ℕ)) → length ns ≡ suc (length A)
      → unlines (put_all 32 c (pieces ns x) (A ++ line b [] ∷ [])) ++ (a ++ unlines R) ≡ unlines (put_all 32 c (pieces ns x) (A ++ line b a ∷ R))
  unfolding put_all pieces unlines
  put_local [] x A e = absurd (omega arith)
  put_local (n ∷ []) x [] e = rw append-nil
  put_local (n ∷ m ∷ ns) x [] e = absurd (omega arith)
  put_local (n ∷ ns) x (z ∷ A) e = rw (← put_local ns (drop n x) A (omega arith)) (simp append_assoc)

  pads_local : (ns x : List ℕ) (A : List (Line ℕ)) → length ns ≡ suc (length A)
      → pads_of c (pieces ns x) (A ++ line b [] ∷ []) ≡ pads_of c (pieces ns x) (A ++ line b a ∷ R)
  unfolding pads_of pieces
  pads_local [] x A e = absurd (omega arith)
  pads_local (n ∷ []) x [] e = refl
  pads_local (n ∷ m ∷ ns) x [] e = absurd (omega arith)
  pads_local (n ∷ ns) x (z ∷ A) e = ap (◌∷◌ (c - length z.body)) (pads_local ns (drop n x) A (omega arith))

-- ---- the edit

pub record Local (t : List ℕ) (r c : ℕ) (x ns : List ℕ) (e : ℕ) : Type 0 where
  pub within : e ≤ length t
  pub rows : length ns ≤ row_count is_lf (take e t) - r
  pub start : row_start is_lf (take e t) r ≡ row_start is_lf t r
  pub text : (inserted (take e t) r c x ns).text ++ drop e t ≡ (inserted t r c x ns).text
  pub pads : (inserted (take e t) r c x ns).inverse.second ≡ (inserted t r c x ns).inverse.second

module _ (t : List ℕ) (r c k : ℕ) (x ns : List ℕ) (h : r + k ≤ last_row is_lf t) (l : length ns ≡ suc k) where
  abbrev A : List (Line ℕ)
  A = drop r (take (r + k) (lines is_lf t))

  abbrev z : Line ℕ
  z = row_of t (r + k)

  abbrev R : List (Line ℕ)
  R = drop (suc (r + k)) (lines is_lf t)

  abbrev e : ℕ
  e = row_end is_lf t (r + k)

  chunk_each : length ns ≡ suc (length A)
  chunk_each = omega (arith, rows-between t (r + k) h r (omega arith))

  some_text : (inserted (take e t) r c x ns).text ++ drop e t ≡ (inserted t r c x ns).text
  unfolding block_inserted
  some_text =
      rw (front_above t (r + k) h r (omega arith), front-from t (r + k) h r (omega arith), behind-front t (r + k) h, whole_from t (r + k) h r (omega arith), unlines-append (take r (lines is_lf t)) (put_all 32 c (pieces ns x) (A ++ bared z ∷ [])), unlines-append (take r (lines is_lf t)) (put_all 32 c (pieces ns x) (A ++ z ∷ R)), append_assoc (unlines (take r (lines is_lf t))), put_local c z.body z.after R ns x A chunk_each)

  some_pads : (inserted (take e t) r c x ns).inverse.second ≡ (inserted t r c x ns).inverse.second
  unfolding block_inserted
  some_pads = rw (front-from t (r + k) h r (omega arith), whole_from t (r + k) h r (omega arith)) (pads_local c z.body z.after R ns x A chunk_each)

  some_rows : length ns ≤ row_count is_lf (take e t) - r
  some_rows = omega (arith, front-count t (r + k) h)

pub local : (t : List ℕ) (r c : ℕ) (x ns : List ℕ) → length ns ≤ row_count is_lf t - r → Local t r c x ns (last_end t r (length ns))
local t r c x [] h = record { within = omega arith; rows = omega arith; start = rw take-length; text = rw (take-length, drop-length, append-nil); pads = rw take-length }
local t r c x (n ∷ ns) h =
    let j : r + length ns ≤ last_row is_lf t = omega (arith, count_last is_lf t) in
    record {
      within = row_within is_lf t (r + length ns);
      rows = some_rows t r c (length ns) x (n ∷ ns) j refl;
      start = front-start t (r + length ns) j r (omega arith);
      text = some_text t r c (length ns) x (n ∷ ns) j refl;
      pads = some_pads t r c (length ns) x (n ∷ ns) j refl;
    }
