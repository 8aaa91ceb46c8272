-- What is proved of these definitions, beside that the code meets them. The proofs stand in proofs/Theorems.antt.
use Rattle.std.specs.Prelude.{Bool, cond, List, [], ◌∷◌, ◌++◌, ◌≡◌, ℕ, suc, ◌+◌, ◌≤◌, max, length, take}
use Rattle.promise.specs.Settled.{Settles}
use Rattle.text.specs.declared.Position.{Position}
use Rattle.text.specs.Rows.{Line, line, lines, unlines, ◌⊕◌, row_count, clamp, offset, end_of}
use Rattle.text.specs.Text.{renewed}
use Rattle.text.specs.Answers.{paper_clamped}

-- Rows lose no element and make none.
abbrev pub RowsKeep : Type 1
RowsKeep = (A : Type 0) (lf : A → Bool) (t : List A) → unlines (lines lf t) ≡ t

-- "Rows = LF count + 1"
unfoldable pub count_lf : {A : Type 0} → (A → Bool) → List A → ℕ
count_lf lf [] = 0
count_lf lf (x ∷ t) = cond (lf x) (suc (count_lf lf t)) (count_lf lf t)

abbrev pub RowsAreLFs : Type 1
RowsAreLFs = (A : Type 0) (lf : A → Bool) (t : List A) → row_count lf t ≡ count_lf lf t + 1

-- The rows of two texts, one after the other: the last of the first runs on into the first of the second.
unfoldable pub weld : {A : Type 0} → List (Line A) → List (Line A) → List (Line A)
weld [] ys = ys
weld (x ∷ []) [] = x ∷ []
weld (x ∷ []) (y ∷ ys) = line (x.body ++ y.body) y.after ∷ ys
weld (x ∷ x' ∷ xs) ys = x ∷ weld (x' ∷ xs) ys

abbrev pub RowsWeld : Type 1
RowsWeld = (A : Type 0) (lf : A → Bool) (s u : List A) → lines lf (s ++ u) ≡ weld (lines lf s) (lines lf u)

-- Where texts end adds up, in any grouping.
abbrev pub EndsAdd : Type 1
EndsAdd = (A : Type 0) (lf : A → Bool) (s u : List A) → end_of lf (s ++ u) ≡ end_of lf s ⊕ end_of lf u

abbrev pub AddingGroups : Type 0
AddingGroups = (p q r : Position) → (p ⊕ q) ⊕ r ≡ p ⊕ (q ⊕ r)

-- Offsets and positions are two names of one place: what stands before an offset ends at the position, clamped, and a
-- front's end has the offset of its length.
abbrev pub EndTake : Type 1
EndTake = (A : Type 0) (lf : A → Bool) (t : List A) (p : Position) → end_of lf (take (offset lf t p) t) ≡ clamp lf t p

abbrev pub OffsetEnd : Type 1
OffsetEnd = (A : Type 0) (lf : A → Bool) (s u : List A) → offset lf (s ++ u) (end_of lf s) ≡ length s

-- A buffer whose text was renewed holds that text, and is as long as it was.
abbrev pub Renews : Type 0
Renews =
    (buffer : List ℕ) (used : ℕ) (u : List ℕ) → used ≤ length buffer → length u ≤ length buffer
    → (take (length u) (renewed buffer used u) ≡ u) × (length (renewed buffer used u) ≡ length buffer)

-- Renewed once more, it holds what it would have held at once, unless the text in between was the longest.
abbrev pub RenewsTwice : Type 0
RenewsTwice =
    (buffer : List ℕ) (used : ℕ) (u w : List ℕ) → length u ≤ max used (length w) → used ≤ length buffer → length w ≤ length buffer
    → renewed (renewed buffer used u) (length u) w ≡ renewed buffer used w

-- The public promise settles its answer. (Those of the other functions are equations for the answer itself.)
pub record Settled : Type 0 where
  pub clamp_position : Settles paper_clamped
