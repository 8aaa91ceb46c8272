-- What an inverse records of an edit's steps.
use mathlib.Core.List.{List, [], ◌++◌, map}
use Prim.Native.Nat.{ℕ, ◌-◌, ◌*◌, max}
use lib.ListN.{length, drop, get_or, replicate}
use Rattle.text.specs.declared.Position.{Position}
use Rattle.text.specs.Text.{is_lf}
use Rattle.edit.specs.declared.MotionKind.{MotionKind}
use Rattle.edit.specs.declared.MotionKind.TheVariants.{Char, Line as Lines, Block}
use Rattle.edit.specs.declared.Edit.{Edit}
use Rattle.edit.specs.declared.Edit.TheVariants.{InsertChar, InsertStr, DeleteRange, JoinLines, SplitLines, Replace, InsertBlock, DeleteBlockChunks}
use Rattle.edit.specs.Edits.{height}
use Rattle.steps.specs.Steps.{Step, given_back, padded, places, breaks_gone, breaks_come}
use Rattle.steps.specs.Numbers.{steps_of, cut_by, size_by}
use Rattle.recording.specs.declared.Five.{Five}
use Rattle.recording.specs.declared.Sums.{Sums}

-- the numbers of step i, with how much it gives back
abbrev pub five_at : List ℕ → ℕ → Five
five_at l i =
    let s = drop (5 * i) l in
    record { keep = get_or s 0 0; gone = get_or s 1 0; pad = get_or s 2 0; come = get_or s 3 0; back = get_or s 1 0 - get_or s 4 0 }

-- what the text t comes to by n steps in the slice l, with the payload x, where the edit makes v
abbrev pub sums_of : List ℕ → List ℕ → ℕ → ℕ → List ℕ → Sums
sums_of t l n v x =
    record { used = size_by n l 0 (length t); cut = cut_by n l; breaks_gone = breaks_gone is_lf (steps_of n l x) t; breaks_come = breaks_come is_lf v (steps_of n l x) }

-- a list with zeros behind it, up to n items: rows that the text does not have
abbrev pub filled_up : ℕ → List ℕ → List ℕ
filled_up n xs = xs ++ replicate (n - length xs) 0

module _ {A : Type 0} where
  -- where the steps stand in the row that starts at k
  abbrev pub columns : ℕ → List (Step A) → List ℕ
  columns k ss = map (λ (a : ℕ). a - k) (places 0 ss)

  unfoldable pub first_by_range : Position → Position → MotionKind → List (Step A) → List ℕ
  first_by_range p q Char ss = []
  first_by_range p q Lines ss = []
  first_by_range p q Block ss = filled_up (height p q) (given_back ss)

  -- the inverse's first list, of an edit with the first list f; a join's row starts at k
  unfoldable pub first_by : Edit → List ℕ → ℕ → List (Step A) → List ℕ
  first_by (InsertChar p) f k ss = []
  first_by (InsertStr p) f k ss = []
  first_by (DeleteRange p q m) f k ss = first_by_range p q m ss
  first_by (JoinLines r n b) f k ss = columns k ss
  first_by (SplitLines r) f k ss = []
  first_by (Replace p q) f k ss = []
  first_by (InsertBlock p) f k ss = f
  first_by (DeleteBlockChunks p) f k ss = filled_up (length f) (given_back ss)

  -- its second list, of an edit with m items in its first
  unfoldable pub second_by : Edit → ℕ → List (Step A) → List ℕ
  second_by (InsertChar p) m ss = []
  second_by (InsertStr p) m ss = []
  second_by (DeleteRange p q k) m ss = []
  second_by (JoinLines r n b) m ss = padded ss
  second_by (SplitLines r) m ss = []
  second_by (Replace p q) m ss = []
  second_by (InsertBlock p) m ss = filled_up m (padded ss)
  second_by (DeleteBlockChunks p) m ss = []

-- how long they are, of n steps of an edit with m items in its first list
unfoldable pub first_long_of_range : Position → Position → MotionKind → ℕ → ℕ
first_long_of_range p q Char n = 0
first_long_of_range p q Lines n = 0
first_long_of_range p q Block n = max (height p q) n

unfoldable pub first_long : Edit → ℕ → ℕ → ℕ
first_long (InsertChar p) m n = 0
first_long (InsertStr p) m n = 0
first_long (DeleteRange p q k) m n = first_long_of_range p q k n
first_long (JoinLines r c b) m n = n
first_long (SplitLines r) m n = 0
first_long (Replace p q) m n = 0
first_long (InsertBlock p) m n = m
first_long (DeleteBlockChunks p) m n = max m n

unfoldable pub second_long : Edit → ℕ → ℕ → ℕ
second_long (InsertChar p) m n = 0
second_long (InsertStr p) m n = 0
second_long (DeleteRange p q k) m n = 0
second_long (JoinLines r c b) m n = n
second_long (SplitLines r) m n = 0
second_long (Replace p q) m n = 0
second_long (InsertBlock p) m n = max m n
second_long (DeleteBlockChunks p) m n = 0
