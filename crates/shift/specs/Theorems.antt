-- What is proved of shifts, beside that the code meets its promises. The proofs stand in proofs/Theorems.antt.
use Rattle.std.specs.Prelude.{Bool, true, false, List, [], ◌≡◌, ℕ, ◌≤◌, ◌<◌, replicate}
use Rattle.promise.specs.Settled.{Settles}
use Rattle.select.specs.declared.Sel.{Sel}
use Rattle.text.specs.declared.Position.{Position}
use Rattle.text.specs.declared.Row.{Row}
use Rattle.text.specs.Rows.{upto, last_row}
use Rattle.text.specs.Text.{is_lf}
use Rattle.edit.specs.declared.MotionKind.{MotionKind}
use Rattle.edit.specs.declared.MotionKind.TheVariants.{Char, Line as Lines, Block}
use Rattle.edit.specs.declared.Edit.{Edit}
use Rattle.edit.specs.declared.Edit.TheVariants.{InsertChar, InsertStr, DeleteRange, JoinLines, SplitLines, Replace, InsertBlock, DeleteBlockChunks}
use Rattle.edit.specs.Edits.{edited_by}
use Rattle.edit.specs.Refusals.{is_space, spaces, payload_ok}
use Rattle.edit.specs.Theorems.{Stands}
use Rattle.shift.specs.Answers.{to, dropped, paper_shifted, followed}
use Rattle.shift.specs.Kinds.{shifted}

-- p stays where it is over the edit
abbrev pub Stays : List ℕ → Edit → List ℕ → List ℕ → Position → Type 0
Stays t e x f p = shifted t e x f p ≡ to p

-- An insertion never moves a position before it; a block one none in a row above it or in a column before it.
pub record BeforeStays (t : List ℕ) (q p : Position) (x f : List ℕ) : Type 0 where
  pub insert_char : upto q p ≡ false → Stays t (InsertChar q) x f p
  pub insert_str : upto q p ≡ false → Stays t (InsertStr q) x f p
  pub insert_block_above : p.row.0 < q.row.0 → Stays t (InsertBlock q) x f p
  pub insert_block_before : p.col.0 < q.col.0 → Stays t (InsertBlock q) x f p

abbrev pub KeepsBefore : Type 0
KeepsBefore = (t : List ℕ) (q p : Position) (x f : List ℕ) → BeforeStays t q p x f

-- Nothing inserted, nothing cut between equal ends, no row to join, chunks and widths of 0: these move no position, be it in the text or not.
pub record NothingMoves (t : List ℕ) (p : Position) (x f : List ℕ) : Type 0 where
  pub insert_str : (q : Position) → Stays t (InsertStr q) [] f p
  pub delete_char : (q : Position) → Stays t (DeleteRange q q Char) x f p
  pub replace : (q : Position) → Stays t (Replace q q) [] f p
  pub join : (r : Row) (n : ℕ) (b : Bool) → last_row is_lf t ≤ r.0 → Stays t (JoinLines r n b) x f p
  pub insert_block : (q : Position) (n : ℕ) → Stays t (InsertBlock q) [] (replicate n 0) p
  pub delete_chunks : (q : Position) (n : ℕ) → Stays t (DeleteBlockChunks q) x (replicate n 0) p

abbrev pub Nothing : Type 0
Nothing = (t : List ℕ) (p : Position) (x f : List ℕ) → NothingMoves t p x f

-- An edit that changes nothing moves no position of the text: every kind but SplitLines, which drops, and two for which it is not so
-- (see `Moves` in Examples.antt): a Replace, and a Char delete with an end outside of the text. Ends are in order, as 6 has it, and
-- the payload is one that 4 does not refuse.
abbrev pub FollowsRange : List ℕ → Position → Position → MotionKind → Type 0
FollowsRange t a b Char = Stands t a × Stands t b × (upto a b ≡ true)
FollowsRange t a b Lines = a.row.0 ≤ b.row.0
FollowsRange t a b Block = Unit {0}

abbrev pub Follows : List ℕ → Edit → Type 0
Follows t (InsertChar q) = Unit {0}
Follows t (InsertStr q) = Unit {0}
Follows t (DeleteRange a b k) = FollowsRange t a b k
Follows t (JoinLines r n b) = Unit {0}
Follows t (SplitLines r) = ⊥
Follows t (Replace a b) = ⊥
Follows t (InsertBlock q) = Unit {0}
Follows t (DeleteBlockChunks q) = Unit {0}

abbrev pub Unchanged : List ℕ → Edit → List ℕ → List ℕ → List ℕ → Type 0
Unchanged t e x f s = (edited_by is_lf is_space spaces e x f s t).text ≡ t

abbrev pub UnchangedStays : Type 0
UnchangedStays =
    (t : List ℕ) (e : Edit) (x f s : List ℕ) (p : Position) → Follows t e → payload_ok e x f ≡ true → Unchanged t e x f s → Stands t p → Stays t e x f p

-- "SplitLines answers Dropped"
abbrev pub SplitDrops : Type 0
SplitDrops = (t : List ℕ) (r : Row) (x f : List ℕ) (p : Position) → shifted t (SplitLines r) x f p ≡ dropped

-- Each public promise settles its answer.
pub record Settled : Type 0 where
  pub shift_position : Settles (paper_shifted {A = Position})
  pub shift_sel : Settles (paper_shifted {A = Sel})
  pub carry_sel : Settles (followed {A = Sel})
