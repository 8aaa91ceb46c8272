-- Document 02, request 6: over which edits marks stay on their letters, and where shifts composed carry a position.
use Rattle.std.specs.Prelude.{true, List, [], ◌∷◌, ◌≡◌, ℕ, ◌<◌, length, get_or}
use Rattle.text.specs.declared.Position.{Position}
use Rattle.edit.specs.declared.MotionKind.TheVariants.{Char}
use Rattle.edit.specs.declared.Edit.{Edit}
use Rattle.edit.specs.declared.Edit.TheVariants.{InsertChar, InsertStr, DeleteRange, JoinLines, SplitLines, Replace, InsertBlock, DeleteBlockChunks}
use Rattle.edit.specs.Edits.{Whole}
use Rattle.edit.specs.Refusals.{payload_ok}
use Rattle.edit.specs.Theorems.{Stands}
use Rattle.shift.specs.Answers.{Followed, to, dropped}
use Rattle.shift.specs.Kinds.{shifted}
use Rattle.shift.specs.Theorems.{FollowsRange}
use Rattle.origins.specs.Theorems.{edited_text}

-- "not SplitLines and not a DeleteBlockChunks with a pad above 0, whose ends are in order; every position it names is in the text, except
-- that a block edit may reach past row ends or the last row and a join's row may too". `FollowsRange` of `shift` is what is asked of a deleted range: of Char
-- both ends in the text and in order; of Line, which names rows alone, the rows in order, and less than the words have it, since they may lie past the last; of Block nothing. A pad behind the last
-- width is none.
-- The edit, with its first and its second list:
abbrev pub Keeps : List ℕ → Edit → List ℕ → List ℕ → Type 0
Keeps t (InsertChar q) f s = Stands t q
Keeps t (InsertStr q) f s = Stands t q
Keeps t (DeleteRange a b k) f s = FollowsRange t a b k
Keeps t (JoinLines r n b) f s = Unit {0}
Keeps t (SplitLines r) f s = ⊥
Keeps t (Replace a b) f s = FollowsRange t a b Char
Keeps t (InsertBlock q) f s = Unit {0}
Keeps t (DeleteBlockChunks q) f s = (k : ℕ) → k < length f → get_or s k 0 ≡ 0

-- what an accepted edit has beside: row 4 does not refuse it
abbrev pub KeepsWhole : List ℕ → Whole ℕ → Type 0
KeepsWhole t w = Keeps t w.edit w.first w.second × (payload_ok w.edit w.payload w.first ≡ true)

-- "runs of such edits", each of the text that those before it left
unfoldable pub KeepsRun : List ℕ → List (Whole ℕ) → Type 0
KeepsRun t [] = Unit {0}
KeepsRun t (w ∷ ws) = KeepsWhole t w × KeepsRun (edited_text w t) ws

-- "the shifts composed", each with the text before its edit
abbrev pub then_shifted : List ℕ → Whole ℕ → Followed Position → Followed Position
then_shifted t w (to p) = shifted t w.edit w.payload w.first p
then_shifted t w dropped = dropped

unfoldable pub shifted_over : List ℕ → List (Whole ℕ) → Followed Position → Followed Position
shifted_over t [] p = p
shifted_over t (w ∷ ws) p = shifted_over (edited_text w t) ws (then_shifted t w p)
