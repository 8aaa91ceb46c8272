-- An edit resolved against a text: its steps in a slice, and what is known of its answer before anything is stored.
use mathlib.Core.Path.{◌≡◌}
use mathlib.Core.Bool.{Bool, cond}
use mathlib.Core.List.{List}
use Prim.Native.Nat.{ℕ, ◌*◌, ◌≤◌, min}
use lib.ListN.{length}
use Rattle.text.specs.Rows.{last_row, row_start, clamp}
use Rattle.text.specs.Text.{is_lf}
use Rattle.edit.specs.declared.Edit.{Edit}
use Rattle.edit.specs.declared.Edit.TheVariants.{InsertChar, InsertStr, DeleteRange, JoinLines, SplitLines, Replace, InsertBlock, DeleteBlockChunks}
use Rattle.edit.specs.Edits.{edited_by}
use Rattle.edit.specs.Refusals.{is_space, spaces, within_ok}
use Rattle.steps.specs.declared.Resolved.{Resolved}
use Rattle.steps.specs.Kinds.{steps_by, makes}
use Rattle.steps.specs.Numbers.{steps_of, come_by}

-- "the length before each join" counts from the start of the row that the others are joined to: it starts at k; nothing is asked of other kinds
unfoldable pub StartsAt : {A : Type 0} → (A → Bool) → Edit → ℕ → List A → Type 0
StartsAt lf (InsertChar p) k t = Unit {0}
StartsAt lf (InsertStr p) k t = Unit {0}
StartsAt lf (DeleteRange p q m) k t = Unit {0}
StartsAt lf (JoinLines r n b) k t = k ≡ row_start lf t (min r.0 (last_row lf t))
StartsAt lf (SplitLines r) k t = Unit {0}
StartsAt lf (Replace p q) k t = Unit {0}
StartsAt lf (InsertBlock p) k t = Unit {0}
StartsAt lf (DeleteBlockChunks p) k t = Unit {0}

-- r, with the steps in the slice l, is what the edit e with payload x and lists f and s comes to in the text t
pub record Resolves (r : Resolved) (l : List ℕ) (e : Edit) (x f s t : List ℕ) : Type 0 where
  pub few : r.steps ≤ 256
  pub numbers : 5 * r.steps ≤ length l
  pub come : come_by r.steps l ≤ length x
  pub steps : steps_of r.steps l x ≡ steps_by is_lf is_space spaces e x f s t
  pub made : r.made ≡ makes spaces e
  pub within : r.within ≡ within_ok t e f s
  pub inverse : r.inverse ≡ (edited_by is_lf is_space spaces e x f s t).inverse.edit
  pub first : r.first ≡ length (edited_by is_lf is_space spaces e x f s t).inverse.first
  pub second : r.second ≡ length (edited_by is_lf is_space spaces e x f s t).inverse.second
  pub start : StartsAt is_lf e r.start.0 t
  pub cursor : cond r.settled r.cursor (clamp is_lf (edited_by is_lf is_space spaces e x f s t).text r.cursor) ≡ (edited_by is_lf is_space spaces e x f s t).cursor
