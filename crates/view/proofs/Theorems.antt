-- The theorems that specs/Theorems.antt states.
use mathlib.Core.Bool.{Bool, true, false}
use mathlib.Core.List.{[]}
use mathlib.Core.Path.{◌≡◌, refl, ap}
use Rattle.promise.specs.Paper.{Paper, done, refused}
use Rattle.promise.proofs.Settled.{settled}
use Rattle.edit.specs.declared.Refusal.{Refusal}
use Rattle.edit.specs.declared.View.{View}
use Rattle.edit.specs.Call.{paper, lent, undoable}
use Rattle.edit.proofs.Theorems.{refusal_back, refusal_back_lem}
use Rattle.view.specs.Answers.{paper_cursor_set}
use Rattle.view.specs.Theorems.{Settled}
use Rattle.text.proofs.Theorems as text
use Rattle.std.specs.Prelude.{Result, Ok, Err}
use Rattle.utf8.specs.declared.BadText.{BadText}

undoable_back : Paper Bool → Result Bool Refusal
undoable_back (done true) = Ok true
undoable_back (done false) = Ok false
undoable_back (refused n k) = Err (refusal_back n k)

undoable-back : (x : Result Bool Refusal) → undoable_back (paper x) ≡ x
unfolding undoable_back
undoable-back (Ok true) = refl
undoable-back (Ok false) = refl
undoable-back (Err r) = ap (λ (r : Refusal). Err r) (refusal_back_lem r)

cursor_back : Paper View → Result View BadText
cursor_back (done v) = Ok v
cursor_back (refused n k) = Err (record {})

cursor_back_lem : (x : Result View BadText) → cursor_back (paper_cursor_set x) ≡ x
unfolding cursor_back
cursor_back_lem (Ok v) = refl
cursor_back_lem (Err e) = refl

pub promises_settle : Settled
promises_settle =
    record { undoable = λ b v e p f s x y h k. settled undoable_back undoable-back (undoable v e (lent b p f s [] [] [])) x y (h [] [] []) (k [] [] []); set_cursor = settled cursor_back cursor_back_lem; clamp_position = (text.promises_settle).clamp_position }
