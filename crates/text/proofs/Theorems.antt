-- The theorems that specs/Theorems.antt states.
use mathlib.Core.Bool.{Bool, true, false, cond}
use mathlib.Core.List.{[], ◌∷◌}
use mathlib.Core.Path.{◌≡◌, refl}
use Prim.Native.Nat.{suc, ◌+◌}
use native.Mathlib.Omega.{arith}
use Rattle.promise.specs.Paper.{Paper, done, refused}
use Rattle.promise.proofs.Settled.{settled}
use Rattle.text.specs.declared.Position.{Position}
use Rattle.text.specs.Rows.{row_count}
use Rattle.text.specs.Answers.{paper_clamped}
use Rattle.text.specs.Theorems.{RowsKeep, count_lf, RowsAreLFs, EndsAdd, AddingGroups, EndTake, OffsetEnd, RowsWeld, Renews, RenewsTwice, Settled}
use Rattle.text.proofs.Renewed.{renewed-text, renewed-length, renewed-twice}
use Rattle.text.proofs.Laws.{lines-append, count_lf_lem, count_other, count_none, unlines-lines, add-positions, end-append, offset-end, end_take}
use Rattle.std.specs.Prelude.{Result, Ok, Err}
use Rattle.utf8.specs.declared.BadText.{BadText}

pub rows-keep : RowsKeep
rows-keep A lf t = unlines-lines lf t

pub rows-are_lfs : RowsAreLFs
unfolding count_lf
rows-are_lfs A lf [] = count_none lf
rows-are_lfs A lf (x ∷ t) = go (lf x) refl (rows-are_lfs A lf t)
  where
    go : (b : Bool) → lf x ≡ b → row_count lf t ≡ count_lf lf t + 1 → row_count lf (x ∷ t) ≡ cond b (suc (count_lf lf t)) (count_lf lf t) + 1
    go true e ih = let k = count_lf_lem lf x t e in omega arith
    go false e ih = let k = count_other lf x t e in omega arith

pub rows-weld : RowsWeld
rows-weld A lf s u = lines-append lf s u

pub renews : Renews
renews b used u h k = (renewed-text b used u, renewed-length b used u h k)

pub renews_twice : RenewsTwice
renews_twice = renewed-twice

pub ends_add : EndsAdd
ends_add A lf s u = end-append lf s u

pub adding_groups : AddingGroups
adding_groups = add-positions

pub ends_take : EndTake
ends_take A lf t p = end_take lf t p

pub offsets_end : OffsetEnd
offsets_end A lf s u = offset-end lf s u

clamped_back : Paper Position → Result Position BadText
clamped_back (done p) = Ok p
clamped_back (refused n k) = Err (record {})

clamped_back_lem : (x : Result Position BadText) → clamped_back (paper_clamped x) ≡ x
unfolding clamped_back
clamped_back_lem (Ok p) = refl
clamped_back_lem (Err e) = refl

pub promises_settle : Settled
promises_settle = record { clamp_position = settled clamped_back clamped_back_lem }
