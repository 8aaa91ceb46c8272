-- What the edits of one step come to, from what is found in the text.
use mathlib.Core.Path.{◌≡◌, refl, ap, ◌∙◌}
use mathlib.Core.Bool.{true}
use mathlib.Core.List.{List, ◌∷◌, ◌++◌}
use Prim.Native.Nat.{ℕ, ◌-◌, ◌≤◌, min, max}
use native.Mathlib.Omega.{arith}
use lib.ListN.{length, take, drop}
use lib.Seq.{take-length}
use Rattle.text.specs.declared.Position.{Position}
use Rattle.text.specs.declared.Place.{Place}
use Rattle.text.specs.Rows.{◌⊕◌, at, earlier, later, char_at, last_row, row_len, clamp, offset, place, end_of}
use Rattle.text.specs.Text.{is_lf}
use Rattle.text.proofs.Laws.{end-append, end_take}
use Rattle.text.proofs.Spots.{offset-le}
use Rattle.edit.specs.declared.MotionKind.TheVariants.{Char, Line as Lines}
use Rattle.edit.specs.declared.Edit.TheVariants.{InsertStr, DeleteRange}
use Rattle.edit.specs.Edits.{inserted, chars_deleted, lines_deleted, range_deleted, edited_by}
use Rattle.edit.specs.Refusals.{is_space, spaces, within_ok}
use Rattle.steps.specs.declared.Resolved.{Resolved}
use Rattle.steps.specs.Kinds.{range_steps, steps_by, makes}
use Rattle.steps.specs.Numbers.{steps_of, come_by}
use Rattle.steps.specs.Resolves.{StartsAt, Resolves}
use Rattle.steps.proofs.Flats.{line-order}
use Rattle.steps.proofs.Passes.{line-to}
use Rattle.single.specs.declared.Cut.{Cut}
use Rattle.single.specs.declared.LineCut.{LineCut}
use Rattle.single.specs.Cuts.{cut_resolved, char_cut, line_cut}

module _ (t x f s l : List ℕ) (p : Position) where
  abbrev pub inserting : Position → Position → Resolved
  inserting b e =
      record { steps = 1; made = 32; within = true; inverse = DeleteRange b e Char; first = 0; second = 0; start = char_at 0; cursor = e; settled = true }

  pub insert-resolves : (g : Place) (e : Position) (k n : ℕ) (l' : List ℕ) → g ≡ place is_lf t p → e ≡ g.pos ⊕ end_of is_lf x → k ≡ g.at.0 → n ≡ length x → 5 ≤ length l → l' ≡ k ∷ 0 ∷ 0 ∷ n ∷ 0 ∷ drop 5 l
      → Resolves (inserting g.pos e) l' (InsertStr p) x f s t
  unfolding steps_of come_by steps_by makes within_ok edited_by inserted StartsAt
  insert-resolves g e k n l' eg ee ek en h el =
      let c : e ≡ end_of is_lf (take (offset is_lf t p) t ++ x) = rw (ee, eg, end-append is_lf (take (offset is_lf t p) t) x, end_take is_lf t p) in
      record {
        few = omega arith;
        numbers = rw el (omega arith);
        come = rw (el, en) (omega arith);
        steps = rw (el, ek, en, take-length x, eg);
        made = refl;
        within = refl;
        inverse = rw (c, eg);
        first = refl;
        second = refl;
        start = tt;
        cursor = c;
      }

module _ (t : List ℕ) (p q : Position) where
  pub chars_within : (g : Cut) → g ≡ char_cut t p q → (g.start.0 ≤ g.end.0) × (g.end.0 ≤ length t)
  chars_within g e = rw e (omega arith, omega (arith, offset-le is_lf t (earlier p q), offset-le is_lf t (later p q)))

  pub lines-within : (g : LineCut) → g ≡ line_cut t p.row.0 q.row.0 → (g.cut.start.0 ≤ g.cut.end.0) × (g.cut.end.0 ≤ length t)
  lines-within g e =
      let lo : ℕ = min (min p.row.0 q.row.0) (last_row is_lf t) in
      let hi : ℕ = min (max p.row.0 q.row.0) (last_row is_lf t) in
      rw e (line-order is_lf t lo hi (omega arith) (omega arith), line-to is_lf t hi)

first_column : (t : List ℕ) (n : ℕ) → clamp is_lf t (at n 0) ≡ at (min n (last_row is_lf t)) 0
unfolding clamp
first_column t n = let r : ℕ = min n (last_row is_lf t) in let z : min 0 (row_len is_lf t r) ≡ 0 = omega arith in ap (at r) z

module _ (t x f s l : List ℕ) (p q : Position) (l' : List ℕ) (r : Resolved) where
  pub chars_resolve : (b : Position) (g : Cut) → b ≡ earlier p q → g ≡ char_cut t p q → l' ≡ g.start.0 ∷ (g.end.0 - g.start.0) ∷ 0 ∷ 0 ∷ 0 ∷ drop 5 l → r ≡ cut_resolved b b
      → Resolves r l' (DeleteRange p q Char) x f s t
  unfolding steps_of come_by steps_by range_steps makes within_ok edited_by range_deleted chars_deleted StartsAt
  chars_resolve b g eb eg el er =
      rw er record {
        few = omega arith;
        numbers = rw el (omega arith);
        come = rw el (omega arith);
        steps = rw (el, eg);
        made = refl;
        within = refl;
        inverse = rw eb;
        first = refl;
        second = refl;
        start = tt;
        cursor = rw eb;
      }

  pub lines-resolve : (g : LineCut) → g ≡ line_cut t p.row.0 q.row.0 → l' ≡ g.cut.start.0 ∷ (g.cut.end.0 - g.cut.start.0) ∷ 0 ∷ 0 ∷ 0 ∷ drop 5 l → r ≡ cut_resolved g.back (at g.lo.0 0)
      → Resolves r l' (DeleteRange p q Lines) x f s t
  unfolding steps_of come_by steps_by range_steps makes within_ok edited_by range_deleted lines_deleted StartsAt
  lines-resolve g eg el er =
      rw er record {
        few = omega arith;
        numbers = rw el (omega arith);
        come = rw el (omega arith);
        steps = rw (el, eg);
        made = refl;
        within = refl;
        inverse = rw eg;
        first = refl;
        second = refl;
        start = tt;
        cursor = first_column (edited_by is_lf is_space spaces (DeleteRange p q Lines) x f s t).text g.lo.0 ∙ rw eg;
      }
