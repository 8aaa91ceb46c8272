-- From what the core promises to what C is told.
use mathlib.Core.Path.{◌≡◌, sym, ap, ap₂, ◌∙◌}
use mathlib.Core.Bool.{Bool}
use mathlib.Core.List.{List, []}
use Rattle.std.specs.Prelude.{Option, None, Some}
use Prim.Native.Nat.{ℕ}
use Rattle.promise.specs.Paper.{Paper, refused}
use Rattle.utf8.specs.Calls.{Outcome, outcome}
use Rattle.text.specs.declared.Position.{Position}
use Rattle.edit.specs.declared.View.{View}
use Rattle.edit.specs.declared.Applied.{Applied}
use Rattle.edit.specs.declared.Edit.{Edit}
use Rattle.edit.specs.Edits.{whole}
use Rattle.edit.specs.Call as edits
use Rattle.select.specs.declared.Sel.{Sel}
use Rattle.select.specs.declared.Selection.{Selection}
use Rattle.merge.specs.Call as merges
use Rattle.shift.specs.Answers.{Followed}
use Rattle.shift.specs.Call.{position_shifted, sel_shifted}
use Rattle.frame.specs.Format.{edit as edit_frame}
use Rattle.reader.specs.Calls.{Read, Filled, filled}
use Rattle.writer.specs.Calls.{written_into}
use Rattle.plain.specs.declared.Change.{Change}
use Rattle.plain.specs.declared.Count.{Count}
use Rattle.plain.specs.declared.EditLine.{EditLine}
use Rattle.plain.specs.declared.Found.{Found}
use Rattle.plain.specs.declared.Numbers.{Numbers}
use Rattle.plain.specs.declared.Said.{Said}
use Rattle.plain.specs.declared.SelFound.{SelFound}
use Rattle.plain.specs.Meanings.{item, meant, selections}
use Rattle.plain.specs.Told.{told_count, told_applied, not_found, no_sel, told_yes}
use Rattle.told.specs.Shifts.{told_shifted, told_sel_shifted}
use Rattle.told.specs.Lines.{told_read}
use Rattle.winchbarn.specs.Calls.{counted, Changed, changed, ChangedIn, changed_in, framed, told_into, told_merge, told_call, told_frame, of_kind, edit_call, edit_call_in, line_call, undoable_call, shift_call, sel_call}
use Rattle.std.specs.Prelude.{Some, None}

pub told_into_lem : (r : Count) (a : Paper ℕ) (o : List ℕ) (w : Outcome) → r ≡ told_count a → outcome a o ≡ w → counted r o ≡ told_into w
told_into_lem r a o w e q = ap (λ (c : Count). counted c o) e ∙ ap told_into q

pub told_merge_lem : (r : Count) (a : Paper ℕ) (o : List ℕ) (w : merges.Outcome) → r ≡ told_count a → merges.outcome a o ≡ w → counted r o ≡ told_merge w
told_merge_lem r a o w e q = ap (λ (c : Count). counted c o) e ∙ ap told_merge q

pub told_call_lem : (v : View) (r : Change) (a : Paper Applied) (t x f s : List ℕ) (w : edits.Outcome) → r ≡ told_applied v a → edits.outcome a t x f s ≡ w
    → changed r t x f s ≡ told_call v w
told_call_lem v r a t x f s w e q = ap (λ (c : Change). changed c t x f s) e ∙ ap (told_call v) q

-- the lent view, which the answer's takes the place of
pub told_in : (v : View) (n : Numbers) (l : edits.Lent) (r : Change) (w : View) (t x f s : List ℕ) → changed r t x f s ≡ edit_call v n l → w ≡ r.view
    → changed_in (changed r t x f s) w ≡ edit_call_in v n l
told_in v n l r w t x f s e k = ap₂ {C = ChangedIn} changed_in e (k ∙ ap (λ (c : Changed). c.answer.view) e)

pub told_frame_lem : (r : EditLine) (a : Paper Read) (x f s : List ℕ) (w : Filled) → r ≡ told_read a → filled a x f s ≡ w → framed r x f s ≡ told_frame w
told_frame_lem r a x f s w e q = ap (λ (c : EditLine). framed c x f s) e ∙ ap told_frame q

-- what is chosen by a kind
of_some : {A B : Type 0} (o : Option A) (b : B) (f : A → B) (a : A) → Some a ≡ o → f a ≡ of_kind o b f
of_some {A = A} o b f a q = ap (λ (x : Option A). of_kind x b f) q

of_none : {A B : Type 0} (o : Option A) (b : B) (f : A → B) → None ≡ o → b ≡ of_kind o b f
of_none {A = A} o b f q = ap (λ (x : Option A). of_kind x b f) q

-- ---- the numbers n meant m

module _ (n : Numbers) (m : Option Edit) (h : m ≡ meant n) where
  -- an edit e
  module _ (e : Edit) (q : m ≡ Some e) where
    it : Some e ≡ meant n
    it = sym q ∙ h

    pub edit_called : (v : View) (l : edits.Lent) (r : Change) (a : Paper Applied) (t x f s : List ℕ) → r ≡ told_applied v a
        → edits.outcome a t x f s ≡ edits.applied v e l → changed r t x f s ≡ edit_call v n l
    edit_called v l r a t x f s k w = told_call_lem v r a t x f s _ k (w ∙ of_some (meant n) _ (λ d. edits.applied v d l) e it)

    pub line-called : (x f s o : List ℕ) (r : Count) (a : Paper ℕ) (u : List ℕ) → r ≡ told_count a → outcome a u ≡ written_into (edit_frame (whole e x f s)) o
        → counted r u ≡ line_call n x f s o
    line-called x f s o r a u k w = told_into_lem r a u _ k (w ∙ of_some (meant n) _ (λ d. written_into (edit_frame (whole d x f s)) o) e it)

    pub undoable-called : (v : View) (b x f s : List ℕ) (r : Said) (a : Paper Bool) → r ≡ told_yes a
        → ((op of os : List ℕ) → a ≡ edits.undoable v e (edits.lent b x f s op of os)) → r ≡ undoable_call v n b x f s
    undoable-called v b x f s r a k w =
        k ∙ ap told_yes (w [] [] [] ∙ of_some (meant n) (refused 10 0) (λ d. edits.undoable v d (edits.lent b x f s [] [] [])) e it)

    pub shift_called : (b : List ℕ) (v : View) (x f s : List ℕ) (p : Position) (r : Found) (a : Paper (Followed Position)) → r ≡ told_shifted a
        → a ≡ position_shifted b v.used e x f s p → r ≡ shift_call b v n x f s p
    shift_called b v x f s p r a k w = k ∙ ap told_shifted (w ∙ of_some (meant n) (refused 10 0) (λ d. position_shifted b v.used d x f s p) e it)

    pub sel-called : (b : List ℕ) (v : View) (x f s : List ℕ) (l : Sel) (r : SelFound) (a : Paper (Followed Sel)) → r ≡ told_sel_shifted a
        → a ≡ sel_shifted b v.used e x f s l → r ≡ sel_call b v n x f s l
    sel-called b v x f s l r a k w = k ∙ ap told_sel_shifted (w ∙ of_some (meant n) (refused 10 0) (λ d. sel_shifted b v.used d x f s l) e it)

  -- nothing
  module _ (q : m ≡ None) where
    nothing : None ≡ meant n
    nothing = sym q ∙ h

    pub edit_kindless : (v : View) (l : edits.Lent) (r : Change) → r ≡ told_applied v (refused 10 0)
        → changed r l.buffer l.out_payload l.out_first l.out_second ≡ edit_call v n l
    edit_kindless v l r k = told_call_lem v r (refused 10 0) _ _ _ _ _ k (of_none (meant n) _ (λ d. edits.applied v d l) nothing)

    pub line-kindless : (x f s o : List ℕ) (r : Count) → r ≡ told_count (refused 10 0) → counted r o ≡ line_call n x f s o
    line-kindless x f s o r k = told_into_lem r (refused 10 0) o _ k (of_none (meant n) _ (λ d. written_into (edit_frame (whole d x f s)) o) nothing)

    pub undoable-kindless : (v : View) (b x f s : List ℕ) → told_yes (refused 10 0) ≡ undoable_call v n b x f s
    undoable-kindless v b x f s = ap told_yes (of_none (meant n) (refused 10 0) (λ d. edits.undoable v d (edits.lent b x f s [] [] [])) nothing)

    pub shift_kindless : (b : List ℕ) (v : View) (x f s : List ℕ) (p : Position) (r : Found) → r ≡ not_found 10 → r ≡ shift_call b v n x f s p
    shift_kindless b v x f s p r k = k ∙ ap told_shifted (of_none (meant n) (refused 10 0) (λ d. position_shifted b v.used d x f s p) nothing)

    pub sel-kindless : (b : List ℕ) (v : View) (x f s : List ℕ) (l : Sel) (r : SelFound) → r ≡ no_sel 10 → r ≡ sel_call b v n x f s l
    sel-kindless b v x f s l r k = k ∙ ap told_sel_shifted (of_none (meant n) (refused 10 0) (λ d. sel_shifted b v.used d x f s l) nothing)

-- ---- the kind k of a selection meant m: f of the selection, or b

module _ {A : Type 0} (k : ℕ) (l : Sel) (m : Option Selection) (h : m ≡ item (selections l) k) (r b : A) (f : Selection → A) where
  pub by_kind : (s : Selection) → m ≡ Some s → r ≡ f s → r ≡ of_kind (item (selections l) k) b f
  by_kind s q e = e ∙ of_some (item (selections l) k) b f s (sym q ∙ h)

  pub kindless : m ≡ None → r ≡ b → r ≡ of_kind (item (selections l) k) b f
  kindless q e = e ∙ of_none (item (selections l) k) b f (sym q ∙ h)
