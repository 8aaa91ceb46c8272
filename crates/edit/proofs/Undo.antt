-- Demand 3 on texts: every kind by itself, then runs.
use mathlib.Core.Path.{◌≡◌, refl, sym, ◌∙◌, ap, ap₂, subst}
use mathlib.Core.List.{List, [], ◌∷◌, ◌++◌, reverse, reverse-cons, reverse-append}
use Prim.Native.Nat.{ℕ}
use lib.ListN.{length}
use lib.Dec.{T, eqb, eqb→eq}
use Rattle.text.specs.declared.Position.{Position}
use Rattle.text.specs.Rows.{at, earlier, clamp, in_text}
use Rattle.text.specs.Text.{is_lf, admissible, all}
use Rattle.edit.specs.declared.MotionKind.TheVariants.{Char, Line as Lines, Block}
use Rattle.edit.specs.declared.Edit.{Edit}
use Rattle.edit.specs.declared.Edit.TheVariants.{InsertChar, InsertStr, DeleteRange, JoinLines, SplitLines, Replace, InsertBlock, DeleteBlockChunks}
use Rattle.edit.specs.Edits.{Whole, whole, range_deleted, edited_by}
use Rattle.edit.specs.Refusals.{few_ok, payload_ok}
use Rattle.edit.specs.Call.{range_undoable, is_undoable}
use Rattle.edit.specs.Runs.{Run, stop, step, edits, inverses, stages}
use Rattle.promise.proofs.Bools.{T-left, T-right}
use Rattle.edit.proofs.Accepted.{doing, Fine, Step, Back}
use Rattle.edit.proofs.Flats.{back_insert, back_chars, back_lines, back_replace}
use Rattle.edit.proofs.Joins.{back_join}
use Rattle.edit.proofs.Blocks.{back_block_insert, back_block_delete}

-- ---- one edit

pub in_text_lem : (t : List ℕ) (p : Position) → T (in_text is_lf t p) → clamp is_lf t p ≡ p
unfolding in_text
in_text_lem t p h =
    let a : (clamp is_lf t p).row.0 ≡ p.row.0 = eqb→eq _ _ (T-left (eqb (clamp is_lf t p).row.0 p.row.0) (eqb (clamp is_lf t p).col.0 p.col.0) h) in
    let b : (clamp is_lf t p).col.0 ≡ p.col.0 = eqb→eq _ _ (T-right (eqb (clamp is_lf t p).row.0 p.row.0) (eqb (clamp is_lf t p).col.0 p.col.0) h) in
    ap₂ at a b

one : (n : ℕ) (t : List ℕ) (e : Edit) (x f s : List ℕ) → Fine n t (whole e x f s) → T (is_undoable t e) → Back n t (doing (whole e x f s) t).text (doing (whole e x f s) t).inverse
unfolding edited_by range_deleted is_undoable range_undoable few_ok payload_ok
one n t (InsertStr p) x f s g u = back_insert n t g.textual p x g.payloads g.rooms
one n t (InsertChar p) x f s g u = back_insert n t g.textual p x (T-left (all admissible x) (eqb (length x) 1) g.payloads) g.rooms
one n t (DeleteRange p q Char) x f s g u = back_chars n t g.textual p q (in_text_lem t (earlier p q) u) g.rooms
one n t (DeleteRange p q Lines) x f s g u = back_lines n t g.textual p q g.rooms
one n t (DeleteRange p q Block) x f s g u = back_block_delete n t p q x f s g u
one n t (JoinLines r m b) x f s g u = back_join n t g.textual r m b g.fews g.rooms
one n t (SplitLines r) x f s g u = absurd u
one n t (Replace p q) x f s g u = back_replace n t g.textual p q x (in_text_lem t (earlier p q) u) g.payloads g.rooms
one n t (InsertBlock p) x f s g u = back_block_insert n t p x f s g
one n t (DeleteBlockChunks p) x f s g u = absurd u

-- an accepted edit that is undoable at that moment
abbrev pub Good : ℕ → List ℕ → Whole ℕ → List ℕ → Whole ℕ → Type 0
Good n t w u i = Step n t w u i × T (is_undoable t w.edit)

step_back : (n : ℕ) (t : List ℕ) (w : Whole ℕ) (u : List ℕ) (i : Whole ℕ) → Good n t w u i → Back n t u i
step_back n t w u i h =
    subst (λ (v : List ℕ). Back n t v i) h.0.text
    (subst (λ (j : Whole ℕ). Back n t (doing w t).text j) h.0.inverse (one n t w.edit w.payload w.first w.second h.0.fine h.1))

-- ---- runs

module _ {S E : Type 0} where
  module _ {Step : S → E → S → E → Type 0} where
    snoc : {s u w : S} {e i : E} → Run Step s u → Step u e w i → Run Step s w
    snoc stop k = step k stop
    snoc (step h r) k = step h (snoc r k)

    edits-snoc : {s u w : S} {e i : E} (r : Run Step s u) (k : Step u e w i) → edits (snoc r k) ≡ edits r ++ (e ∷ [])
    unfolding edits snoc
    edits-snoc stop k = refl
    edits-snoc (step {e = e} h r) k = ap {B = List E} (λ l. e ∷ l) (edits-snoc r k)

    inverses-snoc : {s u w : S} {e i : E} (r : Run Step s u) (k : Step u e w i) → inverses (snoc r k) ≡ inverses r ++ (i ∷ [])
    unfolding inverses snoc
    inverses-snoc stop k = refl
    inverses-snoc (step {i = i} h r) k = ap {B = List E} (λ l. i ∷ l) (inverses-snoc r k)

    stages-snoc : {s u w : S} {e i : E} (r : Run Step s u) (k : Step u e w i) → stages (snoc r k) ≡ stages r ++ (w ∷ [])
    unfolding stages snoc
    stages-snoc stop k = refl
    stages-snoc (step {s = s} h r) k = ap {B = List S} (λ l. s ∷ l) (stages-snoc r k)

  -- a run whose steps are read as steps of another sort
  module _ {Step : S → E → S → E → Type 0} (Other : S → E → S → E → Type 0) where
    pub record Alike {s w : S} (r : Run Step s w) : Type 0 where
      pub run : Run Other s w
      pub same_edits : edits run ≡ edits r
      pub same_inverses : inverses run ≡ inverses r
      pub same_stages : stages run ≡ stages r

    unfoldable pub alike : ((s : S) (e : E) (u : S) (i : E) → Step s e u i → Other s e u i) → {s w : S} (r : Run Step s w) → Alike r
    unfolding edits inverses stages
    alike f stop = record { run = stop; same_edits = refl; same_inverses = refl; same_stages = refl }
    alike f (step {s = s} {u = u} {e = e} {i = i} h r) =
        let d = alike f r in
        record {
          run = step (f s e u i h) d.run;
          same_edits = ap {B = List E} (λ l. e ∷ l) d.same_edits;
          same_inverses = ap {B = List E} (λ l. i ∷ l) d.same_inverses;
          same_stages = ap {B = List S} (λ l. s ∷ l) d.same_stages;
        }

  module _ (Good Step : S → E → S → E → Type 0) where
    -- back through the very states of a run, and through them again
    pub record Retraced {s w : S} (r : Run Good s w) : Type 0 where
      pub back : Run Step w s
      pub back_edits : edits back ≡ reverse (inverses r)
      pub back_stages : stages back ≡ reverse (stages r)
      pub again : Run Step s w
      pub again_edits : edits again ≡ reverse (inverses back)
      pub again_stages : stages again ≡ stages r

    retraced : ((s : S) (e : E) (u : S) (i : E) → Good s e u i → (k : E) × (l : E) × Step u i s k × Step s k u l) → {s w : S} (r : Run Good s w) → Retraced r
    unfolding edits inverses stages
    retraced one stop = record { back = stop; back_edits = refl; back_stages = refl; again = stop; again_edits = refl; again_stages = refl }
    retraced one (step {s = s} {u = u} {e = e} {i = i} h r) =
        let b = one s e u i h in
        let d = retraced one r in
        record {
          back = snoc d.back b.2;
          back_edits = edits-snoc d.back b.2 ∙ ap (λ (l : List E). l ++ (i ∷ [])) d.back_edits ∙ sym (reverse-cons i (inverses r));
          back_stages = stages-snoc d.back b.2 ∙ ap (λ (l : List S). l ++ (s ∷ [])) d.back_stages ∙ sym (reverse-cons s (stages r));
          again = step b.3 d.again;
          again_edits = ap {B = List E} (λ l. b.0 ∷ l) d.again_edits ∙ sym (reverse-append (inverses d.back) (b.0 ∷ [])) ∙ ap reverse (sym (inverses-snoc d.back b.2));
          again_stages = ap {B = List S} (λ l. s ∷ l) d.again_stages;
        }

pub undone_texts : (n : ℕ) {t w : List ℕ} (r : Run (Good n) t w) → Retraced (Good n) (Step n) r
undone_texts n r = retraced (Good n) (Step n) (step_back n) r
