-- The theorems that specs/Theorems.antt states.
use mathlib.Core.Path.{◌≡◌, refl, ap, ◌∙◌, sym}
use mathlib.Core.Bool.{◌&&◌, not}
use mathlib.Core.List.{List}
use Prim.Native.Nat.{ℕ}
use borrow.Author.Tests.{eqb-true}
use lib.Dec.{eqb}
use lib.ListN.{length}
use Rattle.promise.specs.Paper.{Paper, done, refused}
use Rattle.promise.proofs.Bools.{both}
use Rattle.promise.proofs.Settled.{settled}
use Rattle.text.specs.declared.Position.{Position}
use Rattle.text.specs.Text.{is_lf, admissible, all}
use Rattle.edit.specs.declared.MotionKind.{MotionKind}
use Rattle.edit.specs.declared.MotionKind.TheVariants.{Char, Line as Lines, Block}
use Rattle.edit.specs.declared.Edit.TheVariants.{InsertChar, InsertStr, DeleteRange, JoinLines, SplitLines, Replace, InsertBlock, DeleteBlockChunks}
use Rattle.edit.specs.declared.Refusal.{Refusal}
use Rattle.edit.specs.Edits.{range_deleted, edited_by}
use Rattle.edit.specs.Refusals.{is_space, spaces, sum, payload_ok}
use Rattle.edit.specs.Theorems.{Stands}
use Rattle.edit.proofs.Theorems.{refusal_back, refusal_back_lem}
use Rattle.select.specs.declared.Sel.{Sel}
use Rattle.shift.specs.Answers.{Followed, to, dropped, paper_shifted, followed}
use Rattle.after.specs.After.{after_delete_char}
use Rattle.shift.specs.Kinds.{after_delete, shifted}
use Rattle.shift.specs.Theorems.{KeepsBefore, Nothing, FollowsRange, UnchangedStays, SplitDrops, Settled}
use Rattle.after.proofs.Inserts.{insert-before}
use Rattle.shift.proofs.Still.{insert_block_above, insert_block_before, insert-nothing, delete_nothing, join-nothing, insert-block_nothing, delete_chunks_nothing}
use Rattle.shift.proofs.Unchanged.{insert-unchanged, chars_unchanged, lines-unchanged}
use Rattle.shift.proofs.UnchangedRows.{join-unchanged, insert-block_unchanged, delete_chunks_unchanged, block_unchanged}
use Rattle.std.specs.Prelude.{Result, Ok, Err, Option, Some, None}

stays : {p q : Position} → q ≡ p → to q ≡ to p
stays e = ap (λ (x : Position). to x) e

pub keeps_before : KeepsBefore
unfolding shifted
keeps_before t q p x f = record {
  insert_char = λ e. stays (sym (insert-before p q x e));
  insert_str = λ e. stays (sym (insert-before p q x e));
  insert_block_above = λ h. stays (insert_block_above p q f h);
  insert_block_before = λ h. stays (insert_block_before p q f h);
}

pub nothing : Nothing
unfolding shifted after_delete
nothing t p x f = record {
  insert_str = λ q. stays (insert-nothing p q);
  delete_char = λ q. stays (delete_nothing p q);
  replace = λ q. stays (insert-nothing (after_delete_char p q q) q ∙ delete_nothing p q);
  join = λ r n b h. stays (join-nothing p r.0 n b t h);
  insert_block = λ q n. stays (insert-block_nothing p q n);
  delete_chunks = λ q n. stays (delete_chunks_nothing p q n);
}

range_stays : (t : List ℕ) (a b : Position) (k : MotionKind) (p : Position) → FollowsRange t a b k → (range_deleted is_lf is_space spaces t a b k).text ≡ t → Stands t p → after_delete p a b k ≡ p
unfolding after_delete range_deleted
range_stays t a b Char p h e c = chars_unchanged t p a b h.0 h.1 h.2 e
range_stays t a b Lines p h e c = lines-unchanged t p a b c h e
range_stays t a b Block p h e c = block_unchanged t p a b c e

pub unchanged_stays : UnchangedStays
unfolding shifted edited_by payload_ok
unchanged_stays t (InsertChar q) x f s p h k e c = stays (insert-unchanged t p q x e)
unchanged_stays t (InsertStr q) x f s p h k e c = stays (insert-unchanged t p q x e)
unchanged_stays t (DeleteRange a b m) x f s p h k e c = stays (range_stays t a b m p h e c)
unchanged_stays t (JoinLines r n b) x f s p h k e c = stays (join-unchanged t p r.0 n b e)
unchanged_stays t (SplitLines r) x f s p h k e c = absurd h
unchanged_stays t (Replace a b) x f s p h k e c = absurd h
unchanged_stays t (InsertBlock q) x f s p h k e c =
    stays (insert-block_unchanged t p q x f c (eqb-true _ _ (both (all admissible x && all (λ c. not (is_lf c)) x) (eqb (sum f) (length x)) k).1) e)
unchanged_stays t (DeleteBlockChunks q) x f s p h k e c = stays (delete_chunks_unchanged t p q f s c e)

pub split-drops : SplitDrops
unfolding shifted
split-drops t r x f p = refl

shifted_back : Paper (Followed Position) → Result (Option Position) Refusal
shifted_back (done (to p)) = Ok (Some p)
shifted_back (done dropped) = Ok None
shifted_back (refused n k) = Err (refusal_back n k)

shifted_back_lem : (x : Result (Option Position) Refusal) → shifted_back (paper_shifted x) ≡ x
unfolding shifted_back
shifted_back_lem (Ok (Some p)) = refl
shifted_back_lem (Ok None) = refl
shifted_back_lem (Err r) = ap (λ (r : Refusal). Err r) (refusal_back_lem r)

sel_back : Paper (Followed Sel) → Result (Option Sel) Refusal
sel_back (done (to s)) = Ok (Some s)
sel_back (done dropped) = Ok None
sel_back (refused n k) = Err (refusal_back n k)

sel-back : (x : Result (Option Sel) Refusal) → sel_back (paper_shifted x) ≡ x
unfolding sel_back
sel-back (Ok (Some s)) = refl
sel-back (Ok None) = refl
sel-back (Err r) = ap (λ (r : Refusal). Err r) (refusal_back_lem r)

carried_back : Followed Sel → Option Sel
carried_back (to s) = Some s
carried_back dropped = None

carried-back : (x : Option Sel) → carried_back (followed x) ≡ x
unfolding carried_back
carried-back (Some s) = refl
carried-back None = refl

pub promises_settle : Settled
promises_settle = record { shift_position = settled shifted_back shifted_back_lem; shift_sel = settled sel_back sel-back; carry_sel = settled carried_back carried-back }
