-- The theorems of specs/Theorems.antt that are not proved beside their laws.
use mathlib.Core.Path.{◌≡◌, refl, sym, ◌∙◌, ap, subst}
use mathlib.Core.Bool.{Bool, true, false, cond}
use mathlib.Core.List.{List, [], ◌∷◌}
use Prim.Native.Nat.{ℕ, zero, suc, ◌+◌, ◌≤◌, ◌<◌}
use native.Mathlib.Omega.{arith}
use borrow.Author.Tests.{eq-eqb}
use lib.Dec.{T, eqb, leb, leb→le, le→leb}
use lib.ListN.{length, take, drop, get_or}
use Rattle.promise.specs.Paper.{Paper, done, refused}
use Rattle.promise.proofs.Settled.{settled}
use Rattle.text.specs.declared.Position.{Position}
use Rattle.text.specs.Rows.{Line, line, lines, earlier, row_count, last_row, row_len, clamp, in_text}
use Rattle.text.specs.Text.{is_lf}
use Rattle.text.proofs.Laws.{count_pos}
use Rattle.edit.specs.declared.MotionKind.TheVariants.{Char, Line as Lines, Block}
use Rattle.edit.specs.declared.Edit.{Edit}
use Rattle.edit.specs.declared.Edit.TheVariants.{InsertChar, InsertStr, DeleteRange, JoinLines, SplitLines, Replace, InsertBlock, DeleteBlockChunks}
use Rattle.edit.specs.declared.Refusal.TheVariants.{BadText, TooBig, TooMany, BadPayload, BadUtf8, Reversed, BeyondRow, NoRoom, NoRecord, BadFrame}
use Rattle.edit.specs.declared.Refusal.{Refusal}
use Rattle.edit.specs.declared.Applied.{Applied}
use Rattle.edit.specs.Edits.{corner, height}
use Rattle.edit.specs.Refusals.{wide}
use Rattle.edit.specs.Call.{paper, number_of, offset_of, first_of, text_of, given_tests, range_undoable, is_undoable, undoable}
use Rattle.edit.specs.Theorems.{Stands, RangeCondition, Condition, UndoableExactly, AnswerSettled}
use Rattle.promise.proofs.Bools.{T_true, T-both, T-left, T-right}
use Rattle.edit.proofs.Undo.{in_text_lem}
use Rattle.std.specs.Prelude.{Result, Ok, Err}

-- ---- undoable

stands_in : (t : List ℕ) (p : Position) → Stands t p → T (in_text is_lf t p)
unfolding in_text
stands_in t p e =
    T-both (eqb (clamp is_lf t p).row.0 p.row.0) (eqb (clamp is_lf t p).col.0 p.col.0)
    (rw (eq-eqb (clamp is_lf t p).row.0 p.row.0 (ap (λ (x : Position). x.row.0) e)) tt) (rw (eq-eqb (clamp is_lf t p).col.0 p.col.0 (ap (λ (x : Position). x.col.0) e)) tt)

-- the rows from j on, m of them
Wide : ℕ → ℕ → ℕ → List (Line ℕ) → Type 0
Wide c m j R = (r : ℕ) → j ≤ r → r < j + m → r < length R → c ≤ length (get_or R r (line [] [])).body

wide_rows : (c m j : ℕ) (R : List (Line ℕ)) → T (wide c (take m (drop j R))) → Wide c m j R
unfolding wide Wide
wide_rows c m zero [] h r a b k = absurd (omega arith)
wide_rows c zero zero (x ∷ R) h r a b k = absurd (omega arith)
wide_rows c (suc m) zero (x ∷ R) h zero a b k = leb→le c (length x.body) (T-left (leb c (length x.body)) (wide c (take m R)) h)
wide_rows c (suc m) zero (x ∷ R) h (suc r) a b k =
    wide_rows c m zero R (T-right (leb c (length x.body)) (wide c (take m R)) h) r (omega arith) (omega arith) (omega arith)
wide_rows c m (suc j) [] h r a b k = absurd (omega arith)
wide_rows c m (suc j) (x ∷ R) h zero a b k = absurd (omega arith)
wide_rows c m (suc j) (x ∷ R) h (suc r) a b k = wide_rows c m j R h r (omega arith) (omega arith) (omega arith)

rows-wide : (c m j : ℕ) (R : List (Line ℕ)) → Wide c m j R → T (wide c (take m (drop j R)))
unfolding wide Wide
rows-wide c zero j R h = tt
rows-wide c (suc m) zero [] h = tt
rows-wide c (suc m) zero (x ∷ R) h =
    T-both (leb c (length x.body)) (wide c (take m R)) (le→leb c (length x.body) (h 0 (omega arith) (omega arith) (omega arith)))
    (rows-wide c m zero R (λ r a b k. h (suc r) (omega arith) (omega arith) (omega arith)))
rows-wide c (suc m) (suc j) [] h = tt
rows-wide c (suc m) (suc j) (x ∷ R) h = rows-wide c (suc m) j R (λ r a b k. h (suc r) (omega arith) (omega arith) (omega arith))

block_condition : (t : List ℕ) (p q : Position) → T (range_undoable t p q Block) → RangeCondition t p q Block
unfolding range_undoable Wide last_row row_count row_len
block_condition t p q h r a b k =
    wide_rows (corner p q).col.0 (height p q) (corner p q).row.0 (lines is_lf t) h r a (omega arith) (omega (arith, count_pos is_lf t))

condition_block : (t : List ℕ) (p q : Position) → RangeCondition t p q Block → T (range_undoable t p q Block)
unfolding range_undoable Wide last_row row_count row_len
condition_block t p q h = rows-wide (corner p q).col.0 (height p q) (corner p q).row.0 (lines is_lf t) (λ r a b k. h r a (omega arith) (omega arith))

conditions : (t : List ℕ) (e : Edit) → (T (is_undoable t e) → Condition t e) × (Condition t e → T (is_undoable t e))
unfolding is_undoable range_undoable
conditions t (InsertChar p) = (λ h. tt, λ h. tt)
conditions t (InsertStr p) = (λ h. tt, λ h. tt)
conditions t (DeleteRange p q Char) = (in_text_lem t (earlier p q), stands_in t (earlier p q))
conditions t (DeleteRange p q Lines) = (λ h. tt, λ h. tt)
conditions t (DeleteRange p q Block) = (block_condition t p q, condition_block t p q)
conditions t (JoinLines r n b) = (λ h. tt, λ h. tt)
conditions t (SplitLines r) = (λ h. h, λ h. h)
conditions t (Replace p q) = (in_text_lem t (earlier p q), stands_in t (earlier p q))
conditions t (InsertBlock p) = (λ h. tt, λ h. tt)
conditions t (DeleteBlockChunks p) = (λ h. h, λ h. h)

-- tests let every answer through, or refuse whatever it is
data First (xs : List (Bool × Refusal)) : Type 0 where
  lets : ((z : Paper Bool) → first_of xs z ≡ z) → First xs
  stops : (n k : ℕ) → ((z : Paper Bool) → first_of xs z ≡ refused n k) → First xs

first : (xs : List (Bool × Refusal)) → First xs
unfolding first_of
first [] = lets (λ z. refl)
first (x ∷ xs) = go x.0 refl (first xs)
  where
    go : (c : Bool) → x.0 ≡ c → First xs → First (x ∷ xs)
    go true q f = stops (number_of x.1) (offset_of x.1) (λ z. rw q)
    go false q (lets h) = lets (λ z. rw q (h z))
    go false q (stops n k h) = stops n k (λ z. rw q (h z))

not-both : {b : Bool} {n k : ℕ} → refused n k ≡ done b → ⊥
not-both e = let z : true ≡ false = cc in subst T z tt

through : (xs : List (Bool × Refusal)) (b : Bool) → First xs → first_of xs (done b) ≡ done true → (first_of xs (done true) ≡ done true) × T b
through xs b (lets h) e =
    let q : done b ≡ done true = sym (h (done b)) ∙ e in
    let z : true ≡ b = cc in
    (h (done true), subst T z tt)
through xs b (stops n k h) e = absurd (not-both (sym (h (done b)) ∙ e))

given_any : (xs : List (Bool × Refusal)) (b : Bool) → First xs → first_of xs (done true) ≡ done true → first_of xs (done b) ≡ done b
given_any xs b (lets h) e = h (done b)
given_any xs b (stops n k h) e = absurd (not-both (sym (h (done true)) ∙ e))

refused_first : (xs : List (Bool × Refusal)) (b : Bool) (n k : ℕ) → First xs → first_of xs (done true) ≡ refused n k → first_of xs (done b) ≡ refused n k
refused_first xs b n k (lets h) e = absurd (not-both (sym e ∙ h (done true)))
refused_first xs b n k (stops m j h) e = h (done b) ∙ sym (h (done true)) ∙ e

no_false : (b : Bool) → (T b → ⊥) → b ≡ false
no_false true h = absurd (h tt)
no_false false h = refl

pub undoable-exactly : UndoableExactly
unfolding undoable
undoable-exactly v e l =
    let b = is_undoable (text_of v l) e in
    let c = conditions (text_of v l) e in
    let f = first (given_tests v e l) in
    let any = given_any (given_tests v e l) b f in
    record {
      yes = λ g h. any g ∙ ap {B = Paper Bool} (λ x. done x) (T_true b (c.1 h));
      no = λ g h. any g ∙ ap {B = Paper Bool} (λ x. done x) (no_false b (λ y. h (c.0 y)));
      only_yes = λ h. let g = through (given_tests v e l) b f h in (g.0, c.0 g.1);
      refuses = λ n k h. refused_first (given_tests v e l) b n k f h;
    }

-- ---- answers

pub refusal_back : ℕ → ℕ → Refusal
refusal_back n k =
    cond (eqb n 1) BadText
    (cond (eqb n 2) TooBig
    (cond (eqb n 3) TooMany
    (cond (eqb n 4) BadPayload
    (cond (eqb n 5) (BadUtf8 (record { 0 = k }))
    (cond (eqb n 6) Reversed
    (cond (eqb n 7) BeyondRow
    (cond (eqb n 8) NoRoom
    (cond (eqb n 9) NoRecord BadFrame))))))))

pub answer_back : Paper Applied → Result Applied Refusal
answer_back (done a) = Ok a
answer_back (refused n k) = Err (refusal_back n k)

pub refusal_back_lem : (r : Refusal) → refusal_back (number_of r) (offset_of r) ≡ r
unfolding refusal_back
refusal_back_lem BadText = refl
refusal_back_lem TooBig = refl
refusal_back_lem TooMany = refl
refusal_back_lem BadPayload = refl
refusal_back_lem (BadUtf8 at) = refl
refusal_back_lem Reversed = refl
refusal_back_lem BeyondRow = refl
refusal_back_lem NoRoom = refl
refusal_back_lem NoRecord = refl
refusal_back_lem BadFrame = refl

pub answer_back_lem : (x : Result Applied Refusal) → answer_back (paper x) ≡ x
unfolding answer_back
answer_back_lem (Ok a) = refl
answer_back_lem (Err r) = ap (λ (r : Refusal). Err r) (refusal_back_lem r)

pub answer_settled : AnswerSettled
answer_settled = settled answer_back answer_back_lem
