-- What an accepted edit leaves is admitted again: edits do the same whatever their elements carry beside, also where each carries
-- that it is admissible.
use mathlib.Core.Path.{◌≡◌, refl, ap}
use mathlib.Core.Bool.{Bool, not, ◌&&◌}
use mathlib.Core.List.{List, [], ◌∷◌, map}
use Prim.Native.Nat.{ℕ}
use lib.Dec.{T, eqb}
use lib.ListN.{length}
use Rattle.promise.proofs.Bools.{T-both, T-left, T-right}
use Rattle.utf8.specs.Rfc3629.{scalar}
use Rattle.text.specs.Text.{is_lf, admissible, all}
use Rattle.edit.specs.declared.Edit.{Edit}
use Rattle.edit.specs.declared.Edit.TheVariants.{InsertChar, InsertStr, DeleteRange, JoinLines, SplitLines, Replace, InsertBlock, DeleteBlockChunks}
use Rattle.edit.specs.Edits.{Made, Edited, edited_by}
use Rattle.edit.specs.Refusals.{is_space, spaces, sum, payload_ok}
use Rattle.edit.proofs.Natural.{natural}

record Admitted : Type 0 where
  pub value : ℕ
  pub good : T (admissible value)

values : List Admitted → List ℕ
values l = map (λ (a : Admitted). a.value) l

carrying : (xs : List ℕ) → T (all admissible xs) → (l : List Admitted) × (values l ≡ xs)
unfolding all values
carrying [] h = ([], refl)
carrying (x ∷ xs) h =
    let r = carrying xs (T-right (admissible x) (all admissible xs) h) in
    (record { value = x; good = T-left (admissible x) (all admissible xs) h } ∷ r.0, ap (λ (t : List ℕ). x ∷ t) r.1)

all-values : (l : List Admitted) → T (all admissible (values l))
unfolding all values
all-values [] = tt
all-values (a ∷ l) = T-both (admissible a.value) (all admissible (values l)) a.good (all-values l)

blanks : Made Admitted
unfolding admissible scalar
blanks = record { pad = record { value = 32; good = tt }; space = record { value = 32; good = tt }; break = record { value = 10; good = tt } }

carried : (e : Edit) (x : List Admitted) (f s : List ℕ) (t : List Admitted) → T (all admissible (edited_by is_lf is_space spaces e (values x) f s (values t)).text)
unfolding values blanks
carried e x f s t =
    let lf : Admitted → Bool = λ a. is_lf a.value in
    let sp : Admitted → Bool = λ a. is_space a.value in
    let q = natural Admitted ℕ (λ a. a.value) lf sp is_lf is_space (λ a. refl) (λ a. refl) blanks e x f s t in
    rw (ap (λ (d : Edited ℕ). d.text) q) (all-values (edited_by lf sp blanks e x f s t).text)

all-edited : (e : Edit) (x f s t : List ℕ) → T (all admissible x) → T (all admissible t) → T (all admissible (edited_by is_lf is_space spaces e x f s t).text)
all-edited e x f s t h k =
    let a = carrying x h in
    let b = carrying t k in
    rw (a.1, b.1) at (carried e a.0 f s b.0)

pub edited-admitted : (e : Edit) (x f s t : List ℕ) → T (payload_ok e x f) → T (all admissible t) → T (all admissible (edited_by is_lf is_space spaces e x f s t).text)
unfolding payload_ok edited_by all
edited-admitted (InsertChar p) x f s t h k = all-edited (InsertChar p) x f s t (T-left (all admissible x) (eqb (length x) 1) h) k
edited-admitted (InsertStr p) x f s t h k = all-edited (InsertStr p) x f s t h k
edited-admitted (DeleteRange p q m) x f s t h k = all-edited (DeleteRange p q m) [] f s t tt k
edited-admitted (JoinLines r n b) x f s t h k = all-edited (JoinLines r n b) [] f s t tt k
edited-admitted (SplitLines r) x f s t h k = all-edited (SplitLines r) [] f s t tt k
edited-admitted (Replace p q) x f s t h k = all-edited (Replace p q) x f s t h k
edited-admitted (InsertBlock p) x f s t h k =
    let c = all (λ c. not (is_lf c)) x in
    all-edited (InsertBlock p) x f s t (T-left (all admissible x) c (T-left (all admissible x && c) (eqb (sum f) (length x)) h)) k
edited-admitted (DeleteBlockChunks p) x f s t h k = all-edited (DeleteBlockChunks p) [] f s t tt k
