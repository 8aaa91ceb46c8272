-- Every edit over which marks stay has a shift that goes with it.
use mathlib.Core.Path.{◌≡◌, refl, sym, ◌∙◌}
use mathlib.Core.Bool.{Bool, true, not, ◌&&◌}
use mathlib.Core.List.{List, [], ◌∷◌, ◌++◌, map}
use Prim.Native.Nat.{ℕ}
use native.Mathlib.Omega.{arith}
use borrow.Author.Tests.{eqb-true}
use lib.Dec.{T, eqb}
use lib.ListN.{length, replicate}
use Rattle.promise.proofs.Bools.{both}
use Rattle.text.specs.declared.Position.{Position}
use Rattle.text.specs.Rows.{clamp, end_of}
use Rattle.text.specs.Text.{is_lf, admissible, all}
use Rattle.text.proofs.Broken.{Unbroken}
use Rattle.edit.specs.declared.MotionKind.{MotionKind}
use Rattle.edit.specs.declared.MotionKind.TheVariants.{Char, Line as Lines, Block}
use Rattle.edit.specs.declared.Edit.{Edit}
use Rattle.edit.specs.declared.Edit.TheVariants.{InsertChar, InsertStr, DeleteRange, JoinLines, SplitLines, Replace, InsertBlock, DeleteBlockChunks}
use Rattle.edit.specs.Edits.{Made, corner, height, breadth, range_deleted, edited_by}
use Rattle.edit.specs.Refusals.{is_space, payload_ok, sum}
use Rattle.edit.proofs.Maps.{map-length, map-clamp, map-end}
use Rattle.after.specs.After.{after_insert, after_delete_char, after_join, after_insert_block, after_delete_block_chunks}
use Rattle.after.proofs.Columns.{block_chunks}
use Rattle.shift.specs.Answers.{to}
use Rattle.shift.specs.Kinds.{after_delete, shifted}
use Rattle.shift.specs.Theorems.{FollowsRange}
use Rattle.letters.specs.Keeps.{Keeps}
use Rattle.letters.proofs.Carries.{Carries, carries_as}
use Rattle.letters.proofs.Flats.{carries_insert, carries_chars, carries_lines, carries_replace}
use Rattle.letters.proofs.Joins.{carries_join}
use Rattle.letters.proofs.Blocks.{carries_block_insert, carries_chunks}

-- elements have characters, and edits make some
module _ {A : Type 0} (v : A → ℕ) (made : Made A) where
  abbrev lf : A → Bool
  lf x = is_lf (v x)

  abbrev sp : A → Bool
  sp x = is_space (v x)

  -- edit e with payload X and lists f and s, of the text t
  pub record Goes (Free : A → Type 0) (t X : List A) (f s : List ℕ) (e : Edit) : Type 1 where
    pub by : Position → Position
    pub is : (p : Position) → shifted (map v t) e (map v X) f p ≡ to (by p)
    pub carries : Carries lf Free by t (edited_by lf sp made e X f s t).text

  unbroken_payload : (X : List A) → all (λ c. not (is_lf c)) (map v X) ≡ true → Unbroken lf X
  unfolding all
  unbroken_payload [] e = tt
  unbroken_payload (x ∷ X) e = let b = both (not (is_lf (v x))) (all (λ c. not (is_lf c)) (map v X)) e in rw b.0 (unbroken_payload X b.1)

  module _ {Free : A → Type 0} (lfs : (x : A) → lf x ≡ true → Free x) (dull-pad : T (not (lf made.pad))) (dull-space : T (not (lf made.space)))
      (padded : Free made.pad) (spaced : Free made.space) (t X : List A) (f s : List ℕ) (fresh : (u : List A) (x : A) (w : List A) → X ≡ u ++ x ∷ w → Free x) where
    same_end : end_of is_lf (map v X) ≡ end_of lf X
    same_end = map-end v lf is_lf (λ x. refl) X

    stands : (q : Position) → clamp is_lf (map v t) q ≡ q → clamp lf t q ≡ q
    stands q i = sym (map-clamp v lf is_lf (λ x. refl) t q) ∙ i

    goes_range : (a b : Position) (k : MotionKind) → FollowsRange (map v t) a b k → Carries lf Free (λ p. after_delete p a b k) t (range_deleted lf sp made t a b k).text
    unfolding range_deleted after_delete
    goes_range a b Char k = carries_chars lf lfs t a b (stands a k.0) (stands b k.1) k.2
    goes_range a b Lines k = carries_lines lf lfs t a b k
    goes_range a b Block k =
        carries_as lf (λ p. sym (block_chunks a b p)) refl (carries_chunks lf sp lfs made t (corner a b) (replicate (height a b) (breadth a b)) [] (λ k l. refl))

    pub goes : (e : Edit) → Keeps (map v t) e f s → payload_ok e (map v X) f ≡ true → Goes Free t X f s e
    unfolding edited_by shifted payload_ok
    goes (InsertChar q) k o = record { by = λ p. after_insert p q (map v X); is = λ p. refl; carries = carries_insert lf lfs t q X (map v X) same_end (stands q k) fresh }
    goes (InsertStr q) k o = record { by = λ p. after_insert p q (map v X); is = λ p. refl; carries = carries_insert lf lfs t q X (map v X) same_end (stands q k) fresh }
    goes (DeleteRange a b m) k o = record { by = λ p. after_delete p a b m; is = λ p. refl; carries = goes_range a b m k }
    goes (JoinLines r n b) k o =
        record { by = λ p. after_join p r.0 n b (map v t); is = λ p. refl; carries = carries_join v lf sp (λ x. refl) lfs made dull-space spaced t r.0 n b }
    goes (SplitLines r) k o = absurd k
    goes (Replace a b) k o =
        record {
          by = λ p. after_insert (after_delete_char p a b) a (map v X);
          is = λ p. refl;
          carries = carries_replace lf lfs t a b (stands a k.0) (stands b k.1) k.2 X (map v X) same_end fresh;
        }
    goes (InsertBlock q) k o =
        let g = both (all admissible (map v X) && all (λ c. not (is_lf c)) (map v X)) (eqb (sum f) (length (map v X))) o in
        let i = both (all admissible (map v X)) (all (λ c. not (is_lf c)) (map v X)) g.0 in
        record {
          by = λ p. after_insert_block p q f;
          is = λ p. refl;
          carries = carries_block_insert lf sp lfs made t dull-pad padded q X f (omega (arith, eqb-true (sum f) (length (map v X)) g.1, map-length v X)) (unbroken_payload X i.1) fresh;
        }
    goes (DeleteBlockChunks q) k o = record { by = λ p. after_delete_block_chunks p q f; is = λ p. refl; carries = carries_chunks lf sp lfs made t q f s k }
