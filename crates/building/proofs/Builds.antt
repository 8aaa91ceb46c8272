-- The steps of a block insertion, row by row.
use mathlib.Core.Path.{◌≡◌, refl, sym, ap, ◌∙◌}
use mathlib.Core.Logic.{◌≢◌}
use mathlib.Core.Bool.{Bool, true, false, cond}
use mathlib.Core.List.{List, [], ◌∷◌, ◌++◌}
use Prim.Native.Nat.{ℕ, suc, ◌+◌, ◌-◌, ◌≤◌, ◌<◌, min}
use native.Mathlib.Numerals.{add-one}
use native.Mathlib.Omega.{arith}
use lib.ListN.{length, take, drop, get_or, length-append, length-drop, drop_of_length-le}
use lib.Seq.{drop-cons}
use Rattle.promise.proofs.Lists.{tail_whole}
use Rattle.text.specs.Rows.{Line, line, onto, lines, row_len}
use Rattle.text.specs.Text.{is_lf}
use Rattle.edit.specs.Edits.{pieces}
use Rattle.edit.specs.Refusals.{sum}
use Rattle.edit.proofs.Sums.{sum-at}
use Rattle.steps.specs.Steps.{Step, step, ahead}
use Rattle.steps.specs.Numbers.{steps_of, come_by}
use Rattle.steps.specs.Kinds.{put_steps}
use Rattle.building.proofs.Fives.{behind_five, no_steps, none_come, first_step, first_comes, next_steps, next_come}

-- the first row of a text: the last one too, or followed by the rows behind its LF
pub record First (t : List ℕ) (n : ℕ) : Type 0 where
  pub body : List ℕ
  pub after : List ℕ
  pub below : List (Line ℕ)
  pub is : lines is_lf t ≡ line body after ∷ below
  pub long : length body ≡ n
  pub only : length t ≤ n → below ≡ []
  pub ended : n < length t → (length after ≡ 1) × (below ≡ lines is_lf (drop (n + 1) t))

pub first_row : (t : List ℕ) (n : ℕ) → n ≡ row_len is_lf t 0 → First t n
unfolding lines onto row_len
first_row [] n e = record { body = []; after = []; below = []; is = refl; long = sym e; only = λ h. refl; ended = λ h. absurd (omega arith) }
first_row (x ∷ t) n e = go (is_lf x) refl n e (first_row t (row_len is_lf t 0) refl)
  where
    go : (b : Bool) → is_lf x ≡ b → (n : ℕ) → n ≡ length (get_or (cond b (line [] (x ∷ []) ∷ lines is_lf t) (onto x (lines is_lf t))) 0 (line [] [])).body → First t (row_len is_lf t 0) → First (x ∷ t) n
    go true q n e F =
        let z : n ≡ 0 = e in
        record { body = []; after = x ∷ []; below = lines is_lf t; is = rw q; long = sym e; only = λ h. absurd (omega arith); ended = λ h. (refl, rw z) }
    go false q n e F =
        let m : ℕ = row_len is_lf t 0 in
        let k : n ≡ suc m = (rw F.is at e) ∙ ap suc F.long in
        record {
          body = x ∷ F.body;
          after = F.after;
          below = F.below;
          is = rw (q, F.is);
          long = ap suc F.long ∙ sym k;
          only = λ h. F.only (omega arith);
          ended = λ h. let d = F.ended (omega arith) in (d.0, d.1 ∙ (let j : n ≡ m + 1 = omega arith in ap (λ (i : ℕ). lines is_lf (drop i t)) (sym j) ∙ rw (add-one n)));
        }

pub puts_none : (c : ℕ) (ks : List (List ℕ)) → put_steps c ks [] ≡ []
unfolding put_steps
puts_none c [] = refl
puts_none c (k ∷ ks) = refl

-- what `put_steps` promises of its answer r and the slice that it leaves
abbrev pub Put : List ℕ → List ℕ → ℕ → ℕ → ℕ → ℕ → List ℕ → Type 0
Put t lens carry c k r l = (r ≤ k) × ((come_by r l ≤ sum lens) × ((x : List ℕ) → steps_of r l x ≡ ahead carry (put_steps c (pieces lens x) (lines is_lf t))))

module _ (t lens : List ℕ) (carry c : ℕ) where
  pub put-none : (l : List ℕ) {k : ℕ} → k ≡ 0 → k ≡ length lens → Put t lens carry c k 0 l
  unfolding put_steps pieces ahead
  put-none l z h =
      let q : lens ≡ [] = drop_of_length-le lens {i = 0} (omega arith) in
      (omega arith, (rw (none_come l refl) (omega arith), λ x. no_steps l x refl ∙ rw q))

  module _ {r l₁ : List ℕ} {k n w : ℕ} (hk : k ≡ length lens) (hz : k ≢ 0) (hn : n ≡ row_len is_lf t 0) (hw : w ≡ min c n) (e : l₁ ≡ (carry + w) ∷ 0 ∷ (c - w) ∷ get_or lens 0 0 ∷ 0 ∷ r) where
    abbrev F : First t n
    F = first_row t n hn

    lens_sum : get_or lens 0 0 + sum (drop 1 lens) ≡ sum lens
    lens_sum = sym (sum-at lens 0 (omega arith))

    -- the first row's step, and those of the rows below
    put-cons : (x : List ℕ) → ahead carry (put_steps c (pieces lens x) (lines is_lf t))
        ≡ step (carry + w) 0 (c - w) 0 (take (get_or lens 0 0) x) ∷ ahead (length (drop c F.body ++ F.after)) (put_steps c (pieces (drop 1 lens) (drop (get_or lens 0 0) x)) F.below)
    unfolding put_steps pieces ahead
    put-cons x =
        let i : min c (length F.body) ≡ w = rw F.long (omega arith) in
        let d : c - length F.body ≡ c - w = rw F.long (omega arith) in
        ap (λ (ns : List ℕ). ahead carry (put_steps c (pieces ns x) (lines is_lf t))) (drop-cons lens 0 0 (omega arith)) ∙ rw (F.is, i, d)

    pub put_one : length t < n + 1 → Put t lens carry c k 1 l₁
    unfolding ahead
    put_one h =
        (omega arith, (omega (arith, first_comes e, lens_sum), λ x. first_step e x ∙ sym (put-cons x ∙ rw (F.only (omega arith), puts_none c (pieces (drop 1 lens) (drop (get_or lens 0 0) x))))))

    pub put_on : (y : List ℕ) (m : ℕ) → n + 1 ≤ length t → Put (take (length t - (n + 1)) (drop (n + 1) t)) (take (length lens - 1) (drop 1 lens)) (n - w + 1) c (k - 1) m y → Put t lens carry c k (m + 1) (behind_five l₁ y)
    put_on y m h R =
        let ls : come_by m y ≤ sum (drop 1 lens) = rw (tail_whole lens 1) at R.1.0 in
        (omega (arith, R.0), (omega (arith, next_come e y m, ls, lens_sum), on))
      where
        on : (x : List ℕ) → steps_of (m + 1) (behind_five l₁ y) x ≡ ahead carry (put_steps c (pieces lens x) (lines is_lf t))
        on x =
            let E = F.ended (omega arith) in
            let d : ℕ = get_or lens 0 0 in
            let j : length (drop c F.body ++ F.after) ≡ n - w + 1 = length-append (drop c F.body) F.after ∙ omega (arith, E.0, length-drop c F.body, F.long) in
            let v : steps_of m y (drop d x) ≡ ahead (n - w + 1) (put_steps c (pieces (drop 1 lens) (drop d x)) (lines is_lf (drop (n + 1) t))) = rw (tail_whole lens 1, tail_whole t (n + 1)) at (R.1.1 (drop d x)) in
            next_steps e y m x ∙ ap (λ (s : List (Step ℕ)). step (carry + w) 0 (c - w) 0 (take d x) ∷ s) (v ∙ sym (rw (E.1, j))) ∙ sym (put-cons x)
