-- The steps of a deletion of chunks, row by row.
use mathlib.Core.Path.{◌≡◌, refl, sym, ap, ◌∙◌}
use mathlib.Core.Logic.{◌≢◌}
use mathlib.Core.List.{List, [], ◌∷◌, ◌++◌}
use Prim.Native.Nat.{ℕ, ◌+◌, ◌-◌, ◌≤◌, ◌<◌, min}
use native.Mathlib.Omega.{arith}
use lib.ListN.{length, take, drop, get_or, length-append, length-drop, drop_of_length-le}
use lib.Seq.{drop-cons}
use Rattle.promise.proofs.Lists.{tail_whole}
use Rattle.text.specs.Rows.{lines, row_len}
use Rattle.text.specs.Text.{is_lf}
use Rattle.steps.specs.Steps.{Step, step, ahead}
use Rattle.steps.specs.Numbers.{steps_of, come_by}
use Rattle.steps.specs.Kinds.{cut_steps}
use Rattle.building.proofs.Fives.{skip_one, behind_five, no_steps, none_come, first_step, first_comes, next_steps, next_come}
use Rattle.building.proofs.Builds.{First, first_row}

pub cuts_none : (c : ℕ) (ws ds : List ℕ) → cut_steps {A = ℕ} c ws ds [] ≡ []
unfolding cut_steps
cuts_none c [] ds = refl
cuts_none c (w ∷ ws) ds = refl

-- what `cut_steps` promises of its answer r and the slice that it leaves
abbrev pub Cut : List ℕ → List ℕ → List ℕ → ℕ → ℕ → ℕ → ℕ → List ℕ → Type 0
Cut t ws ds carry c k r l = (r ≤ k) × ((come_by r l ≡ 0) × ((x : List ℕ) → steps_of r l x ≡ ahead carry (cut_steps c ws ds (lines is_lf t))))

module _ (t ws ds : List ℕ) (carry c : ℕ) where
  pub cut_none : (l : List ℕ) {k : ℕ} → k ≡ 0 → k ≡ length ws → Cut t ws ds carry c k 0 l
  unfolding cut_steps ahead
  cut_none l z h =
      let q : ws ≡ [] = drop_of_length-le ws {i = 0} (omega arith) in
      (omega arith, (none_come l refl, λ x. no_steps l x refl ∙ rw q))

  module _ {r l₁ : List ℕ} {k n from chunk to : ℕ} (hk : k ≡ length ws) (hz : k ≢ 0) (hn : n ≡ row_len is_lf t 0)
      (hc : (from ≡ min (c - get_or ds 0 0) n) × (chunk ≡ min c n) × (to ≡ min (c + get_or ws 0 0) n)) (e : l₁ ≡ (carry + from) ∷ (to - from) ∷ 0 ∷ 0 ∷ (chunk - from) ∷ r) where
    abbrev F : First t n
    F = first_row t n hn

    abbrev w : ℕ
    w = get_or ws 0 0

    -- the first row's step, and those of the rows below
    cut_cons : ahead carry (cut_steps c ws ds (lines is_lf t)) ≡ step (carry + from) (to - from) 0 (chunk - from) [] ∷ ahead (length (drop (c + w) F.body ++ F.after)) (cut_steps c (drop 1 ws) (drop 1 ds) F.below)
    unfolding cut_steps ahead
    cut_cons =
        let i : min (c - get_or ds 0 0) (length F.body) ≡ from = rw F.long (sym hc.0) in
        let d : min c (length F.body) ≡ chunk = rw F.long (sym hc.1) in
        let z : min (c + w) (length F.body) ≡ to = rw F.long (sym hc.2) in
        ap (λ (vs : List ℕ). ahead carry (cut_steps c vs ds (lines is_lf t))) (drop-cons ws 0 0 (omega arith)) ∙ rw (F.is, i, d, z)

    pub cut_one : length t < n + 1 → Cut t ws ds carry c k 1 l₁
    unfolding ahead
    cut_one h = (omega arith, (first_comes e, λ x. first_step e x ∙ sym (cut_cons ∙ rw (F.only (omega arith), cuts_none c (drop 1 ws) (drop 1 ds)))))

    pub cut_on : (y : List ℕ) (m : ℕ) {skip : ℕ} → n + 1 ≤ length t → skip ≡ min (length ds) 1
        → Cut (take (length t - (n + 1)) (drop (n + 1) t)) (take (length ws - 1) (drop 1 ws)) (take (length ds - skip) (drop skip ds)) (n - to + 1) c (k - 1) m y → Cut t ws ds carry c k (m + 1) (behind_five l₁ y)
    cut_on y m {skip} h hs R = (omega (arith, R.0), (next_come e y m ∙ omega (arith, R.1.0), on))
      where
        on : (x : List ℕ) → steps_of (m + 1) (behind_five l₁ y) x ≡ ahead carry (cut_steps c ws ds (lines is_lf t))
        on x =
            let E = F.ended (omega arith) in
            let j : length (drop (c + w) F.body ++ F.after) ≡ n - to + 1 = length-append (drop (c + w) F.body) F.after ∙ omega (arith, E.0, length-drop (c + w) F.body, F.long, hc.2) in
            let v : steps_of m y x ≡ ahead (n - to + 1) (cut_steps c (drop 1 ws) (drop 1 ds) (lines is_lf (drop (n + 1) t))) = rw (tail_whole ws 1, tail_whole ds skip, skip_one ds skip hs, tail_whole t (n + 1)) at (R.1.1 x) in
            next_steps e y m x ∙ ap (λ (s : List (Step ℕ)). step (carry + from) (to - from) 0 (chunk - from) [] ∷ s) (v ∙ sym (rw (E.1, j))) ∙ sym cut_cons
