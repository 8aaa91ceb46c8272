-- The steps of joins, row by row.
use mathlib.Core.Path.{◌≡◌, refl, sym, ap, ◌∙◌}
use mathlib.Core.Logic.{◌≢◌}
use mathlib.Core.Bool.{Bool, true, false, cond, not, ◌&&◌, ◌||◌}
use mathlib.Core.List.{List, [], ◌∷◌, ◌++◌, append_assoc}
use Prim.Native.Nat.{ℕ, suc, ◌+◌, ◌-◌, ◌≤◌, ◌<◌}
use native.Mathlib.Omega.{arith}
use borrow.Author.Tests.{lt-ltb}
use lib.Dec.{ltb}
use lib.ListN.{length, take, drop, get_or}
use lib.Seq.{take-nil}
use Rattle.promise.proofs.Lists.{tail_whole}
use Rattle.text.specs.Rows.{Line, line, onto, lines, row_len}
use Rattle.text.specs.Text.{is_lf}
use Rattle.edit.specs.Edits.{gap}
use Rattle.steps.specs.Steps.{Step, step, ahead}
use Rattle.steps.specs.Numbers.{steps_of, come_by}
use Rattle.steps.specs.Kinds.{join_steps}
use Rattle.joining.specs.Joining.{filled, opens, join_from}
use Rattle.building.proofs.Fives.{ahead_none, behind_five, no_steps, none_come, next_steps, next_come}
use Rattle.building.proofs.Builds.{First, first_row}

-- ---- whether a space comes

abbrev pub gap_of : Bool → Bool → Bool → ℕ
gap_of b s o = cond (b && s && o) 1 0

gap_is : (b : Bool) (q y : List ℕ) → length (gap 32 b q y) ≡ gap_of b (filled q) (filled y)
unfolding gap filled
gap_is true (x ∷ q) (z ∷ y) = refl
gap_is true (x ∷ q) [] = refl
gap_is true [] y = refl
gap_is false q y = refl

opens-first : (t : List ℕ) → opens is_lf t ≡ filled (get_or (lines is_lf t) 0 (line [] [])).body
unfolding opens filled lines onto
opens-first [] = refl
opens-first (x ∷ t) = go (is_lf x) (lines is_lf t)
  where
    go : (b : Bool) (L : List (Line ℕ)) → not b ≡ filled (get_or (cond b (line [] (x ∷ []) ∷ L) (onto x L)) 0 (line [] [])).body
    go true L = refl
    go false [] = refl
    go false (r ∷ rs) = refl

filled-gap : (b : Bool) (q y : List ℕ) → filled (q ++ gap 32 b q y) ≡ filled q
unfolding gap filled
filled-gap b (x ∷ q) y = refl
filled-gap true [] y = refl
filled-gap false [] y = refl

filled-both : (p b : List ℕ) → filled (p ++ b) ≡ (filled p || ltb 0 (length b))
unfolding filled
filled-both (x ∷ p) b = refl
filled-both [] (x ∷ b) = sym (lt-ltb 0 (suc (length b)) (omega arith))
filled-both [] [] = refl

-- ---- the rows

-- what `join_steps` promises of its answer r and the slice that it leaves
abbrev pub Joined : List ℕ → ℕ → Bool → Bool → ℕ → ℕ → List ℕ → Type 0
Joined t carry some b k r l = (r ≤ k) × ((come_by r l ≡ 0) × ((x p : List ℕ) → filled p ≡ some → steps_of r l x ≡ ahead carry (join_from 32 b p k (lines is_lf t))))

module _ (t : List ℕ) (carry : ℕ) (some b : Bool) where
  pub join-none : (l : List ℕ) {k : ℕ} → k ≡ 0 → Joined t carry some b k 0 l
  unfolding ahead join_from join_steps
  join-none l z = (omega arith, (none_come l refl, λ x p q. no_steps l x refl ∙ rw z (go p (lines is_lf t))))
    where
      go : (p : List ℕ) (L : List (Line ℕ)) → [] ≡ ahead carry (join_from 32 b p 0 L)
      go p [] = refl
      go p (r ∷ rs) = refl

  module _ {n : ℕ} (hn : n ≡ row_len is_lf t 0) where
    abbrev F : First t n
    F = first_row t n hn

    pub join_last : (l : List ℕ) (k : ℕ) → length t < n + 1 → Joined t carry some b k 0 l
    unfolding ahead join_from join_steps
    join_last l k h = (omega arith, (none_come l refl, λ x p q. no_steps l x refl ∙ sym (rw (F.is, F.only (omega arith), take-nil))))

    -- the rows below, with the joined one before them
    join-cons : (p : List ℕ) (m : ℕ) (s : Line ℕ) (ss : List (Line ℕ)) → F.below ≡ s ∷ ss
        → ahead carry (join_from 32 b p (suc m) (lines is_lf t)) ≡ step (carry + n) 1 (length (gap 32 b (p ++ F.body) s.body)) 1 [] ∷ join_from 32 b ((p ++ F.body) ++ gap 32 b (p ++ F.body) s.body) m (s ∷ ss)
    unfolding ahead join_from join_steps
    join-cons p m s ss e =
        let q : List ℕ = p ++ F.body in
        rw (F.is, e, F.long, append_assoc q (gap 32 b q s.body) s.body)

    pub join-on : {r l₁ : List ℕ} {k pad : ℕ} (y : List ℕ) (m : ℕ) → k ≢ 0 → n + 1 ≤ length t → pad ≡ gap_of b (some || ltb 0 n) (opens is_lf (take (length t - (n + 1)) (drop (n + 1) t)))
        → l₁ ≡ (carry + n) ∷ 1 ∷ pad ∷ 0 ∷ 1 ∷ r → Joined (take (length t - (n + 1)) (drop (n + 1) t)) 0 (some || ltb 0 n) b (k - 1) m y → Joined t carry some b k (m + 1) (behind_five l₁ y)
    join-on {l₁ = l₁} {k} {pad} y m hz h hp e R = (omega (arith, R.0), (next_come e y m ∙ omega (arith, R.1.0), on))
      where
        on : (x p : List ℕ) → filled p ≡ some → steps_of (m + 1) (behind_five l₁ y) x ≡ ahead carry (join_from 32 b p k (lines is_lf t))
        on x p hs =
            let u : List ℕ = drop (n + 1) t in
            let w = tail_whole t (n + 1) in
            let G : First u (row_len is_lf u 0) = first_row u (row_len is_lf u 0) refl in
            let s : Line ℕ = line G.body G.after in
            let E = F.ended (omega arith) in
            let q : List ℕ = p ++ F.body in
            let g : List ℕ = gap 32 b q s.body in
            let fq : filled q ≡ (some || ltb 0 n) = filled-both p F.body ∙ rw (hs, F.long) in
            let o : opens is_lf u ≡ filled s.body = opens-first u ∙ rw G.is in
            let hg : pad ≡ length g = rw (hp, w, o, ← fq) (sym (gap_is b q s.body)) in
            let i : steps_of m y x ≡ join_from 32 b (q ++ g) (k - 1) (s ∷ G.below) = rw (w, G.is, ahead_none) at (R.1.1 x (q ++ g) (filled-gap b q s.body ∙ fq)) in
            let j : k ≡ suc (k - 1) = omega arith in
            next_steps e y m x ∙ ap (λ (z : ℕ). step (carry + n) 1 z 1 [] ∷ steps_of m y x) hg ∙ ap (λ (z : List (Step ℕ)). step (carry + n) 1 (length g) 1 [] ∷ z) i
            ∙ sym (ap (λ (i : ℕ). ahead carry (join_from 32 b p i (lines is_lf t))) j ∙ join-cons p (k - 1) s G.below (E.1 ∙ G.is))
