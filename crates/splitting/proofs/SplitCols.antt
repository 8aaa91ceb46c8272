-- The steps of a split row, column by column.
use mathlib.Core.Path.{◌≡◌, refl, sym, ap, ◌∙◌}
use mathlib.Core.Logic.{◌≢◌}
use mathlib.Core.Bool.{Bool, true, false, cond, not, ◌&&◌, ◌||◌}
use mathlib.Core.List.{List, [], ◌∷◌}
use Prim.Native.Nat.{ℕ, zero, suc, ◌+◌, ◌-◌, ◌*◌, ◌≤◌, ◌<◌, min}
use native.Mathlib.Decide.{dec_le}
use native.Mathlib.Omega.{arith}
use borrow.Author.Tests.{le-ltb, lt-ltb}
use lib.Dec.{eqb, leb, ltb, eqb-suc-zero}
use lib.ListN.{length, take, drop, get_or, set, length-take, length-drop, drop_of_length-le}
use lib.Seq.{drop-cons, drop-set-add, get_or-take, drop_at, length-take-le}
use Rattle.promise.proofs.Lists.{first_from, tail_whole, tail_back}
use Rattle.text.specs.Rows.{line}
use Rattle.text.specs.Text.{is_lf}
use Rattle.edit.specs.Edits.{unspace}
use Rattle.edit.specs.Refusals.{is_space, spaces, within_first, within_all}
use Rattle.steps.specs.Steps.{Step, step, ahead}
use Rattle.steps.specs.Numbers.{steps_of, come_by}
use Rattle.steps.specs.Kinds.{first_at, behind, split_steps}
use Rattle.steps.proofs.Splits.{split-is}
use Rattle.building.proofs.Fives.{skip_one, ahead_none, behind_five, no_steps, none_come, come_set}

abbrev cuts : List ℕ → List ℕ → List ℕ → List (Step ℕ)
cuts b cs fs = split_steps is_lf is_space spaces b cs fs

-- ---- what goes

abbrev gone_of : ℕ → List ℕ → ℕ
gone_of f z = length z - length (unspace is_lf is_space spaces f z)

gone_none : (z : List ℕ) (f : ℕ) → z ≡ [] → 0 ≡ gone_of f z
gone_none z f e = rw e (omega arith)

gone_cons : (f x : ℕ) (z r : List ℕ) → z ≡ x ∷ r → cond (not (eqb f 0) && eqb x 32) 1 0 ≡ gone_of f z
unfolding unspace
gone_cons zero x z r e = rw e (omega arith)
gone_cons (suc f) x z r e = rw (e, eqb-suc-zero f) (go (eqb x 32))
  where
    go : (b : Bool) → cond b 1 0 ≡ suc (length r) - length (cond b r (x ∷ r))
    go true = omega arith
    go false = omega arith

module _ (b : List ℕ) (c e f : ℕ) (k : e ≤ length b) where
  gone_past : e ≤ c → 0 ≡ gone_of f (drop c (take e b))
  gone_past h = gone_none (drop c (take e b)) f (drop_of_length-le (take e b) {i = c} (omega (arith, length-take e b)))

  module _ (h : c < e) where
    here : drop c (take e b) ≡ get_or b c 0 ∷ drop (suc c) (take e b)
    here = rw (← get_or-take e b c 0 h) (drop-cons (take e b) c 0 (omega (arith, length-take-le e b k)))

    gone_here : cond (not (eqb f 0) && eqb (get_or b c 0) 32) 1 0 ≡ gone_of f (drop c (take e b))
    gone_here = gone_cons f (get_or b c 0) (drop c (take e b)) (drop (suc c) (take e b)) here

  pub gone-is : (v : ℕ) → v ≡ cond (ltb c e && (not (eqb f 0) && eqb (get_or b c 0) 32)) 1 0 → v ≡ gone_of f (drop c (take e b))
  gone-is v q = elim (dec_le (suc c) e) [ yes h ↦ q ∙ rw (lt-ltb c e h) (gone_here h) | no h ↦ q ∙ rw (le-ltb c e (omega arith)) (gone_past (omega arith)) ]

-- ---- the steps after so many characters

lowered_first : (l : List ℕ) (k by : ℕ) → (x : List ℕ) → 5 * k ≤ length l → steps_of k (set l 0 (get_or l 0 0 - by)) x ≡ behind by (steps_of k l x)
unfolding steps_of behind
lowered_first l zero by x h = refl
lowered_first [] (suc k) by x h = absurd (omega arith)
lowered_first (a ∷ l) (suc k) by x h = refl

-- what `lower` promises of n steps, where r stands behind the first of them, and r₁ once they are lowered
abbrev pub Lowered : ℕ → ℕ → List ℕ → List ℕ → Type 0
Lowered n by r r₁ = (come_by (n - 1) r₁ ≡ come_by (n - 1) r) × ((x : List ℕ) → steps_of (n - 1) r₁ x ≡ behind by (steps_of (n - 1) r x))

pub lowered : (l : List ℕ) (n by m : ℕ) → 1 < n → 5 * n ≤ length l → m ≡ get_or l 5 0 - by → Lowered n by (drop 5 l) (drop 5 (set l 5 m))
lowered l n by m h j e =
    let s : drop 5 (set l 5 m) ≡ set (drop 5 l) 0 (get_or (drop 5 l) 0 0 - by) = drop-set-add 5 l 0 m ∙ ap (set (drop 5 l) 0) (rw (first_from l 5) e) in
    (ap (come_by (n - 1)) s ∙ come_set (drop 5 l) (n - 1) _, λ x. ap (λ (v : List ℕ). steps_of (n - 1) v x) s ∙ lowered_first (drop 5 l) (n - 1) by x (omega (arith, length-drop 5 l)))

pub lowered_none : (l : List ℕ) (n by : ℕ) → n ≤ 1 → Lowered n by (drop 5 l) (drop 5 l)
unfolding steps_of behind
lowered_none l n by h =
    let z : n - 1 ≡ 0 = omega arith in
    (refl, λ x. rw z)

-- ---- a column, and those behind it

-- what `split_steps` promises of its answer and the slice that it leaves
abbrev pub Splits : List ℕ → List ℕ → List ℕ → ℕ → ℕ → ℕ → Bool → List ℕ → Type 0
Splits b cs fs carry k first within l =
    (first ≤ length b)
    × ((first ≡ first_at (length b) (cuts b cs fs))
    × (((z : List ℕ) → within ≡ within_all (line b z) cs fs)
    × ((come_by k l ≡ 0) × ((x : List ℕ) → steps_of k l x ≡ ahead carry (cuts b cs fs)))))

module _ (b cs fs : List ℕ) (carry : ℕ) where
  pub split-none : (l : List ℕ) {k : ℕ} → k ≡ 0 → k ≡ length cs → Splits b cs fs carry k (length b) true l
  unfolding split_steps first_at within_all ahead
  split-none l z h =
      let q : cs ≡ [] = drop_of_length-le cs {i = 0} (omega arith) in
      (omega arith, (rw q, (λ v. rw q, (none_come l z, λ x. no_steps l x z ∙ rw q))))

  module _ {k skip end at gone flag : ℕ} {w : Bool} (y : List ℕ) (hk : k ≡ length cs) (hz : k ≢ 0) (hs : skip ≡ min (length fs) 1) (hf : flag ≡ get_or fs 0 0)
      (R : Splits b (take (length cs - 1) (drop 1 cs)) (take (length fs - skip) (drop skip fs)) 0 (k - 1) end w y) (hat : at ≡ min (get_or cs 0 0) end) (hg : gone ≡ gone_of flag (drop (get_or cs 0 0) (take end b))) where
    abbrev rest : List (Step ℕ)
    rest = cuts b (drop 1 cs) (drop 1 fs)

    flags_on : take (length fs - skip) (drop skip fs) ≡ drop 1 fs
    flags_on = tail_whole fs skip ∙ skip_one fs skip hs

    cols_are : cs ≡ get_or cs 0 0 ∷ drop 1 cs
    cols_are = drop-cons cs 0 0 (omega arith)

    end_is : end ≡ first_at (length b) rest
    end_is = rw (tail_whole cs 1, flags_on) at R.1.0

    split-cons : cuts b cs fs ≡ step at gone 1 gone [] ∷ behind (at + gone) rest
    unfolding split_steps
    split-cons = ap (λ (l : List ℕ). cuts b l fs) cols_are ∙ rw (← end_is, ← hf, ← hg, ← hat)

    split-within : (z : List ℕ) → ((eqb flag 0 || leb (get_or cs 0 0) end) && w) ≡ within_all (line b z) cs fs
    unfolding within_all within_first
    split-within z =
        let I = split-is is_lf is_space spaces b z (drop 1 cs) (drop 1 fs) in
        let q : w ≡ within_all (line b z) (drop 1 cs) (drop 1 fs) = rw (tail_whole cs 1, flags_on) at (R.1.1.0 z) in
        let l : length (take (first_at (length b) rest) b) ≡ end = length-take-le (first_at (length b) rest) b I.n_le ∙ sym end_is in
        sym (ap (λ (v : List ℕ). within_all (line b z) v fs) cols_are ∙ rw (I.is, l, ← hf, ← q))

    -- in the slice l, whose part behind came back as y, and was lowered to r
    pub split-on : (l : List ℕ) {r l₁ : List ℕ} → 5 ≤ length l → Lowered k (at + gone) (drop 5 (behind_five l y)) r → l₁ ≡ (carry + at) ∷ gone ∷ 1 ∷ 0 ∷ gone ∷ r
        → Splits b cs fs carry k at ((eqb flag 0 || leb (get_or cs 0 0) end) && w) l₁
    unfolding first_at ahead steps_of come_by
    split-on l {r} {l₁} h low e =
        let first : at ≡ first_at (length b) (cuts b cs fs) = rw split-cons in
        (omega (arith, R.0), (first, (split-within, (come, on))))
      where
        lent : drop 5 (behind_five l y) ≡ y
        lent = ap (drop 5) (tail_back l y 5) ∙ drop_at (take 5 l) y 5 (length-take-le 5 l h)

        more : k ≡ suc (k - 1)
        more = omega arith

        come : come_by k l₁ ≡ 0
        come = ap (come_by k) e ∙ ap (λ (i : ℕ). come_by i ((carry + at) ∷ gone ∷ 1 ∷ 0 ∷ gone ∷ r)) more ∙ ap (λ (i : ℕ). 0 + i) (low.0 ∙ ap (come_by (k - 1)) lent ∙ R.1.1.1.0)

        on : (x : List ℕ) → steps_of k l₁ x ≡ ahead carry (cuts b cs fs)
        on x =
            let i : steps_of (k - 1) y x ≡ rest = rw (tail_whole cs 1, flags_on, ahead_none) at (R.1.1.1.1 x) in
            let v : steps_of (k - 1) r x ≡ behind (at + gone) rest = low.1 x ∙ ap (λ (s : List ℕ). behind (at + gone) (steps_of (k - 1) s x)) lent ∙ ap (behind (at + gone)) i in
            ap (λ (s : List ℕ). steps_of k s x) e ∙ ap (λ (i : ℕ). steps_of i ((carry + at) ∷ gone ∷ 1 ∷ 0 ∷ gone ∷ r) x) more
            ∙ ap (λ (s : List (Step ℕ)). step (carry + at) gone 1 gone [] ∷ s) v ∙ ap (ahead carry) (sym split-cons)
