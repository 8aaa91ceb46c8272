-- Steps in a slice, one after another: at turn i of n what is left is n - i steps, from 5 * i on.
use mathlib.Core.Path.{◌≡◌, refl, sym, ap, ◌∙◌}
use mathlib.Core.List.{List, [], ◌∷◌, ◌++◌, map}
use Prim.Native.Nat.{ℕ, zero, suc, ◌+◌, ◌-◌, ◌*◌, ◌≤◌, ◌<◌}
use native.Mathlib.Nat.{sub-zero}
use native.Mathlib.Omega.{arith}
use lib.ListN.{length, take, drop, get_or, replicate, length-drop}
use lib.Seq.{drop-drop, get_or-drop, length-take-le}
use Rattle.text.specs.Rows.{last_row}
use Rattle.text.specs.Text.{is_lf}
use Rattle.steps.specs.Steps.{cut_of, padded, given_back, places, breaks_gone, breaks_come}
use Rattle.steps.specs.Numbers.{steps_of, passed_by, laid_by, come_by, cut_by}
use Rattle.steps.proofs.Sums.{cut_of_lem}
use Rattle.recording.specs.declared.Five.{Five}
use Rattle.recording.specs.Recorded.{five_at}

-- ---- what steps tell whatever their payload is

unfoldable pub pads_by : ℕ → List ℕ → List ℕ
pads_by zero l = []
pads_by (suc n) l = get_or l 2 0 ∷ pads_by n (drop 5 l)

unfoldable pub back_by : ℕ → List ℕ → List ℕ
back_by zero l = []
back_by (suc n) l = (get_or l 1 0 - get_or l 4 0) ∷ back_by n (drop 5 l)

unfoldable pub columns_by : ℕ → ℕ → ℕ → List ℕ → List ℕ
columns_by start k zero l = []
columns_by start k (suc n) l = (k + get_or l 0 0 - start) ∷ columns_by start (k + get_or l 0 0 + get_or l 2 0 + get_or l 3 0) n (drop 5 l)

unfoldable pub cuts_by : ℕ → List ℕ → List ℕ → List ℕ
cuts_by zero l t = []
cuts_by (suc n) l t = take (get_or l 1 0 - get_or l 4 0) (drop (get_or l 0 0 + get_or l 4 0) t) ++ cuts_by n (drop 5 l) (drop (get_or l 0 0 + get_or l 1 0) t)

pub padded-by : (n : ℕ) (l x : List ℕ) → padded (steps_of n l x) ≡ pads_by n l
unfolding padded steps_of pads_by
padded-by zero l x = refl
padded-by (suc n) l x = ap (λ (s : List ℕ). get_or l 2 0 ∷ s) (padded-by n (drop 5 l) (drop (get_or l 3 0) x))

pub given_by : (n : ℕ) (l x : List ℕ) → given_back (steps_of n l x) ≡ back_by n l
unfolding given_back steps_of back_by
given_by zero l x = refl
given_by (suc n) l x = ap (λ (s : List ℕ). (get_or l 1 0 - get_or l 4 0) ∷ s) (given_by n (drop 5 l) (drop (get_or l 3 0) x))

pub cut_by_lem : (n : ℕ) (l x t : List ℕ) → cut_of (steps_of n l x) t ≡ cuts_by n l t
unfolding cut_of steps_of cuts_by
cut_by_lem zero l x t = refl
cut_by_lem (suc n) l x t =
    ap (λ (s : List ℕ). take (get_or l 1 0 - get_or l 4 0) (drop (get_or l 0 0 + get_or l 4 0) t) ++ s) (cut_by_lem n (drop 5 l) (drop (get_or l 3 0) x) (drop (get_or l 0 0 + get_or l 1 0) t))

pub columns-by : (start k n : ℕ) (l x : List ℕ) → come_by n l ≤ length x → map (λ (a : ℕ). a - start) (places k (steps_of n l x)) ≡ columns_by start k n l
unfolding places steps_of columns_by come_by
columns-by start k zero l x h = refl
columns-by start k (suc n) l x h =
    let p : ℕ = k + get_or l 0 0 in
    let c : ℕ = get_or l 3 0 in
    let e : p + (get_or l 2 0 + length (take c x)) ≡ p + get_or l 2 0 + c = omega (arith, length-take-le c x (omega arith)) in
    rw e (ap (λ (s : List ℕ). (p - start) ∷ s) (columns-by start (p + get_or l 2 0 + c) n (drop 5 l) (drop c x) (omega (arith, length-drop c x))))

pub pads_long : (n : ℕ) (l : List ℕ) → length (pads_by n l) ≡ n
unfolding pads_by
pads_long zero l = refl
pads_long (suc n) l = ap suc (pads_long n (drop 5 l))

pub back_long : (n : ℕ) (l : List ℕ) → length (back_by n l) ≡ n
unfolding back_by
back_long zero l = refl
back_long (suc n) l = ap suc (back_long n (drop 5 l))

pub columns-long : (start k n : ℕ) (l : List ℕ) → length (columns_by start k n l) ≡ n
unfolding columns_by
columns-long start k zero l = refl
columns-long start k (suc n) l = ap suc (columns-long start (k + get_or l 0 0 + get_or l 2 0 + get_or l 3 0) n (drop 5 l))

pub cuts_long : (n : ℕ) (l t : List ℕ) → passed_by n l ≤ length t → length (cuts_by n l t) ≡ cut_by n l
cuts_long n l t h = ap length (sym (cut_by_lem n l [] t)) ∙ cut_of_lem n l [] t h

-- ---- the step at i, and those behind it

module _ (l : List ℕ) (n i : ℕ) (h : i < n) where
  abbrev m : ℕ
  m = n - (i + 1)

  one_less : n - i ≡ suc m
  one_less = omega arith

  five_on : drop 5 (drop (5 * i) l) ≡ drop (5 * (i + 1)) l
  five_on = let e : 5 * i + 5 ≡ 5 * (i + 1) = omega arith in drop-drop 5 (5 * i) l ∙ ap (λ (j : ℕ). drop j l) e

  module _ (s : Five) (e : s ≡ five_at l i) where
    pub passed-next : passed_by (n - i) (drop (5 * i) l) ≡ s.keep + s.gone + passed_by m (drop (5 * (i + 1)) l)
    unfolding passed_by
    passed-next = rw (e, one_less, five_on)

    pub laid_next : laid_by (n - i) (drop (5 * i) l) ≡ s.keep + s.pad + s.come + laid_by m (drop (5 * (i + 1)) l)
    unfolding laid_by
    laid_next = rw (e, one_less, five_on)

    pub come_next : come_by (n - i) (drop (5 * i) l) ≡ s.come + come_by m (drop (5 * (i + 1)) l)
    unfolding come_by
    come_next = rw (e, one_less, five_on)

    pub going_next : (x u : List ℕ) → breaks_gone is_lf (steps_of (n - i) (drop (5 * i) l) x) u
        ≡ last_row is_lf (take s.gone (drop s.keep u)) + breaks_gone is_lf (steps_of m (drop (5 * (i + 1)) l) (drop s.come x)) (drop (s.keep + s.gone) u)
    unfolding steps_of breaks_gone
    going_next x u = rw (e, one_less, five_on)

    pub coming_next : (v : ℕ) (x : List ℕ) → breaks_come is_lf v (steps_of (n - i) (drop (5 * i) l) x)
        ≡ last_row is_lf (replicate s.pad v ++ take s.come x) + breaks_come is_lf v (steps_of m (drop (5 * (i + 1)) l) (drop s.come x))
    unfolding steps_of breaks_come
    coming_next v x = rw (e, one_less, five_on)

    pub cut_next : cut_by (n - i) (drop (5 * i) l) ≡ s.back + cut_by m (drop (5 * (i + 1)) l)
    unfolding cut_by
    cut_next = rw (e, one_less, five_on)

    pub back_next : back_by (n - i) (drop (5 * i) l) ≡ s.back ∷ back_by m (drop (5 * (i + 1)) l)
    unfolding back_by
    back_next = rw (e, one_less, five_on)

    pub columns-next : (start k v : ℕ) → v ≡ k + s.keep - start → columns_by start k (n - i) (drop (5 * i) l) ≡ v ∷ columns_by start (k + s.keep + s.pad + s.come) m (drop (5 * (i + 1)) l)
    unfolding columns_by
    columns-next start k v q = rw (q, e, one_less, five_on)

    pub back_less : s.back ≤ s.gone
    back_less = let b : s.back ≡ s.gone - get_or (drop (5 * i) l) 4 0 = rw e in omega arith

    pub cuts_next : (u : List ℕ) → cuts_by (n - i) (drop (5 * i) l) u ≡ take s.back (drop (s.keep + get_or (drop (5 * i) l) 4 0) u) ++ cuts_by m (drop (5 * (i + 1)) l) (drop (s.keep + s.gone) u)
    unfolding cuts_by
    cuts_next u = rw (e, one_less, five_on)

  pub pads_next : pads_by (n - i) (drop (5 * i) l) ≡ get_or l (5 * i + 2) 0 ∷ pads_by m (drop (5 * (i + 1)) l)
  unfolding pads_by
  pads_next = rw (one_less, five_on, get_or-drop (5 * i) l 2 0)

-- ---- the first and the last turn

pub whole-left : {A : Type 0} (f : ℕ → List ℕ → A) (l : List ℕ) (n : ℕ) → f (n - 0) (drop (5 * 0) l) ≡ f n l
whole-left f l n = rw sub-zero

pub none_passed : (k : ℕ) (l : List ℕ) → k ≡ 0 → passed_by k l ≡ 0
unfolding passed_by
none_passed k l e = rw e

pub none_laid : (k : ℕ) (l : List ℕ) → k ≡ 0 → laid_by k l ≡ 0
unfolding laid_by
none_laid k l e = rw e

pub none_cut : (k : ℕ) (l : List ℕ) → k ≡ 0 → cut_by k l ≡ 0
unfolding cut_by
none_cut k l e = rw e

pub none_going : (k : ℕ) (l x t : List ℕ) → k ≡ 0 → breaks_gone is_lf (steps_of k l x) t ≡ 0
unfolding steps_of breaks_gone
none_going k l x t e = rw e

pub none_coming : (k : ℕ) (l x : List ℕ) (v : ℕ) → k ≡ 0 → breaks_come is_lf v (steps_of k l x) ≡ 0
unfolding steps_of breaks_come
none_coming k l x v e = rw e
