-- How much steps pass over and put there.
use mathlib.Core.Path.{◌≡◌, refl, ap}
use mathlib.Core.Bool.{Bool}
use mathlib.Core.List.{List, [], ◌∷◌, ◌++◌}
use Prim.Native.Nat.{ℕ, zero, suc, ◌+◌, ◌-◌, ◌≤◌}
use native.Mathlib.Omega.{arith}
use lib.ListN.{length, take, drop, get_or, replicate, length-append, length-take, length-drop, length-replicate}
use Rattle.text.specs.Rows.{Line, unlines}
use Rattle.edit.specs.Edits.{join_next}
use Rattle.steps.specs.Steps.{Step, brought, woven, ahead, cut_of, passed, laid}
use Rattle.steps.specs.Numbers.{steps_of, passed_by, laid_by, come_by, cut_by}
use Rattle.steps.specs.Kinds.{join_steps, put_steps, cut_steps}
use Rattle.steps.proofs.Laws.{Parted}

pub passed-of : (n : ℕ) (l x : List ℕ) → passed (steps_of n l x) ≡ passed_by n l
unfolding passed steps_of passed_by
passed-of zero l x = refl
passed-of (suc n) l x = ap (λ (k : ℕ). get_or l 0 0 + get_or l 1 0 + k) (passed-of n (drop 5 l) (drop (get_or l 3 0) x))

pub laid_of : (n : ℕ) (l x : List ℕ) → come_by n l ≤ length x → laid (steps_of n l x) ≡ laid_by n l
unfolding laid steps_of laid_by come_by
laid_of zero l x h = refl
laid_of (suc n) l x h =
    let i = laid_of n (drop 5 l) (drop (get_or l 3 0) x) (omega (arith, length-drop (get_or l 3 0) x)) in
    omega (arith, i, length-take (get_or l 3 0) x)

pub steps_count : (n : ℕ) (l x : List ℕ) → length (steps_of n l x) ≡ n
unfolding steps_of
steps_count zero l x = refl
steps_count (suc n) l x = ap suc (steps_count n (drop 5 l) (drop (get_or l 3 0) x))

pub cut_of_lem : (n : ℕ) (l x t : List ℕ) → passed_by n l ≤ length t → length (cut_of (steps_of n l x) t) ≡ cut_by n l
unfolding steps_of cut_of passed_by cut_by
cut_of_lem zero l x t h = refl
cut_of_lem (suc n) l x t h =
    let k : ℕ = get_or l 0 0 in
    let g : ℕ = get_or l 1 0 in
    let o : ℕ = get_or l 4 0 in
    let y : List ℕ = drop (get_or l 3 0) x in
    let i = cut_of_lem n (drop 5 l) y (drop (k + g) t) (omega (arith, length-drop (k + g) t)) in
    omega (arith, i, length-append (take (g - o) (drop (k + o) t)) (cut_of (steps_of n (drop 5 l) y) (drop (k + g) t)), length-take (g - o) (drop (k + o) t), length-drop (k + o) t)

module _ {A : Type 0} where
  pub ahead-count : (n : ℕ) (ss : List (Step A)) → length (ahead n ss) ≡ length ss
  unfolding ahead
  ahead-count n [] = refl
  ahead-count n (s ∷ ss) = refl

  pub join-count : (space : A) (b : Bool) (r : Line A) (k : ℕ) (ss : List (Line A)) → length (join_steps space b r k ss) ≡ length ss
  unfolding join_steps
  join-count space b r k [] = refl
  join-count space b r k (s ∷ ss) = ap suc (join-count space b (join_next space b r s) (length s.body) ss)

  pub woven-length : (v : A) (ss : List (Step A)) (t : List A) → passed ss ≤ length t → length (woven v ss t) + passed ss ≡ length t + laid ss
  unfolding woven passed laid
  woven-length v [] t h = refl
  woven-length v (s ∷ ss) t h =
      let k : ℕ = s.keep + s.gone in
      let W : List A = woven v ss (drop k t) in
      omega (arith, woven-length v ss (drop k t) (omega (arith, length-drop k t)), length-append (take s.keep t) (brought v s ++ W), length-append (brought v s) W, length-append (replicate s.pad v) s.come, length-replicate s.pad v, length-take s.keep t, length-drop k t)

  pub ahead-passed : (n : ℕ) (ss : List (Step A)) → passed (ahead n ss) ≤ n + passed ss
  unfolding passed ahead
  ahead-passed n [] = omega arith
  ahead-passed n (s ∷ ss) = omega arith

  pub put-passed : (c : ℕ) (ks : List (List A)) (rs : List (Line A)) → passed (put_steps c ks rs) ≤ length (unlines rs)
  unfolding passed put_steps unlines
  put-passed c [] rs = omega arith
  put-passed c (k ∷ ks) [] = omega arith
  put-passed c (k ∷ ks) (r ∷ rs) =
      let z = drop c r.body ++ r.after in
      let R = put_steps c ks rs in
      omega (arith, put-passed c ks rs, ahead-passed (length z) R, length-append (drop c r.body) r.after, length-drop c r.body, length-append r.body (r.after ++ unlines rs), length-append r.after (unlines rs))

  pub cut_passed : (c : ℕ) (ws ds : List ℕ) (rs : List (Line A)) → passed (cut_steps c ws ds rs) ≤ length (unlines rs)
  unfolding passed cut_steps unlines
  cut_passed c [] ds rs = omega arith
  cut_passed c (w ∷ ws) ds [] = omega arith
  cut_passed c (w ∷ ws) ds (r ∷ rs) =
      let z = drop (c + w) r.body ++ r.after in
      let R = cut_steps c ws (drop 1 ds) rs in
      omega (arith, cut_passed c ws (drop 1 ds) rs, ahead-passed (length z) R, length-append (drop (c + w) r.body) r.after, length-drop (c + w) r.body, length-append r.body (r.after ++ unlines rs), length-append r.after (unlines rs))

  pub join-passed : (space : A) (b : Bool) (r : Line A) (k : ℕ) (ss : List (Line A)) → Parted r.after ss → passed (join_steps space b r k ss) ≤ k + length (r.after ++ unlines ss)
  unfolding passed join_steps unlines Parted
  join-passed space b r k [] h = omega arith
  join-passed space b r k (s ∷ ss) h =
      let i = join-passed space b (join_next space b r s) (length s.body) ss h.1 in
      omega (arith, i, h.0, length-append r.after (s.body ++ (s.after ++ unlines ss)), length-append s.body (s.after ++ unlines ss))
