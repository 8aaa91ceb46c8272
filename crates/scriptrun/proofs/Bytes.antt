-- Bytes fed by one call after another.
use mathlib.Core.Path.{◌≡◌, refl, sym, ap, ◌∙◌}
use mathlib.Core.List.{List, [], ◌++◌}
use Prim.Native.Nat.{ℕ, ◌+◌, ◌-◌, ◌≤◌}
use native.Mathlib.Nat.{sub-zero}
use lib.ListN.{length, take, drop}
use lib.Seq.{take-add, take_all, length-take-le}
use Rattle.std.specs.Prelude.{Option}
use Rattle.promise.specs.Slices.{over}
use Rattle.promise.proofs.Lists.{tail_whole}
use Rattle.select.specs.declared.Sel.{Sel}
use Rattle.loading.specs.declared.Script.{Script}
use Rattle.loading.specs.States.{State, state_of, script_of, opening}
use Rattle.step.specs.Calls.{Ready}
use Rattle.feed.specs.declared.Course.{Course}
use Rattle.feed.specs.Feeds.{Fed, fed_by, closing}
use Rattle.feed.specs.Calls.{Left, left, feed_leaves}
use Rattle.feed.proofs.Feeds.{fed-append}
use Rattle.feed.proofs.Ends.{printed-part}
use Rattle.scriptrun.specs.Runs.{Stands, Come, Prints, more, last}

pub ready_as : (c c' : Script) (t : List ℕ) (m : List (Option Sel)) → c' ≡ c → Ready c t m → Ready c' t m
ready_as c c' t m e h = rw e h

pub stands_none : (s : State) (p bs : List ℕ) → Stands s p (fed_by s p (take 0 bs))
unfolding fed_by
stands_none s p bs = (refl, refl)

-- xs, and then ys
stands_on : (s₀ s s' : State) (p₀ p p' xs ys : List ℕ) → Stands s p (fed_by s₀ p₀ xs) → Stands s' p' (fed_by s p ys) → Stands s' p' (fed_by s₀ p₀ (xs ++ ys))
stands_on s₀ s s' p₀ p p' xs ys h q =
    let x = fed_by s₀ p₀ xs in
    let a : fed_by s p ys ≡ fed_by x.state x.pending ys = ap (λ (z : State). fed_by z p ys) h.0 ∙ ap (λ (z : List ℕ). fed_by x.state z ys) h.1 in
    let b = fed-append s₀ p₀ xs ys in
    (q.0 ∙ ap (λ (z : Fed). z.state) a ∙ sym (ap (λ (z : Fed). z.state) b), q.1 ∙ ap (λ (z : Fed). z.pending) a ∙ sym (ap (λ (z : Fed). z.pending) b))

module _ (s₀ : State) (p₀ bs : List ℕ) where
  -- n bytes of a piece, and then k of those behind
  pub stands_more : (n k : ℕ) (s s' : State) (p p' : List ℕ) → Stands s p (fed_by s₀ p₀ (take n bs)) → Stands s' p' (fed_by s p (take k (take (length bs - n) (drop n bs))))
      → Stands s' p' (fed_by s₀ p₀ (take (n + k) bs))
  stands_more n k s s' p p' h q =
      rw (take-add n k bs) (stands_on s₀ s s' p₀ p p' (take n bs) (take k (drop n bs)) h (rw (tail_whole bs n) at q))

  pub stands_all : (n : ℕ) (s : State) (p : List ℕ) → length bs ≤ n → Stands s p (fed_by s₀ p₀ (take n bs)) → Stands s p (fed_by s₀ p₀ bs)
  stands_all n s p h q = rw (take_all n bs h) at q

-- nothing came: n bytes of a piece are none
pub stands_still : (c c' : Script) (k k' n : ℕ) (l t : List ℕ) (m : List (Option Sel)) (bs : List ℕ) → c' ≡ c → k' ≡ k → n ≡ 0 → Stands (state_of c' t m) (take k' l) (fed_by (state_of c t m) (take k l) (take n bs))
stands_still c c' k k' n l t m bs e q z = rw (e, q, z) (stands_none (state_of c t m) (take k l) bs)

-- the first n bytes, as they are lent
pub stands_front : (s₀ s : State) (p₀ p bs : List ℕ) (n k : ℕ) → n ≡ k → Stands s p (fed_by s₀ p₀ (take (n - 0) (drop 0 bs))) → Stands s p (fed_by s₀ p₀ (take k bs))
stands_front s₀ s p₀ p bs n k e q = rw (sub-zero, e) at q

-- ---- since the opening

pub come_first : (c : Script) (t : List ℕ) (m : List (Option Sel)) → c ≡ script_of opening → state_of (script_of opening) t m ≡ opening → Come (state_of c t m) []
unfolding fed_by
come_first c t m e q = record { bytes = []; stands = (ap (λ (x : Script). state_of x t m) e ∙ q, refl) }

pub come_on : (s s' : State) (p p' bs : List ℕ) → Come s p → Stands s' p' (fed_by s p bs) → Come s' p'
come_on s s' p p' bs g q = record { bytes = g.bytes ++ bs; stands = stands_on opening s s' [] p p' g.bytes bs g.stands q }

pub come_still : (c c' : Script) (k k' : ℕ) (l t : List ℕ) (m : List (Option Sel)) → c' ≡ c → k' ≡ k → Come (state_of c t m) (take k l) → Come (state_of c' t m) (take k' l)
come_still c c' k k' l t m e q h = rw (e, q) h

-- ---- what is written

-- what a call of the feeder printed to the front of o
pub prints_fed : (c : Script) (p xs t : List ℕ) (m : List (Option Sel)) (o : List ℕ) (r : Course) (l' t' : List ℕ) (m' : List (Option Sel)) (o' : List ℕ) → left r l' t' m' o' ≡ feed_leaves c p (take r.taken xs) t m o
    → Come (state_of c t m) p → Prints (take (r.printed - 0) (drop 0 o'))
prints_fed c p xs t m o r l' t' m' o' e g =
    let x = fed_by (state_of c t m) p (take r.taken xs) in
    rw (printed-part x.printed o o' r.printed (ap (λ (z : Left). z.out) e) (ap (λ (z : Left). z.printed) e)) (more (state_of c t m) p (take r.taken xs) g)

-- and what is printed at the end, where n bytes are held
pub prints_last : (s : State) (l o y : List ℕ) (n k : ℕ) → k ≤ length l → y ≡ over (closing s k) o → n ≡ length (closing s k) → Come s (take k l) → Prints (take (n - 0) (drop 0 y))
prints_last s l o y n k h e q g =
    rw (printed-part (closing s k) o y n e q) (rw (length-take-le k l h) at (last s (take k l) g))
