-- What the feeder prints, call by call, up to the script's end.
use mathlib.Core.Path.{◌≡◌, sym, ap, ◌∙◌}
use mathlib.Core.Bool.{Bool}
use mathlib.Core.List.{List, [], ◌++◌, append-nil}
use Prim.Native.Nat.{ℕ, ◌+◌, ◌-◌, ◌≤◌}
use lib.ListN.{length, take, drop, take-append-drop, drop_of_length-le}
use lib.Seq.{drop-drop, length-take-le}
use Rattle.promise.specs.Slices.{over}
use Rattle.promise.proofs.Lists.{tail_whole}
use Rattle.select.specs.declared.Sel.{Sel}
use Rattle.loading.specs.declared.Script.{Script}
use Rattle.loading.specs.States.{State, state_of}
use Rattle.feed.specs.declared.Course.{Course}
use Rattle.feed.specs.Feeds.{Fed, fed_by, closing, whole}
use Rattle.feed.specs.Calls.{Left, left, leaves, feed_leaves}
use Rattle.feed.proofs.Ends.{printed-part}
use Rattle.feed.proofs.Wholes.{whole-none, whole-more}
use Rattle.std.specs.Prelude.{Option, Result, Ok}
use Rattle.utf8.specs.declared.NoRoom.{NoRoom}
use Rattle.script.specs.declared.feeding.FedOver.{FedOver}
use Rattle.script.specs.Courses.{Going, Goes, GoesFed}
use Rattle.script.proofs.Goings.{comes_as, ends_as}

-- from the byte at n on: k bytes, and then the rest
from_on : (s : State) (p w : List ℕ) (n k : ℕ)
    → let x = fed_by s p (take k (drop n w)) in whole (fed_by s p (drop n w)) ≡ x.printed ++ whole (fed_by x.state x.pending (drop (n + k) w))
from_on s p w n k =
    let x = fed_by s p (take k (drop n w)) in
    ap (λ (z : List ℕ). whole (fed_by s p z)) (sym (take-append-drop k (drop n w))) ∙ whole-more s p (take k (drop n w)) (drop k (drop n w))
    ∙ ap (λ (z : List ℕ). x.printed ++ whole (fed_by x.state x.pending z)) (drop-drop k n w)

module _ (keep : Bool) (w b : List ℕ) where
  -- a call of the feeder with the bytes from n on, and what it printed behind the first j
  module _ (c : Script) (k n j : ℕ) (l t : List ℕ) (m : List (Option Sel)) (o input a a' : List ℕ) (r : Course) (l' t' : List ℕ) (m' : List (Option Sel)) (o' : List ℕ) (q : Result ℕ NoRoom)
      (e : left r l' t' m' o' ≡ feed_leaves c (take k l) (take r.taken (take (length input - n) (drop n input))) t m o) where
    abbrev x : Fed
    x = fed_by (state_of c t m) (take k l) (take r.taken (drop n input))

    abbrev still : List ℕ
    still = whole (fed_by (state_of r.script t' m') (take r.pending l') (drop (n + r.taken) input))

    by_these : left r l' t' m' o' ≡ leaves x o
    by_these = e ∙ ap (λ (z : List ℕ). leaves (fed_by (state_of c t m) (take k l) (take r.taken z)) o) (tail_whole input n)

    comes : whole (fed_by (state_of c t m) (take k l) (drop n input)) ≡ take (r.printed - 0) (drop 0 o') ++ still
    comes =
        let s : state_of r.script t' m' ≡ x.state = ap (λ (z : Left). z.state) by_these in
        let p : take r.pending l' ≡ x.pending = ap (λ (z : Left). z.pending) by_these in
        let v : take (r.printed - 0) (drop 0 o') ≡ x.printed = printed-part x.printed o o' r.printed (ap (λ (z : Left). z.out) by_these) (ap (λ (z : Left). z.printed) by_these) in
        rw (v, s, p) (from_on (state_of c t m) (take k l) input n r.taken)

    pub fed-goes : ((w b rest : List ℕ) → Going keep w b j (take (r.printed - 0) (drop 0 o') ++ rest) a → Goes keep w b q rest a')
        → Going keep w b j (whole (fed_by (state_of c t m) (take k l) (drop n input))) a → Goes keep w b q still a'
    fed-goes f g = f w b still (comes_as keep w b j (whole (fed_by (state_of c t m) (take k l) (drop n input))) (take (r.printed - 0) (drop 0 o') ++ still) a comes g)

  -- all bytes are fed
  pub fed-over : (c : Script) (k n j : ℕ) (l t : List ℕ) (m : List (Option Sel)) (input a : List ℕ) → length input ≤ n → k ≤ length l
      → Going keep w b j (whole (fed_by (state_of c t m) (take k l) (drop n input))) a → GoesFed keep w b (Ok (record { script = c; pending = k; printed = j })) (λ (f : FedOver). closing (state_of f.script t m) f.pending) a
  fed-over c k n j l t m input a h i g =
      let s : State = state_of c t m in
      let e : whole (fed_by s (take k l) (drop n input)) ≡ closing s k =
      ap (λ (z : List ℕ). whole (fed_by s (take k l) z)) (drop_of_length-le input h) ∙ whole-none s (take k l) ∙ ap (closing s) (length-take-le k l i) in
      ends_as keep w b (record { script = c; pending = k; printed = j }) (λ (f : FedOver). closing (state_of f.script t m) f.pending) (whole (fed_by s (take k l) (drop n input))) a e g

  -- x is all that is still to come, and stands in front of y
  pub last_comes : (x o y a : List ℕ) (j n : ℕ) → y ≡ over x o → n ≡ length x → Going keep w b j x a → Going keep w b j (take (n - 0) (drop 0 y) ++ []) a
  last_comes x o y a j n e q g = comes_as keep w b j x (take (n - 0) (drop 0 y) ++ []) a (sym (append-nil (take (n - 0) (drop 0 y)) ∙ printed-part x o y n e q)) g
