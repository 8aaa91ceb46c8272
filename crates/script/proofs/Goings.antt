-- What is printed line by line, and all of it.
use mathlib.Core.Path.{◌≡◌, refl, sym, ap, ◌∙◌}
use mathlib.Core.Bool.{Bool, true, false, cond, true≢false}
use mathlib.Core.List.{List, [], ◌++◌}
use Prim.Native.Nat.{ℕ, ◌+◌, ◌-◌, ◌≤◌, ◌<◌}
use native.Mathlib.Omega.{arith}
use lib.ListN.{length, take, length-append, length-drop}
use lib.Seq.{paste, take-add, drop-drop, take-append_seam, drop-append_seam, length-take-le}
use Rattle.promise.specs.Slices.{over}
use Rattle.promise.proofs.Lists.{paste-behind}
use Rattle.std.specs.Prelude.{Result, Ok, Err}
use Rattle.std.specs.Result.{is_ok}
use Rattle.std.proofs.lemmas.Result.{IfOk-at_ok}
use Rattle.utf8.specs.declared.NoRoom.{NoRoom}
use Rattle.script.specs.declared.feeding.FedOver.{FedOver}
use Rattle.script.specs.Courses.{Going, Goes, GoesFed}

apart : {A : Type 0} {r : Result A NoRoom} {x : A} {e : NoRoom} → r ≡ Ok x → r ≡ Err e → ⊥
apart {A} p q = true≢false (ap (λ (r : Result A NoRoom). is_ok r) (sym p ∙ q))

module _ (keep : Bool) (w b : List ℕ) where
  -- the slice is as long as it was
  long_as : (k : ℕ) (x a : List ℕ) → length x ≡ k → k ≤ length b → a ≡ cond keep (over x b) b → length a ≡ length b
  long_as k x a e h q = ap length q ∙ go keep
    where
      go : (q : Bool) → length (cond q (over x b) b) ≡ length b
      go true = simp (length-append, length-drop) (omega arith)
      go false = refl

  -- a run that only counts changes nothing
  unkept : (x a : List ℕ) → a ≡ cond keep x b → keep ≡ false → a ≡ b
  unkept x a q e = rw e at q

  -- a line behind what the slice holds
  behind : (k : ℕ) (x l a y : List ℕ) → length x ≡ k → a ≡ cond keep (over x b) b → y ≡ cond keep (paste a k l (length l)) a → y ≡ cond keep (over (x ++ l) b) b
  behind k x l a y e q p = p ∙ rw q (go keep)
    where
      go : (q : Bool) → cond q (paste (cond q (over x b) b) k l (length l)) (cond q (over x b) b) ≡ cond q (over (x ++ l) b) b
      go true = paste-behind x l b k (length l) e refl
      go false = refl

  goes_on : (k : ℕ) (rest a : List ℕ) → Going keep w b k rest a → Goes keep w b (Ok k) rest a
  goes_on k rest a g = record { long = λ e q. absurd (apart refl q); on = λ n q. IfOk-at_ok (λ (n : ℕ). Going keep w b n rest a) q g; same = unkept (over (take k w) b) a g.kept }

  module _ (k : ℕ) (l rest a : List ℕ) (g : Going keep w b k (l ++ rest) a) where
    size : length a ≡ length b
    size = long_as k (take k w) a (length-take-le k w g.within) g.fits g.kept

    coming : length w ≡ k + (length l + length rest)
    coming = omega (arith, length-drop k w, ap length g.left, length-append l rest, g.within)

    pub too_long : length a - k < length l → Goes keep w b (Err (record {})) rest a
    too_long h = record { long = λ e q. omega (arith, size, coming, g.fits); on = λ n q. absurd (apart q refl); same = unkept (over (take k w) b) a g.kept }

    pub added : (y : List ℕ) → length l ≤ length a - k → y ≡ cond keep (paste a k l (length l)) a → Goes keep w b (Ok (k + length l)) rest y
    added y h p =
        let t : take (k + length l) w ≡ take k w ++ l = take-add k (length l) w ∙ rw (g.left, take-append_seam) in
        let q : y ≡ cond keep (over (take (k + length l) w) b) b = rw t (behind k (take k w) l a y (length-take-le k w g.within) g.kept p) in
        goes_on (k + length l) rest y (record { within = omega (arith, coming); fits = omega (arith, size, g.fits); left = sym (drop-drop (length l) k w) ∙ rw (g.left, drop-append_seam); kept = q })

  -- nothing is printed yet
  pub none_printed : Going keep w b 0 w b
  none_printed = record { within = omega arith; fits = omega arith; left = refl; kept = go keep }
    where
      go : (q : Bool) → b ≡ cond q (over [] b) b
      go true = refl
      go false = refl

  -- the same is to come, said otherwise
  pub comes_as : (k : ℕ) (rest more a : List ℕ) → rest ≡ more → Going keep w b k rest a → Going keep w b k more a
  comes_as k rest more a e g = record { within = g.within; fits = g.fits; left = g.left ∙ e; kept = g.kept }

  pub ends_as : (f : FedOver) (still : FedOver → List ℕ) (rest a : List ℕ) → rest ≡ still f → Going keep w b f.printed rest a → GoesFed keep w b (Ok f) still a
  ends_as f still rest a e g = record {
    long = λ x q. absurd (apart refl q);
    on = λ x q. IfOk-at_ok (λ (x : FedOver). Going keep w b x.printed (still x) a) q (comes_as f.printed rest (still f) a e g);
    same = unkept (over (take f.printed w) b) a g.kept;
  }

  -- once it does not fit, whatever was to come
  module _ (e e' : NoRoom) (a : List ℕ) where
    pub stays_long : (r : Result ℕ NoRoom) (rest : List ℕ) (still : FedOver → List ℕ) → r ≡ Err e → Goes keep w b r rest a → GoesFed keep w b (Err e') still a
    stays_long r rest still q g = record { long = λ x p. g.long e q; on = λ f p. absurd (apart p refl); same = g.same }

    pub ends_long : (r : Result FedOver NoRoom) (still : FedOver → List ℕ) (rest : List ℕ) → r ≡ Err e → GoesFed keep w b r still a → Goes keep w b (Err e') rest a
    ends_long r still rest q g = record { long = λ x p. g.long e q; on = λ k p. absurd (apart p refl); same = g.same }
