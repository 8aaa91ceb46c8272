-- A script run from its opening, first to count and then to keep what it prints.
use mathlib.Core.Path.{◌≡◌, refl, ap, ◌∙◌}
use mathlib.Core.Bool.{Bool, true, false}
use mathlib.Core.List.{List, []}
use Prim.Native.Nat.{ℕ, ◌≤◌}
use native.Mathlib.Omega.{arith}
use lib.ListN.{length, replicate, length-drop}
use lib.Seq.{take_all}
use Rattle.promise.specs.Paper.{refused}
use Rattle.promise.specs.Slices.{over}
use Rattle.utf8.specs.Calls.{outcome, stored}
use Rattle.utf8.proofs.Stores.{stored-not, stored-all}
use Rattle.loading.specs.declared.Script.{Script}
use Rattle.loading.specs.States.{opening, script_of, state_of}
use Rattle.step.specs.Calls.{Ready}
use Rattle.step.proofs.Readies.{opening-state, ready_opening}
use Rattle.std.specs.Prelude.{None, Result, Ok, Err}
use Rattle.utf8.specs.declared.NoRoom.{NoRoom}
use Rattle.script.specs.declared.feeding.FedOver.{FedOver}
use Rattle.feed.specs.Scripts.{output}
use Rattle.feed.specs.Feeds.{fed_by, whole}
use Rattle.feed.proofs.Wholes.{whole-output}
use Rattle.script.specs.Courses.{Going, Goes, GoesFed}
use Rattle.script.specs.Calls.{paper_ran}

-- ---- the opening

module _ (c : Script) (e : c ≡ script_of opening) where
  pub opens-ready : Ready c (replicate 4_096 0) (replicate 64 None)
  opens-ready = rw e ready_opening

  pub opens-run : (keep : Bool) (w b : List ℕ) (r : Result FedOver NoRoom) (still : FedOver → List ℕ) (a : List ℕ)
      → GoesFed keep (whole (fed_by (state_of c (replicate 4_096 0) (replicate 64 None)) [] w)) b r still a → GoesFed keep (output w) b r still a
  opens-run keep w b r still a g = rw (e, opening-state, whole-output) at g

-- ---- both runs

module _ (w b : List ℕ) where
  -- all of it is printed
  printed-all : (keep : Bool) (k : ℕ) (a : List ℕ) → Going keep w b k [] a → length w ≡ k
  printed-all keep k a g = omega (arith, length-drop k w, ap length g.left, g.within)

  module _ (r : Result ℕ NoRoom) (a : List ℕ) (g : Goes false w b r [] a) where
    pub ran-not : (e : NoRoom) → r ≡ Err e → outcome (refused 8 0) a ≡ stored w b
    ran-not e q = ap (outcome (refused 8 0)) (g.same refl) ∙ stored-not w b (length w) refl (g.long e q)

    pub ran-whole : (k : ℕ) → r ≡ Ok k → (q : Result ℕ NoRoom) (y : List ℕ) → Goes true w a q [] y → outcome (paper_ran q) y ≡ stored w b
    ran-whole k e q y h = go q (rw (g.same refl) at h)
      where
        fits : length w ≤ length b
        fits = omega (arith, printed-all false k a (g.on k e), (g.on k e).fits)

        go : (q : Result ℕ NoRoom) → Goes true w b q [] y → outcome (paper_ran q) y ≡ stored w b
        go (Ok n) h =
            let t = h.on n refl in
            let m = printed-all true n y t in
            let o : y ≡ over w b = t.kept ∙ rw (take_all n w (omega arith)) in
            stored-all w b n m y (omega (arith, fits)) o
        go (Err e) h = absurd (omega (arith, fits, h.long e refl))
