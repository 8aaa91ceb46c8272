-- A text loaded, or the refusal of its line.
use mathlib.Core.Path.{◌≡◌}
use mathlib.Core.Bool.{Bool, true, false, not}
use mathlib.Core.List.{List, [], ◌∷◌}
use Prim.Native.Nat.{ℕ, ◌≤◌, ◌<◌}
use borrow.Author.Tests.{le-ltb, lt-ltb}
use lib.ListN.{length}
use lib.Seq.{paste}
use Rattle.promise.specs.Paper.{Paper, done, refused}
use Rattle.promise.specs.Slices.{over}
use Rattle.text.specs.Rows.{at}
use Rattle.text.specs.Text.{all_admissible}
use Rattle.splice.proofs.Overs.{paste-over}
use Rattle.edit.specs.declared.View.{View}
use Rattle.edit.specs.Edits.{Whole}
use Rattle.select.specs.declared.Sel.{Sel}
use Rattle.shift.specs.Answers.{Followed}
use Rattle.hexline.specs.Digits.{hexed}
use Rattle.frame.specs.Format.{Frame, text}
use Rattle.printing.specs.Prints.{printed_as}
use Rattle.loading.specs.declared.Script.{Script}
use Rattle.loading.specs.declared.Progress.{Progress}
use Rattle.loading.specs.States.{State, state}
use Rattle.loading.specs.Loads.{Stepped, refuses, loaded, framed_by}
use Rattle.loading.specs.Calls.{part, part_of}

-- what `refuse` leaves
abbrev pub Refuses : Script → Progress → ℕ → List ℕ → List ℕ → Type 0
Refuses c r n out o = (r.script ≡ c) × (r.printed ≡ 3) × (o ≡ over (printed_as (n ∷ [])) out)

module _ (c : Script) (t out : List ℕ) (ms : List (Followed Sel)) where
  abbrev before : State
  before = state c.view t c.place ms

  refused_part : (r : Progress) (n : ℕ) (o : List ℕ) → Refuses c r n out o → part r t o ≡ part_of (refuses before n) out
  unfolding hexed
  refused_part r n o e = rw (e.0, e.1, e.2)

  module _ (cs : List ℕ) (b : Bool) (a : b ≡ all_admissible cs) where
    pub load_bad : (r : Progress) (o : List ℕ) → not b ≡ true → Refuses c r 1 out o → part r t o ≡ part_of (loaded before cs) out
    unfolding loaded
    load_bad r o n e = rw (← a, n) (refused_part r 1 o e)

    module _ (n : not b ≡ false) where
      pub load_long : (r : Progress) (o : List ℕ) → length t < length cs → Refuses c r 8 out o → part r t o ≡ part_of (loaded before cs) out
      unfolding loaded
      load_long r o h e = rw (← a, n, lt-ltb (length t) (length cs) h) (refused_part r 8 o e)

      pub load_whole : (u : List ℕ) (v : View) → length cs ≤ length t → u ≡ paste t 0 cs (length cs) → v ≡ record { used = length cs; cursor = at 0 0; changes = c.view.changes }
          → part (record { script = record { view = v; place = c.place }; printed = 0 }) u out ≡ part_of (loaded before cs) out
      unfolding loaded
      load_whole u v h p q = rw (← a, n, le-ltb (length t) (length cs) h, p, paste-over, q)

  -- a line that is read as p
  module _ (f : Whole ℕ → Stepped) (p : Paper Frame) where
    pub text-framed : (r : Progress) (cs u o : List ℕ) → p ≡ done (text cs) → part r u o ≡ part_of (loaded before cs) out → part r u o ≡ part_of (framed_by f before p) out
    unfolding framed_by
    text-framed r cs u o e h = rw e h

    pub refused_framed : (r : Progress) (n k : ℕ) (o : List ℕ) → p ≡ refused n k → Refuses c r n out o → part r t o ≡ part_of (framed_by f before p) out
    unfolding framed_by
    refused_framed r n k o e h = rw e (refused_part r n o h)
