-- Steps as numbers in a slice, five to each: how many stay, how many go, how many are made and then how many of the payload come, and how many
-- of those that go are lost.
use mathlib.Core.List.{List, [], ◌∷◌}
use Prim.Native.Nat.{ℕ, zero, suc, ◌+◌, ◌-◌}
use lib.ListN.{take, drop, get_or}
use lib.Seq.{slice}
use Rattle.steps.specs.Steps.{Step, step, woven}

-- n steps in the slice l, with the payload x
unfoldable pub steps_of : ℕ → List ℕ → List ℕ → List (Step ℕ)
steps_of zero l x = []
steps_of (suc n) l x = step (get_or l 0 0) (get_or l 1 0) (get_or l 2 0) (get_or l 4 0) (take (get_or l 3 0) x) ∷ steps_of n (drop 5 l) (drop (get_or l 3 0) x)

-- ---- their sums

unfoldable pub passed_by : ℕ → List ℕ → ℕ
passed_by zero l = 0
passed_by (suc n) l = get_or l 0 0 + get_or l 1 0 + passed_by n (drop 5 l)

unfoldable pub laid_by : ℕ → List ℕ → ℕ
laid_by zero l = 0
laid_by (suc n) l = get_or l 0 0 + get_or l 2 0 + get_or l 3 0 + laid_by n (drop 5 l)

unfoldable pub come_by : ℕ → List ℕ → ℕ
come_by zero l = 0
come_by (suc n) l = get_or l 3 0 + come_by n (drop 5 l)

unfoldable pub cut_by : ℕ → List ℕ → ℕ
cut_by zero l = 0
cut_by (suc n) l = get_or l 1 0 - get_or l 4 0 + cut_by n (drop 5 l)

-- how long the rest of a text from `from` up to `used` becomes
abbrev pub size_by : ℕ → List ℕ → ℕ → ℕ → ℕ
size_by n l from used = laid_by n l + (used - (from + passed_by n l))

-- what stands from `from` up to `used`, woven
abbrev pub woven_from : ℕ → List ℕ → ℕ → ℕ → ℕ → List ℕ → List ℕ → List ℕ
woven_from v b used from n l x = woven v (steps_of n l x) (slice from used b)
