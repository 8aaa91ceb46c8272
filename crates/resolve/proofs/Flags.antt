-- A scan for a flag.
use mathlib.Core.Path.{◌≡◌, refl, ap}
use mathlib.Core.Bool.{not, ◌||◌}
use mathlib.Core.List.{List, [], ◌∷◌}
use Prim.Native.Nat.{ℕ}
use lib.Dec.{eqb}
use Rattle.std.specs.List.{list_any}
use Rattle.edit.specs.Edits.{any_flag}

pub any-listed : (s : List ℕ) → list_any (λ x. not (eqb x 0)) s ≡ any_flag s
unfolding any_flag
any-listed [] = refl
any-listed (x ∷ s) = ap (λ b. not (eqb x 0) || b) (any-listed s)
