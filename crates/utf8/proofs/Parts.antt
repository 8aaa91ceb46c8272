-- Lists in parts: whether all are scalars, and what they are written as.
use mathlib.Core.Path.{◌≡◌, refl, sym}
use mathlib.Core.Bool.{◌&&◌, and_assoc}
use mathlib.Core.List.{List, [], ◌∷◌, ◌++◌, map, flatten, append_assoc}
use Prim.Native.Nat.{ℕ}
use Rattle.utf8.specs.Rfc3629.{scalar, octets}
use Rattle.utf8.specs.Reading.{all_scalar, writing}

pub scalars_append : (xs ys : List ℕ) → all_scalar (xs ++ ys) ≡ (all_scalar xs && all_scalar ys)
unfolding all_scalar
scalars_append [] ys = refl
scalars_append (x ∷ xs) ys = rw (scalars_append xs ys) (sym (and_assoc (scalar x) (all_scalar xs) (all_scalar ys)))

pub writing-append : (xs ys : List ℕ) → writing (xs ++ ys) ≡ writing xs ++ writing ys
unfolding writing
writing-append [] ys = refl
writing-append (x ∷ xs) ys = rw (writing-append xs ys) (sym (append_assoc (octets x) (writing xs) (writing ys)))

pub writing-flatten : (ks : List (List ℕ)) → writing (flatten ks) ≡ flatten (map writing ks)
unfolding writing flatten
writing-flatten [] = refl
writing-flatten (k ∷ ks) = rw (writing-append k (flatten ks), writing-flatten ks)
