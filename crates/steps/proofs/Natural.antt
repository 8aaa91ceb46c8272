-- A map of the elements, through steps.
use mathlib.Core.Path.{◌≡◌, refl}
use mathlib.Core.List.{List, [], ◌∷◌, ◌++◌, map}
use Prim.Native.Nat.{◌+◌, ◌-◌}
use lib.ListN.{take, drop, replicate}
use Rattle.edit.proofs.Maps.{map-append, map-take, map-drop, map-replicate}
use Rattle.steps.specs.Steps.{Step, brought, woven, cut_of}
use Rattle.steps.specs.Theorems.{map_step}

module _ {A B : Type 0} (f : A → B) where
  pub woven-map : (v : A) (ss : List (Step A)) (t : List A) → woven (f v) (map (map_step f) ss) (map f t) ≡ map f (woven v ss t)
  unfolding woven
  woven-map v [] t = refl
  woven-map v (s ∷ ss) t =
      let r : List A = drop (s.keep + s.gone) t in
      rw (map-take f s.keep t, map-drop f (s.keep + s.gone) t, woven-map v ss r, map-append f (take s.keep t) (brought v s ++ woven v ss r), map-append f (brought v s) (woven v ss r), map-append f (replicate s.pad v) s.come, map-replicate f s.pad v)

  pub cut_map : (ss : List (Step A)) (t : List A) → cut_of (map (map_step f) ss) (map f t) ≡ map f (cut_of ss t)
  unfolding cut_of
  cut_map [] t = refl
  cut_map (s ∷ ss) t =
      let r : List A = drop (s.keep + s.gone) t in
      let u : List A = drop (s.keep + s.lost) t in
      rw (map-drop f (s.keep + s.lost) t, map-take f (s.gone - s.lost) u, map-drop f (s.keep + s.gone) t, cut_map ss r, map-append f (take (s.gone - s.lost) u) (cut_of ss r))
