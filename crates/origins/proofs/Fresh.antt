-- What an edit puts in has no place in the opening text.
use mathlib.Core.Path.{◌≡◌, ◌∙◌, ap}
use mathlib.Core.List.{List, [], ◌∷◌, ◌++◌}
use Prim.Native.Nat.{ℕ, suc}
use native.Mathlib.Omega.{arith}
use Rattle.promise.proofs.Lists.{none_in}
use Rattle.text.specs.declared.Position.{Position}
use Rattle.origins.specs.Origins.{opening, payload, padding, join_space, split_break, Traced, traced, numbered}

pub no_padding : (k : ℕ) (p : Position) → padding k ≡ opening p → ⊥
no_padding k p e = let n : ◌≡◌ {A = ℕ} 0 1 = cc in omega arith

pub no_space : (k : ℕ) (p : Position) → join_space k ≡ opening p → ⊥
no_space k p e = let n : ◌≡◌ {A = ℕ} 0 1 = cc in omega arith

pub no_break : (k : ℕ) (p : Position) → split_break k ≡ opening p → ⊥
no_break k p e = let n : ◌≡◌ {A = ℕ} 0 1 = cc in omega arith

pub no_item : (k i : ℕ) (p : Position) → payload k i ≡ opening p → ⊥
no_item k i p e = let n : ◌≡◌ {A = ℕ} 0 1 = cc in omega arith

pub no_payload : (k i : ℕ) (x : List ℕ) (u : List Traced) (y : Traced) (w : List Traced) → numbered k i x ≡ u ++ y ∷ w → (p : Position) → y.origin ≡ opening p → ⊥
unfolding numbered
no_payload k i [] u y w e p o = none_in u y w e
no_payload k i (z ∷ x) [] y w e p o =
    let q : traced z (payload k i) ≡ y = cc in
    no_item k i p (ap (λ (c : Traced). c.origin) q ∙ o)
no_payload k i (z ∷ x) (c ∷ u) y w e p o = no_payload k (suc i) x u y w (cc) p o
