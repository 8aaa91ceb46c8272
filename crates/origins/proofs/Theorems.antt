-- The statements.
use mathlib.Core.Path.{◌≡◌, ◌∙◌, ap}
use mathlib.Core.List.{List}
use Prim.Native.Nat.{ℕ}
use Rattle.promise.proofs.Lists.{every_one}
use Rattle.text.specs.declared.Position.{Position}
use Rattle.text.specs.Rows.{at}
use Rattle.origins.specs.Origins.{opening, opened}
use Rattle.origins.specs.Theorems.{text_run, OriginsKeepText, StandsAt, OriginsStood}
use Rattle.origins.proofs.Values.{opened-value, run_value}
use Rattle.origins.proofs.Stood.{all-stood}

pub origins_keep_text : OriginsKeepText
origins_keep_text t ws = run_value 0 (opened t) ws ∙ ap (λ (u : List ℕ). text_run u ws) (opened-value (at 0 0) t)

pub origins_stood : OriginsStood
origins_stood t ws before behind c p e o =
    every_one (λ c. (p : Position) → c.origin ≡ opening p → StandsAt t c.value p) before c behind (rw e at (all-stood t ws)) p o
