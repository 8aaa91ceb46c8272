use mathlib.Core.Path.{ap, ◌∙◌}
use Prim.Native.Nat.{ℕ, ◌-◌, min, max}
use Rattle.after.proofs.JoinCols.{join-above, join_below, join-onto}
use native.Mathlib.Omega.{arith}
use Rattle.std.proofs.lemmas.Bool.Decides.{nat_tests}
use Rattle.after.proofs.after_join.Goals as goal

pub returns-then-le : goal.returns-then-le
returns-then-le c = let a = c.args in join-above a.pos a.row.0 a.count a.spaced a.text.now (grind (arith, nat_tests))

pub returns-then-joined-down : goal.returns-then-joined-down
returns-then-joined-down c = let a = c.args in join_below a.pos a.row.0 a.count a.spaced a.text.now c.joins_made-joined.result (c.joins_made-joined.ensures ∙ ap (λ (n : ℕ). min (max a.count 1) (n - a.row.0)) c.last_row.ensures) (grind (arith, nat_tests)) c.if-joined-down.true

pub returns : goal.returns
returns c = let a = c.args in join-onto a.pos a.row.0 a.count a.spaced a.text.now c.joins_made-joined.result (c.joins_made-joined.ensures ∙ ap (λ (n : ℕ). min (max a.count 1) (n - a.row.0)) c.last_row.ensures) (grind (arith, nat_tests)) c.if-joined-down.false c.start_col-start.result.0 c.start_col-start.ensures.0
