use mathlib.Core.Path.{sym, ◌∙◌}
use native.Mathlib.Omega.{arith}
use borrow.Author.Tests.{not-true, not-false}
use Rattle.hexline.proofs.Pairs.{unhexed-length}
use Rattle.hexline.proofs.Calls.{unhex_long, unhex_bad, unhex_full, unhex_all}
use Rattle.hexline.proofs.unhex.Goals as goal

pub returns-then-line-gt-DIGIT_LIMIT : goal.returns-then-line-gt-DIGIT_LIMIT
returns-then-line-gt-DIGIT_LIMIT c = let a = c.args in unhex_long a.line.now a.out.now (omega arith)

pub returns-then-not-is_paired : goal.returns-then-not-is_paired
returns-then-not-is_paired c = unhex_bad _ _ (sym c.is_paired.ensures ∙ not-true _ c.if-not-is_paired.true-raw)

pub returns-then-out-count : goal.returns-then-out-count
returns-then-out-count c = let a = c.args in unhex_full a.line.now a.out.now (omega arith) (sym c.is_paired.ensures ∙ not-false _ c.if-not-is_paired.false-raw) (omega arith)

pub fill_bytes-requires : goal.fill_bytes-requires
fill_bytes-requires c = (sym c.is_paired.ensures ∙ not-false _ c.if-not-is_paired.false-raw, omega (arith, unhexed-length c.args.line.now))

pub returns : goal.returns
returns c = let a = c.args in unhex_all a.line.now a.out.now _ (omega arith) (sym c.is_paired.ensures ∙ not-false _ c.if-not-is_paired.false-raw) (omega arith) c.fill_bytes.ensures
