use mathlib.Core.Path.{sym, ◌∙◌}
use native.Mathlib.Omega.{arith}
use borrow.Author.Tests.{not-false}
use Rattle.encoding.proofs.Sequences.{sequence_good, sequence_bad}
use Rattle.utf8.proofs.Numbers.{scalar-low, scalar-le, octets-1, octets-2, octets-3, octets-4}
use Rattle.encoding.proofs.sequence_of.Goals as goal

pub returns-then-value-le127 : goal.returns-then-value-le127
returns-then-value-le127 c = let v = c.args.value in sequence_good v _ (scalar-low v (omega arith)) (octets-1 v c.if-value-le127.true)

pub returns-then-not-is_scalar : goal.returns-then-not-is_scalar
returns-then-not-is_scalar c = sequence_bad c.args.value _ c.is_scalar.ensures c.if-not-is_scalar.true-raw

pub returns-then-value-le2047 : goal.returns-then-value-le2047
returns-then-value-le2047 c = let v = c.args.value in
    sequence_good v _ (sym c.is_scalar.ensures ∙ not-false _ c.if-not-is_scalar.false-raw) (octets-2 v c.if-value-le127.false c.if-value-le2047.true ∙ rw c.tail.ensures)

pub returns-then-value-le65535 : goal.returns-then-value-le65535
returns-then-value-le65535 c = let v = c.args.value in
    sequence_good v _ (sym c.is_scalar.ensures ∙ not-false _ c.if-not-is_scalar.false-raw) (octets-3 v c.if-value-le2047.false c.if-value-le65535.true ∙ rw (c.lead_of_three.ensures, c.tail-then-value-le65535.ensures, c.tail-then-value-le65535-2.ensures))

pub overflow_cast-result-2 : goal.overflow_cast-result-2
overflow_cast-result-2 c = omega (arith, scalar-le c.args.value (sym c.is_scalar.ensures ∙ not-false _ c.if-not-is_scalar.false-raw))

pub returns : goal.returns
returns c = let v = c.args.value in
    sequence_good v _ (sym c.is_scalar.ensures ∙ not-false _ c.if-not-is_scalar.false-raw) (octets-4 v c.if-value-le65535.false ∙ rw (c.tail-2.ensures, c.tail-3.ensures, c.tail-4.ensures))
