use borrow.Author.Tests.{eq-eqb, ne_eqb}
use Rattle.sequences.proofs.end_after.Goals as goal

pub returns-then-lead-edge : goal.returns-then-lead-edge
returns-then-lead-edge c = rw (eq-eqb c.args.lead c.args.edge c.if-lead-edge.true)

pub returns-else-lead-edge : goal.returns-else-lead-edge
returns-else-lead-edge c = rw (ne_eqb c.args.lead c.args.edge c.if-lead-edge.false)
