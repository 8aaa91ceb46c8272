use Rattle.cells.proofs.count_near.Goals as goal

pub returns-then-is_count : goal.returns-then-is_count
returns-then-is_count c = c.is_count.ensures c.if-is_count.true
