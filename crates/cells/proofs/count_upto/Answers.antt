use borrow.Author.Rules.{rules}
use lib.Dec.{leb}
use Rattle.std.proofs.lemmas.List.Sorted.{IsPartitionPoint-from_clause}
use Rattle.cells.proofs.Tables.{parted, point_counts}
use Rattle.cells.proofs.count_upto.Goals as goal

pub returns : goal.returns
returns c = let t = c.args.table.now in let v = c.args.value in
    point_counts v _ t c.requires c.partition_point.ensures.bound
    (IsPartitionPoint-from_clause (λ y. leb y v) t _ c.partition_point.ensures.partitioned (parted v t c.requires) (λ a r q k. search rules))
