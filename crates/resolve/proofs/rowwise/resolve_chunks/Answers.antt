use Rattle.resolve.proofs.RowEdits.{chunks_resolve}
use mathlib.Core.List.{[]}
use borrow.Author.Rules.{rules}
use Rattle.resolve.proofs.rowwise.resolve_chunks.Goals as goal

pub returns : goal.returns
returns c = let a = c.args in let e = c.cut_from-made.ensures in
    λ x. chunks_resolve a.text.now x [] _ a.at _ a.widths.now a.pads.now (search rules) c.requires.1 e.few e.come (e.by_index x)
