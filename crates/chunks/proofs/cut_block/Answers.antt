use Rattle.chunks.proofs.Local.{gone_within, front-asked, block_found}
use native.Mathlib.Omega.{arith}
use borrow.Author.Rules.{rules}
use Rattle.chunks.proofs.cut_block.Goals as goal

pub overflow_sub-gone : goal.overflow_sub-gone
overflow_sub-gone c = let a = c.args in let p = c.requires in omega (arith, (gone_within a.text.now a.used a.at a.widths.now a.pads.now a.sizes p.7 p.0 p.4).0)

pub slice_bounds-cut_rows-end : goal.slice_bounds-cut_rows-end
slice_bounds-cut_rows-end c = let a = c.args in let p = c.requires in omega (arith, p.0, (gone_within a.text.now a.used a.at a.widths.now a.pads.now a.sizes p.7 p.0 p.4).2)

pub cut_rows-requires : goal.cut_rows-requires
cut_rows-requires c = let a = c.args in let p = c.requires in front-asked a.text.now a.used a.at a.widths.now a.pads.now a.sizes p.7 p.0 p.4 p.1 p.2 p.3 a.out.now a.lens.now p.5 p.6

pub overflow_sub-end : goal.overflow_sub-end
overflow_sub-end c = let a = c.args in let p = c.requires in omega (arith, (gone_within a.text.now a.used a.at a.widths.now a.pads.now a.sizes p.7 p.0 p.4).1)

pub remove-requires : goal.remove-requires
remove-requires c = let a = c.args in let p = c.requires in let q = gone_within a.text.now a.used a.at a.widths.now a.pads.now a.sizes p.7 p.0 p.4 in (omega (arith, q.2), omega (arith, q.2), search rules)

pub returns : goal.returns
returns c = let a = c.args in let p = c.requires in block_found a.text.now a.used a.at a.widths.now a.pads.now a.sizes p.7 p.0 p.4 c.cut_rows.new.text _ a.out.now _ a.lens.now _ c.cut_rows.ensures c.remove.ensures
