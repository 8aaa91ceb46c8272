use mathlib.Core.Path.{◌≡◌, ◌∙◌, ap}
use Prim.Native.Nat.{◌+◌}
use lib.ListN.{length, drop}
use Rattle.text.specs.Text.{is_lf}
use Rattle.text.specs.Rows.{lines}
use Rattle.edit.proofs.Sizes.{block_inserted-length}
use Rattle.blocks.specs.declared.Put.{Put}
use Rattle.blocks.specs.Blocks.{last_end}
use Rattle.blocks.proofs.Starts.{row_there, end-within, begins-next}
use Rattle.blocks.proofs.Puts.{pad_at, growth_next, growth_end}
use Rattle.blocks.proofs.Local.{end-next}
use native.Mathlib.Omega.{arith}
use Rattle.blocks.proofs.put_size.Goals as goal

pub put_splice-put-requires : goal.put_splice-put-requires
put_splice-put-requires c = let a = c.args in let l = c.loop-k in (c.requires.0, row_there a.text.now a.at.row.0 l.k (length a.lens.now) (omega arith) c.requires.3, l.invariant.2 (omega arith))

pub overflow_add-start : goal.overflow_add-start
overflow_add-start c = let a = c.args in omega (arith, end-within a.text.now a.at.row.0 c.loop-k.k _ (ap (λ (p : Put). p.end.0) c.put_splice-put.ensures), c.requires.0)

pub loop-k-preserved : goal.loop-k-preserved
loop-k-preserved c = let a = c.args in let l = c.loop-k in let q = c.put_splice-put.result.pad in let e : q ≡ pad_at a.text.now (a.at.row.0 + l.k) a.at.col.0 = ap (λ (p : Put). p.pad) c.put_splice-put.ensures in (omega (arith, c.struct_known-1.given, c.type_inv.lens l.k), omega (arith, l.invariant.1, e, growth_next a.text.now a.at.row.0 a.at.col.0 l.k a.lens.now (omega arith) (row_there a.text.now a.at.row.0 l.k (length a.lens.now) (omega arith) c.requires.3)), begins-next a.text.now a.at.row.0 l.k _ (ap (λ (p : Put). p.end.0) c.put_splice-put.ensures) (length a.lens.now) c.requires.3, end-next a.text.now a.at.row.0 l.k _ (ap (λ (p : Put). p.end.0) c.put_splice-put.ensures))

pub returns : goal.returns
returns c = let a = c.args in let l = c.loop-k in let z : l.k ≡ length a.lens.now = omega arith in (λ x h. omega (arith, l.invariant.1, growth_end a.at.col.0 l.k a.lens.now (drop (a.at.row.0 + l.k) (lines is_lf a.text.now)) (omega arith), block_inserted-length a.text.now a.at x a.lens.now h), c.line_to_char-first.ensures, l.invariant.3 ∙ ap (last_end a.text.now a.at.row.0) z)
