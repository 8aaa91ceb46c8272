use mathlib.Core.Path.{ap}
use native.Mathlib.Omega.{arith}
use lib.ListN.{length-take, length-drop}
use Rattle.promise.specs.Paper.{Paper, done}
use Rattle.text.proofs.Texts.{bad_text, good_text, done_text}
use Rattle.text.specs.Rows.{clamp}
use Rattle.text.specs.Text.{is_lf}
use Rattle.text.specs.declared.Position.{Position}
use Rattle.rows.proofs.clamp_position.Goals as goal

pub returns-then-not-is_text : goal.returns-then-not-is_text
returns-then-not-is_text c = let a = c.args in bad_text a.buffer.now a.used _ c.is_text.ensures (λ t. clamp is_lf t a.pos) c.if-not-is_text.true-raw

pub slice_bounds-clamp-end : goal.slice_bounds-clamp-end
slice_bounds-clamp-end c = let a = c.args in (good_text a.buffer.now a.used _ c.is_text.ensures c.if-not-is_text.false-raw).0

pub clamp-requires : goal.clamp-requires
clamp-requires c = let a = c.args in let g = good_text a.buffer.now a.used _ c.is_text.ensures c.if-not-is_text.false-raw in simp (length-take, length-drop) (omega arith)

pub returns : goal.returns
returns c = let a = c.args in done_text a.buffer.now a.used _ c.is_text.ensures (λ t. clamp is_lf t a.pos) _ c.if-not-is_text.false-raw (ap {B = Paper Position} done c.clamp.ensures)
