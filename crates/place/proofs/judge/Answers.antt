use Rattle.frame.specs.declared.Head.TheVariants as as_head
use Rattle.frame.specs.Forms.{line_form}
use Rattle.place.proofs.ByHeads.{judged-told, judged-late, judged-text, judged-mark, judged-misplaced}
use Rattle.place.proofs.judge.Goals as goal

pub returns-in-Malformed : goal.returns-in-Malformed
returns-in-Malformed c = let a = c.args in judged-told a.place a.text.now (line_form a.line.now) c.line_head-head.result c.line_head-head.ensures as_head.Malformed c.in-Malformed.is

pub returns-then-place : goal.returns-then-place
returns-then-place c = let a = c.args in judged-late a.place a.text.now (line_form a.line.now) c.line_head-head.result c.line_head-head.ensures c.in-Text.is c.if-place.true

pub returns-else-place : goal.returns-else-place
returns-else-place c = let a = c.args in judged-text a.place a.text.now (line_form a.line.now) c.line_head-head.result c.line_head-head.ensures c.in-Text.is c.if-place.false

pub returns-then-is_placed : goal.returns-then-is_placed
returns-then-is_placed c = let a = c.args in judged-mark a.place a.text.now (line_form a.line.now) c.line_head-head.result c.line_head-head.ensures _ c.is_placed.result c.in-Mark.is c.is_placed.ensures c.if-is_placed.true

pub returns-else-is_placed : goal.returns-else-is_placed
returns-else-is_placed c = let a = c.args in judged-misplaced a.place a.text.now (line_form a.line.now) c.line_head-head.result c.line_head-head.ensures _ c.is_placed.result c.in-Mark.is c.is_placed.ensures c.if-is_placed.false

pub returns-in-Edit : goal.returns-in-Edit
returns-in-Edit c = let a = c.args in judged-told a.place a.text.now (line_form a.line.now) c.line_head-head.result c.line_head-head.ensures (as_head.Edit c.in-Edit.edit) c.in-Edit.is
