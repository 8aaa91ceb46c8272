use mathlib.Core.Path.{ap, ◌∙◌}
use native.Mathlib.Omega.{arith}
use lib.ListN.{length-take, length-drop}
use Rattle.promise.specs.Paper.{Paper, done}
use Rattle.text.proofs.Texts.{bad_text, good_text, done_text}
use Rattle.text.specs.Rows.{clamp}
use Rattle.text.specs.Text.{is_lf}
use Rattle.edit.specs.declared.View.{View}
use Rattle.view.specs.Calls.{with_cursor}
use Rattle.view.proofs.cursor.set_cursor.Goals as goal

pub returns-then-not-is_text : goal.returns-then-not-is_text
returns-then-not-is_text c = let a = c.args in bad_text a.buffer.now a.view.used _ c.is_text.ensures (λ t. with_cursor a.view (clamp is_lf t a.pos)) c.if-not-is_text.true-raw

pub slice_bounds-clamp-end : goal.slice_bounds-clamp-end
slice_bounds-clamp-end c = let a = c.args in (good_text a.buffer.now a.view.used _ c.is_text.ensures c.if-not-is_text.false-raw).0

pub clamp-cursor-requires : goal.clamp-cursor-requires
clamp-cursor-requires c = let a = c.args in let g = good_text a.buffer.now a.view.used _ c.is_text.ensures c.if-not-is_text.false-raw in simp (length-take, length-drop) (omega arith)

pub returns : goal.returns
returns c = let a = c.args in done_text a.buffer.now a.view.used _ c.is_text.ensures (λ t. with_cursor a.view (clamp is_lf t a.pos)) _ c.if-not-is_text.false-raw (ap {B = Paper View} (λ v. done v) c.renew.ensures ∙ ap {B = Paper View} (λ p. done (with_cursor a.view p)) c.clamp-cursor.ensures)
