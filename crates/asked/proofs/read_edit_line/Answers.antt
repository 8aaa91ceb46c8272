use mathlib.Core.Path.{refl, sym, ◌∙◌}
use Rattle.std.proofs.lemmas.Result.{err_from_is_err_and}
use Rattle.asked.proofs.Frames.{edit_else, edit_asked}
use Rattle.frame.specs.Forms.{line_form}
use Rattle.asked.proofs.read_edit_line.Goals as goal

pub returns-in-Malformed : goal.returns-in-Malformed
returns-in-Malformed c = edit_else _ _ (sym c.line_head-head.ensures ∙ c.in-Malformed.is) refl _ _ _

pub returns-in-Text : goal.returns-in-Text
returns-in-Text c = edit_else _ _ (sym c.line_head-head.ensures ∙ c.in-Text.is) refl _ _ _

pub returns-in-Mark : goal.returns-in-Mark
returns-in-Mark c = edit_else _ _ (sym c.line_head-head.ensures ∙ c.in-Mark.is) refl _ _ _

pub returns-in_ok-read-in-Edit : goal.returns-in_ok-read-in-Edit
returns-in_ok-read-in-Edit c = rw c.edit_only.ensures (edit_asked _ _ _ _ _ _ _ (line_form c.args.line.now) _ (sym c.line_head-head.ensures ∙ c.in-Edit.is) c.in_ok-read-in-Edit.ensures)

pub returns-in_err-read-in-Edit : goal.returns-in_err-read-in-Edit
returns-in_err-read-in-Edit c = let p = err_from_is_err_and c.from_residual.result c.from_residual.ensures.1 in rw (p.1, p.2) (edit_asked _ _ _ _ _ _ _ (line_form c.args.line.now) _ (sym c.line_head-head.ensures ∙ c.in-Edit.is) c.in_err-read-in-Edit.ensures)
