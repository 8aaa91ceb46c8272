use mathlib.Core.Path.{refl, sym, ◌∙◌}
use Rattle.std.proofs.lemmas.Result.{err_from_is_err_and}
use Rattle.asked.proofs.Frames.{text-else, text-asked}
use Rattle.frame.specs.Forms.{line_form}
use Rattle.asked.proofs.read_text_line.Goals as goal

pub returns-in-Malformed : goal.returns-in-Malformed
returns-in-Malformed c = text-else _ _ (sym c.line_head-head.ensures ∙ c.in-Malformed.is) refl _

pub returns-in_ok-read-in-Text : goal.returns-in_ok-read-in-Text
returns-in_ok-read-in-Text c = rw c.text_only.ensures (text-asked _ _ _ _ _ _ _ (line_form c.args.line.now) (sym c.line_head-head.ensures ∙ c.in-Text.is) c.in_ok-read-in-Text.ensures)

pub returns-in_err-read-in-Text : goal.returns-in_err-read-in-Text
returns-in_err-read-in-Text c = let p = err_from_is_err_and c.from_residual.result c.from_residual.ensures.1 in rw (p.1, p.2) (text-asked _ _ _ _ _ _ _ (line_form c.args.line.now) (sym c.line_head-head.ensures ∙ c.in-Text.is) c.in_err-read-in-Text.ensures)

pub returns-in-Mark : goal.returns-in-Mark
returns-in-Mark c = text-else _ _ (sym c.line_head-head.ensures ∙ c.in-Mark.is) refl _

pub returns-in-Edit : goal.returns-in-Edit
returns-in-Edit c = text-else _ _ (sym c.line_head-head.ensures ∙ c.in-Edit.is) refl _
