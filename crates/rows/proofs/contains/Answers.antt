use mathlib.Core.Path.{◌∙◌}
use Rattle.text.proofs.Texts.{in_text-made}
use Rattle.rows.proofs.contains.Goals as goal

pub returns : goal.returns
returns c = let a = c.args in c.eq.ensures ∙ in_text-made a.text.now a.pos _ c.clamp.ensures
