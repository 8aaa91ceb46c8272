use mathlib.Core.Path.{refl, ap}
use Rattle.std.specs.Prelude.{Ok, Err}
use Rattle.loading.proofs.TextFrames.{told}
use Rattle.loading.proofs.Loading.{text-framed, refused_framed}
use borrow.Author.Rules.{rules}
use Rattle.loading.proofs.loads.step_text.Goals as goal

pub slice_bounds-load-end : goal.slice_bounds-load-end
slice_bounds-load-end c = (told _ _ _ (search rules) _ _ _ _ _ _ c.requires.1 c.in-Ok-Text.ensures (ap Ok c.in-Ok-Text.field-0-is)).0

pub returns-in-Ok-Text : goal.returns-in-Ok-Text
returns-in-Ok-Text c = λ ms f. text-framed c.args.script _ _ ms f _ _ _ _ _ (told _ _ _ (search rules) _ _ _ _ _ _ c.requires.1 c.in-Ok-Text.ensures (ap Ok c.in-Ok-Text.field-0-is)).1 (c.load.ensures ms)

pub returns-in-Err : goal.returns-in-Err
returns-in-Err c = λ ms f. refused_framed c.args.script _ _ ms f _ _ _ _ _ (told _ _ _ (search rules) _ _ _ _ (Err c.in-Err.why) (Err c.in-Err.why) c.requires.1 c.in-Err.ensures refl) c.refuse-in-Err.ensures

pub returns-in-Ok-Mark : goal.returns-in-Ok-Mark
returns-in-Ok-Mark c = λ ms f. absurd (told _ _ _ (search rules) _ _ _ _ _ _ c.requires.1 c.in-Ok-Mark.ensures (ap Ok c.in-Ok-Mark.field-0-is))

pub returns-in-Ok-Edit : goal.returns-in-Ok-Edit
returns-in-Ok-Edit c = λ ms f. absurd (told _ _ _ (search rules) _ _ _ _ _ _ c.requires.1 c.in-Ok-Edit.ensures (ap Ok c.in-Ok-Edit.field-0-is))
