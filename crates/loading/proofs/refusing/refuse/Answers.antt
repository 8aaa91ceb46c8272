use mathlib.Core.Path.{refl}
use Rattle.loading.proofs.refusing.refuse.Goals as goal

pub returns : goal.returns
returns c = (refl, refl, rw (c.print_byte.ensures, c.refusal_byte.ensures))
