use mathlib.Core.Path.{◌∙◌}
use mathlib.Core.Bool.{not}
use lib.Dec.{eqb}
use Rattle.std.proofs.Common.{rules, tests}
use Rattle.std.proofs.lemmas.Iterator.{YieldsList-from_slice}
use Rattle.std.proofs.lemmas.Iterator.Search.{any_from_yields_List}
use Rattle.resolve.proofs.Flags.{any-listed}
use Rattle.resolve.proofs.rowwise.any_flag.Goals as goal

pub returns : goal.returns
returns c =
    let s = c.args.flags.now in
    any_from_yields_List (λ x. not (eqb x 0)) _ _ _ c.any.ensures.ran (YieldsList-from_slice s cc) (λ x b q k. search (rules, tests)) ∙ any-listed s
