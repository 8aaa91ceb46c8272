use Rattle.text.proofs.Order.{pos_min}
use Rattle.single.proofs.Resolving.{chars_within, chars_resolve}
use native.Mathlib.Omega.{arith}
use Rattle.single.proofs.resolve_chars.Goals as goal

pub resolve_cut-requires : goal.resolve_cut-requires
resolve_cut-requires c = let a = c.args in
    let w = chars_within a.text.now a.start a.end _ c.char_cut-cut.ensures in (w.0, omega (arith, w.1, c.requires.0), c.requires.1)

pub returns : goal.returns
returns c = let a = c.args in
    λ x f s'. chars_resolve a.text.now x f s' a.steps.now a.start a.end _ _ _ _ (pos_min a.start a.end c.min-at.ensures) c.char_cut-cut.ensures c.resolve_cut.ensures.stored c.resolve_cut.ensures.value
