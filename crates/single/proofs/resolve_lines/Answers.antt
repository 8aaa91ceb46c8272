use Rattle.single.proofs.Resolving.{lines-within, lines-resolve}
use native.Mathlib.Omega.{arith}
use Rattle.single.proofs.resolve_lines.Goals as goal

pub resolve_cut-requires : goal.resolve_cut-requires
resolve_cut-requires c = let a = c.args in
    let w = lines-within a.text.now a.start a.end _ c.line_cut-rows.ensures in (w.0, omega (arith, w.1, c.requires.0), c.requires.1)

pub returns : goal.returns
returns c = let a = c.args in
    λ x f s'. lines-resolve a.text.now x f s' a.steps.now a.start a.end _ _ _ c.line_cut-rows.ensures c.resolve_cut.ensures.stored c.resolve_cut.ensures.value
