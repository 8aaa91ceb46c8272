use mathlib.Core.Path.{refl, sym, ◌∙◌}
use native.Mathlib.Omega.{arith}
use Rattle.sequences.proofs.Steps.{announces, ascii, cut_off}
use Rattle.utf8.proofs.Lead.{no_ones}
use Rattle.utf8.specs.Rfc3629.{UTF8-char}
use Rattle.sequences.proofs.read_scalar.Goals as goal

pub returns-in_default : goal.returns-in_default
returns-in_default c = cut_off 1 UTF8-char c.args.bytes.now c.args.at.0 refl (omega (arith, c.in_default.ensures.lookup.3))

pub returns-then-ones-eq0 : goal.returns-then-ones-eq0
returns-then-ones-eq0 c = let s = c.args.bytes.now in let i = c.args.at.0 in let g = c.in-Some.ensures.lookup.3 in
    let e = rw (g.1 0) at c.leading_ones-ones.ensures in
    ascii s i _ g.0 (no_ones _ (c.type_inv.bytes i).fits (sym e ∙ c.if-ones-eq0.true)) (c.from.ensures ∙ g.1 0)

pub returns : goal.returns
returns c = let s = c.args.bytes.now in let i = c.args.at.0 in let g = c.in-Some.ensures.lookup.3 in
    let e = rw (g.1 0) at c.leading_ones-ones.ensures in
    c.read_long.ensures ∙ announces s i _ g.0 (c.type_inv.bytes i).fits e
