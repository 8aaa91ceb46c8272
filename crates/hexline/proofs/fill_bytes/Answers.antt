use mathlib.Core.Path.{ap, ◌∙◌}
use native.Mathlib.Omega.{arith}
use Rattle.hexline.specs.Digits.{is_digit, value_of}
use Rattle.hexline.proofs.Pairs.{unhexed-length, digits_at, high_at, low_at}
use Rattle.hexline.proofs.Fills.{bytes_again, bytes_all}
use Rattle.hexline.proofs.fill_bytes.Goals as goal

pub value_of-high-requires : goal.value_of-high-requires
value_of-high-requires c = let l = c.args.line.now in let i = c.loop-i.i in
    ap is_digit (high_at l _ i c.as_chunks.ensures.front (omega arith)) ∙ (digits_at l i (omega arith) c.requires.0).0

pub value_of-low-requires : goal.value_of-low-requires
value_of-low-requires c = let l = c.args.line.now in let i = c.loop-i.i in
    ap is_digit (low_at l _ i c.as_chunks.ensures.front (omega arith)) ∙ (digits_at l i (omega arith) c.requires.0).1

pub bounds-out-i : goal.bounds-out-i
bounds-out-i c = omega (arith, unhexed-length c.args.line.now)

pub loop-i-preserved : goal.loop-i-preserved
loop-i-preserved c = let a = c.args in let l = c.loop-i in let p = c.as_chunks.ensures.front in
    bytes_again _ _ _ l.i l.invariant _ _ (c.value_of-high.ensures.value ∙ ap value_of (high_at a.line.now _ l.i p (omega arith))) (c.value_of-low.ensures.value ∙ ap value_of (low_at a.line.now _ l.i p (omega arith))) (omega arith) c.requires.1

pub returns : goal.returns
returns c = let l = c.loop-i in bytes_all _ _ _ l.i l.invariant (omega arith) (omega arith)
