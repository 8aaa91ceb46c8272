use native.Mathlib.Omega.{arith}
use lib.ListN.{length-set}
use Rattle.hexline.proofs.Pairs.{hexed-length}
use Rattle.hexline.proofs.Fills.{digits_again, digits_all}
use Rattle.hexline.proofs.fill_digits.Goals as goal

pub bounds-out-i : goal.bounds-out-i
bounds-out-i c = omega (arith, hexed-length c.args.bytes.now)

pub bounds-out-i-in-loop-i : goal.bounds-out-i-in-loop-i
bounds-out-i-in-loop-i c = simp length-set (omega (arith, hexed-length c.args.bytes.now))

pub loop-i-preserved : goal.loop-i-preserved
loop-i-preserved c = let l = c.loop-i in digits_again _ _ _ l.i l.invariant _ _ c.digit_of-high.ensures c.digit_of-low.ensures c.loop-i-test.true c.requires

pub returns : goal.returns
returns c = let l = c.loop-i in digits_all _ _ _ l.i l.invariant (omega arith) c.loop-i-test.false
