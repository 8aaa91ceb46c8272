use native.Mathlib.Omega.{arith}
use Rattle.text.proofs.Scans.{last_at-lf, last_at-other, last_at-end}
use Rattle.recording.proofs.breaks_in.Goals.{then-x-eq-LF, else-x-eq-LF}
use Rattle.recording.proofs.breaks_in.Goals as goal

pub loop-x-preserved : goal.loop-x-preserved
loop-x-preserved c = let s = c.args.part.now in let i = c.loop-x.x-index in let h = c.loop-x-test.true in
    elim c.if-x-eq-LF.branch [ then-x-eq-LF w ↦ omega (arith, last_at-lf s i h w.if-x-eq-LF.true) | else-x-eq-LF w ↦ omega (arith, last_at-other s i h w.if-x-eq-LF.false) ]

pub returns : goal.returns
returns c = let l = c.loop-x in omega (arith, last_at-end c.args.part.now l.x-index c.loop-x-test.false)
