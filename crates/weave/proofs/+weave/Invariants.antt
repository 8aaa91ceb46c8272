use Rattle.weave.proofs.+weave.Given as goal

abbrev pub decreases-weave : goal.decreases-weave
decreases-weave l = l.n
