use Rattle.cutting.proofs.+cut_steps.Given as goal

abbrev pub decreases-cut_steps : goal.decreases-cut_steps
decreases-cut_steps l = l.n
