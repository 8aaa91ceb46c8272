use Rattle.splitting.proofs.+split_steps.Given as goal

abbrev pub decreases-split_steps : goal.decreases-split_steps
decreases-split_steps l = l.n
