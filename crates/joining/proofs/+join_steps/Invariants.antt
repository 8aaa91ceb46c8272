use Rattle.joining.proofs.+join_steps.Given as goal

abbrev pub decreases-join_steps : goal.decreases-join_steps
decreases-join_steps l = l.n
