use Rattle.std.proofs.Common.{take, ◌≤◌}
use Rattle.loading.specs.States.{state_of}
use Rattle.step.specs.Calls.{Ready}
use Rattle.scriptrun.specs.Runs.{Come}
use Rattle.scriptrun.proofs.read_all.Given as goal

abbrev pub invariant-loop : goal.invariant-loop
invariant-loop l = Ready l.read.script l.text l.marks × (l.read.pending ≤ 36_865) × Come (state_of l.read.script l.text l.marks) (take l.read.pending l.line)
