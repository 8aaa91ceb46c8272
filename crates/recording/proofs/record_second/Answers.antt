use mathlib.Core.Path.{◌∙◌}
use native.Mathlib.Omega.{arith}
use Rattle.steps.specs.Steps.{padded}
use Rattle.steps.specs.Numbers.{steps_of}
use Rattle.recording.specs.Recorded.{second_by, second_long}
use Rattle.recording.proofs.Inverses.{padded-long}
use Rattle.steps.proofs.Sums.{steps_count}
use Rattle.recording.proofs.Slots.{zeros_up}
use Rattle.recording.proofs.record_second.Goals as goal

pub record_pads-requires : goal.record_pads-requires
unfolding second_long
record_pads-requires c = let h = rw c.in-JoinLines.is at c.requires.1 in (c.requires.0, h)

pub record_pads-requires-in-InsertBlock : goal.record_pads-requires-in-InsertBlock
unfolding second_long
record_pads-requires-in-InsertBlock c = let h = rw c.in-InsertBlock.is at c.requires.1 in (c.requires.0, omega arith)

pub zeros-requires : goal.zeros-requires
unfolding second_long
zeros-requires c = let h = rw c.in-InsertBlock.is at c.requires.1 in omega arith

pub returns-in-InsertChar : goal.returns-in-InsertChar
unfolding second_by
returns-in-InsertChar c = λ x. rw c.in-InsertChar.is

pub returns-in-InsertStr : goal.returns-in-InsertStr
unfolding second_by
returns-in-InsertStr c = λ x. rw c.in-InsertStr.is

pub returns-in-DeleteRange : goal.returns-in-DeleteRange
unfolding second_by
returns-in-DeleteRange c = λ x. rw c.in-DeleteRange.is

pub returns-in-JoinLines : goal.returns-in-JoinLines
unfolding second_by
returns-in-JoinLines c = λ x. rw c.in-JoinLines.is (c.record_pads.ensures x)

pub returns-in-SplitLines : goal.returns-in-SplitLines
unfolding second_by
returns-in-SplitLines c = λ x. rw c.in-SplitLines.is

pub returns-in-Replace : goal.returns-in-Replace
unfolding second_by
returns-in-Replace c = λ x. rw c.in-Replace.is

pub returns-in-InsertBlock : goal.returns-in-InsertBlock
unfolding second_by
returns-in-InsertBlock c = λ x. let a = c.args in rw c.in-InsertBlock.is (zeros_up (padded (steps_of a.n a.steps.now x)) a.out.now _ _ a.n a.count (padded-long (steps_of a.n a.steps.now x) ∙ steps_count a.n a.steps.now x) (c.record_pads-in-InsertBlock.ensures x) c.zeros.ensures)

pub returns-in-DeleteBlockChunks : goal.returns-in-DeleteBlockChunks
unfolding second_by
returns-in-DeleteBlockChunks c = λ x. rw c.in-DeleteBlockChunks.is
