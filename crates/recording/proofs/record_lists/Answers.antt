use Rattle.recording.proofs.record_lists.Goals as goal

pub returns : goal.returns
returns c = record { first = c.record_first.ensures; second = c.record_second.ensures }
