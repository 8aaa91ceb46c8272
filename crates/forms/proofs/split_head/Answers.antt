use borrow.Author.Tests.{lt-leb}
use Rattle.frame.specs.Forms.{head_of, split_form}
use Rattle.frame.proofs.Answers.{split-malformed, split-made}
use Rattle.forms.proofs.split_head.Goals as goal

pub returns-then-bytes-lt5 : goal.returns-then-bytes-lt5
unfolding head_of split_form
returns-then-bytes-lt5 c = rw (lt-leb 5 _ c.if-bytes-lt5.true)

pub returns-then-not-is_flagged : goal.returns-then-not-is_flagged
returns-then-not-is_flagged c = split-malformed c.args.bytes.now c.if-bytes-lt5.false _ c.is_flagged.ensures c.if-not-is_flagged.true-raw

pub returns : goal.returns
returns c = split-made c.args.bytes.now c.if-bytes-lt5.false _ c.is_flagged.ensures c.if-not-is_flagged.false-raw _ c.number_at-row.ensures
