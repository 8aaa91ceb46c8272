use borrow.Author.Tests.{lt-leb}
use Rattle.frame.specs.Forms.{head_of, block_form}
use Rattle.frame.proofs.Answers.{block_malformed, block_made}
use Rattle.forms.proofs.block_head.Goals as goal

pub returns-then-bytes-lt9 : goal.returns-then-bytes-lt9
unfolding head_of block_form
returns-then-bytes-lt9 c = rw (lt-leb 9 _ c.if-bytes-lt9.true)

pub returns-then-not-is_cut : goal.returns-then-not-is_cut
returns-then-not-is_cut c = block_malformed c.args.bytes.now c.if-bytes-lt9.false _ c.is_cut.ensures c.if-not-is_cut.true-raw

pub returns : goal.returns
returns c = block_made c.args.bytes.now c.if-bytes-lt9.false _ c.is_cut.ensures c.if-not-is_cut.false-raw _ c.position_at-at.ensures
