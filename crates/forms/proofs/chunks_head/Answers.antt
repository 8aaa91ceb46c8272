use Prim.Native.Nat.{◌-◌, ◌%◌}
use lib.ListN.{length}
use borrow.Author.Tests.{eq-eqb, ne_eqb, le-leb, lt-leb}
use Rattle.frame.specs.Forms.{head_of, chunks_form}
use Rattle.forms.proofs.chunks_head.Goals as goal

pub returns-then-bytes-lt9 : goal.returns-then-bytes-lt9
unfolding head_of chunks_form
returns-then-bytes-lt9 c = rw (lt-leb 9 _ c.if-bytes-lt9.true)

pub returns-then-bytes-ne0 : goal.returns-then-bytes-ne0
unfolding head_of chunks_form
returns-then-bytes-ne0 c = rw (le-leb 9 _ c.if-bytes-lt9.false, ne_eqb ((length c.args.bytes.now - 9) % 8) 0 c.if-bytes-ne0.true)

pub returns : goal.returns
unfolding head_of chunks_form
returns c = rw (le-leb 9 _ c.if-bytes-lt9.false, eq-eqb ((length c.args.bytes.now - 9) % 8) 0 c.if-bytes-ne0.false, c.position_at-at.ensures)
