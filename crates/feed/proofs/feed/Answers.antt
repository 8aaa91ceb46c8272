use mathlib.Core.Path.{refl}
use lib.ListN.{take}
use native.Mathlib.Omega.{arith}
use Rattle.feed.proofs.Ends.{part_length, fed-none, fed-turn}
use borrow.Author.Rules.{rules}
use Rattle.feed.proofs.feed.Goals as goal

pub loop-taken-init : goal.loop-taken-init
loop-taken-init c = let a = c.args in (omega arith, refl, refl, refl, refl, omega arith, c.requires.1, c.requires.0, fed-none a.script a.pending a.line.now a.piece.now a.text.now a.marks.now a.out.now)

pub returns-then-out-printed-lt-LINE_ROOM : goal.returns-then-out-printed-lt-LINE_ROOM
returns-then-out-printed-lt-LINE_ROOM c = let l = c.loop-taken in record { out_after = l.invariant.8; ready = (l.invariant.7, l.invariant.6, l.invariant.0, l.invariant.5); out_len_bound = λ h. omega (arith, c.if-out-printed-lt-LINE_ROOM.true, l.invariant.4) }

pub feed_line-course-requires : goal.feed_line-course-requires
feed_line-course-requires c = let l = c.loop-taken in (l.invariant.7, l.invariant.6, omega (arith, l.invariant.1, c.requires.2), omega (arith, part_length l.out l.printed, c.if-out-printed-lt-LINE_ROOM.false), omega (arith, part_length c.args.piece.now l.taken, c.loop-taken-test.true))

pub overflow_add-taken : goal.overflow_add-taken
overflow_add-taken c = let l = c.loop-taken in omega (arith, c.feed_line-course.ensures.ready.3, part_length c.args.piece.now l.taken, l.invariant.0, c.well_formed)

pub overflow_add-printed : goal.overflow_add-printed
overflow_add-printed c = let l = c.loop-taken in omega (arith, c.feed_line-course.ensures.ready.4, c.if-out-printed-lt-LINE_ROOM.false, l.invariant.4, l.invariant.5, c.well_formed)

pub loop-taken-smaller : goal.loop-taken-smaller
loop-taken-smaller c = let l = c.loop-taken in let f = c.feed_line-course in omega (arith, f.ensures.ready.2, f.ensures.ready.3, part_length c.args.piece.now l.taken)

pub loop-taken-preserved : goal.loop-taken-preserved
loop-taken-preserved c = let a = c.args in let l = c.loop-taken in let f = c.feed_line-course in (
  omega (arith, f.ensures.ready.3, part_length a.piece.now l.taken),
  search rules,
  search rules,
  search rules,
  search rules,
  omega (arith, f.ensures.ready.4, c.if-out-printed-lt-LINE_ROOM.false, l.invariant.4),
  f.ensures.ready.1,
  f.ensures.ready.0,
  fed-turn a.script (take a.pending a.line.now) a.text.now a.marks.now a.out.now a.piece.now l.current l.count l.taken l.printed l.line l.text l.marks l.out f.result _ _ _ _ l.invariant.8 f.ensures.out_after,
)

pub returns : goal.returns
returns c = let l = c.loop-taken in record { out_after = l.invariant.8; ready = (l.invariant.7, l.invariant.6, l.invariant.0, l.invariant.5); out_len_bound = λ h. absurd (omega (arith, c.loop-taken-test.false)) }
