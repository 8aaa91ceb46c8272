use mathlib.Core.Path.{refl}
use mathlib.Core.List.{flatten}
use Prim.Native.Nat.{◌+◌, ◌≤◌}
use native.Mathlib.Omega.{arith}
use lib.ListN.{length, length-set}
use Rattle.reader.specs.Calls.{chars_of}
use Rattle.reader.proofs.Chunks.{rest, string_within, sound_next, chunk_fits, Turned, chunk_again, chunks_all}
use Rattle.reader.proofs.strings.fill_chunks.Goals.{After-number_at-length, After-slice_known-in-loop-at-1}
use Rattle.reader.proofs.strings.fill_chunks.Goals as goal

-- a string ends within the bytes
within : (c : After-number_at-length) → c.loop-at.at + 4 + c.number_at-length.result ≤ length c.args.strings.now
within c = let l = c.loop-at in string_within _ l.at c.number_at-length.result c.number_at-length.ensures c.loop-at-test.true l.invariant.1

turn : (c : After-slice_known-in-loop-at-1) → Turned c.args.strings.now (chars_of (rest c.args.strings.now 0)) c.loop-at.at c.loop-at.chunks c.number_at-length.result c.loop-at.chars c.read_behind-count.result c.args.payload.now c.args.first.now c.loop-at.first c.read_behind-count.new.payload
turn c =
    let l = c.loop-at in let a = c.args in
    chunk_again _ (chars_of (rest a.strings.now 0)) l.at l.chunks c.number_at-length.result c.number_at-length.ensures c.loop-at-test.true l.invariant.1 l.invariant.5 l.chars _ _ _ _ _ _ l.invariant.6 l.invariant.7 l.invariant.8 c.read_behind-count.ensures.0 c.read_behind-count.ensures.1 c.requires.1.2

pub loop-at-init : goal.loop-at-init
unfolding flatten
loop-at-init c = (omega arith, c.requires.0, omega arith, refl, refl, c.requires.1.0, refl, refl, refl)

pub number_at-length-requires : goal.number_at-length-requires
number_at-length-requires c = let l = c.loop-at in let w = string_within c.args.strings.now l.at _ refl c.loop-at-test.true l.invariant.1 in omega arith

pub overflow_add-start : goal.overflow_add-start
overflow_add-start c = omega (arith, within (goal.at.overflow_add-start c).After-number_at-length)

pub overflow_add-end : goal.overflow_add-end
overflow_add-end c = omega (arith, within (goal.at.overflow_add-end c).After-number_at-length)

pub slice_bounds-read_behind-count : goal.slice_bounds-read_behind-count
slice_bounds-read_behind-count c = omega (arith, within (goal.at.slice_bounds-read_behind-count c).After-number_at-length)

pub slice_bounds-read_behind-start : goal.slice_bounds-read_behind-start
slice_bounds-read_behind-start c = omega (arith, within (goal.at.slice_bounds-read_behind-start c).After-number_at-length)

pub slice_bounds-read_behind-end : goal.slice_bounds-read_behind-end
slice_bounds-read_behind-end c = omega (arith, within (goal.at.slice_bounds-read_behind-end c).After-number_at-length)

pub read_behind-count-requires : goal.read_behind-count-requires
read_behind-count-requires c = let l = c.loop-at in let a = c.args in let p = c.requires in
    chunk_fits _ (chars_of (rest a.strings.now 0)) l.at l.chunks c.number_at-length.result c.number_at-length.ensures c.loop-at-test.true l.invariant.1 l.invariant.5 l.chars (length l.payload) l.invariant.6 (omega arith)

pub overflow_cast-first : goal.overflow_cast-first
overflow_cast-first c = let t = turn (goal.at.overflow_cast-first c).After-slice_known-in-loop-at-1 in let w = within (goal.at.overflow_cast-first c).After-number_at-length in omega arith

pub offset_bounds-first-chunks : goal.offset_bounds-first-chunks
offset_bounds-first-chunks c = let t = turn (goal.at.offset_bounds-first-chunks c).After-slice_known-in-loop-at-1 in let w = within (goal.at.offset_bounds-first-chunks c).After-number_at-length in omega arith

pub bounds-first-chunks : goal.bounds-first-chunks
bounds-first-chunks c = let t = turn (goal.at.bounds-first-chunks c).After-slice_known-in-loop-at-1 in let w = within (goal.at.bounds-first-chunks c).After-number_at-length in omega arith

pub overflow_add-chars : goal.overflow_add-chars
overflow_add-chars c = let t = turn (goal.at.overflow_add-chars c).After-slice_known-in-loop-at-1 in let w = within (goal.at.overflow_add-chars c).After-number_at-length in omega arith

pub overflow_add-chunks : goal.overflow_add-chunks
overflow_add-chunks c = let t = turn (goal.at.overflow_add-chunks c).After-slice_known-in-loop-at-1 in let w = within (goal.at.overflow_add-chunks c).After-number_at-length in omega arith

pub loop-at-smaller : goal.loop-at-smaller
loop-at-smaller c = let t = turn (goal.at.loop-at-smaller c).After-slice_known-in-loop-at-1 in let w = within (goal.at.loop-at-smaller c).After-number_at-length in omega arith

pub loop-at-preserved : goal.loop-at-preserved
loop-at-preserved c = let t = turn (goal.at.loop-at-preserved c).After-slice_known-in-loop-at-1 in let w = within (goal.at.loop-at-preserved c).After-number_at-length in let l = c.loop-at in
    (w, sound_next _ l.at c.number_at-length.result c.number_at-length.ensures c.loop-at-test.true l.invariant.1, omega arith, omega arith, simp length-set l.invariant.4, t.3, t.4, t.5, t.6)

pub returns : goal.returns
returns c = let l = c.loop-at in chunks_all _ _ l.at l.chunks _ _ _ _ c.loop-at-test.false l.invariant.2 l.invariant.5 l.invariant.7 l.invariant.8
