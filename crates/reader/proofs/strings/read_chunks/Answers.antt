use mathlib.Core.List.{[]}
use Rattle.std.proofs.lemmas.Result.{err_from_is_err_and}
use Rattle.reader.proofs.Tallies.{tally_refused, block_fits, block_payload_short, block_first_short, block_filled}
use Rattle.reader.proofs.strings.read_chunks.Goals as goal

pub returns-then-payload-chars : goal.returns-then-payload-chars
returns-then-payload-chars c = let a = c.args in λ s. block_payload_short a.edit _ a.payload.now a.first.now s _ _ c.in_ok-tally.ensures c.requires.1 c.if-payload-chars.true

pub returns-then-first-chunks : goal.returns-then-first-chunks
returns-then-first-chunks c = let a = c.args in λ s. block_first_short a.edit _ a.payload.now a.first.now s _ _ c.in_ok-tally.ensures c.requires.1 c.if-first-chunks.true

pub fill_chunks-requires : goal.fill_chunks-requires
fill_chunks-requires c = let a = c.args in (c.requires.0, block_fits a.edit _ a.payload.now a.first.now [] _ _ c.in_ok-tally.ensures c.requires.1 c.if-payload-chars.false c.if-first-chunks.false)

pub returns-in_err-tally : goal.returns-in_err-tally
returns-in_err-tally c = let a = c.args in λ s. let p = err_from_is_err_and c.from_residual.result c.from_residual.ensures.1 in
    rw (p.1, p.2) (tally_refused a.edit _ a.payload.now a.first.now s _ c.in_err-tally.ensures)

pub returns : goal.returns
returns c = let a = c.args in λ s. block_filled a.edit _ a.payload.now a.first.now s _ _ c.in_ok-tally.ensures c.requires.1 _ _ c.if-payload-chars.false c.if-first-chunks.false c.fill_chunks.ensures
