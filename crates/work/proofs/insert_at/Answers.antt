use Rattle.work.proofs.Replacing.{put-within, put-asks, put_in, put-found}
use mathlib.Core.Path.{refl}
use lib.ListN.{replicate}
use native.Mathlib.Omega.{arith}
use borrow.Author.Rules.{rules}
use Rattle.work.proofs.insert_at.Goals as goal

pub end_after-end-requires : goal.end_after-end-requires
end_after-end-requires c = let a = c.args in
    let w = put-within a.text.now a.payload.now a.used a.at (omega (arith, c.requires.2)) _ _ c.locate-place.ensures refl in (omega (arith, w.0, c.requires.0), omega (arith, w.1, c.requires.0), c.requires.1)

pub overflow_cast-place : goal.overflow_cast-place
overflow_cast-place c = let a = c.args in
    let w = put-within a.text.now a.payload.now a.used a.at (omega (arith, c.requires.2)) _ _ c.locate-place.ensures c.end_after-end.ensures in search (rules, w.2, c.requires.0)

pub commit-requires : goal.commit-requires
commit-requires c = let a = c.args in
    let w = put-asks a.text.now a.payload.now a.used a.at (omega (arith, c.requires.2)) _ _ c.locate-place.ensures c.end_after-end.ensures (replicate 5 0) _ (omega arith) c.put_step.ensures in (w.0, w.1, w.2, omega (arith, c.requires.2), w.3, c.requires.2, omega arith)

pub returns : goal.returns
returns c = let a = c.args in
    record { text = put_in a.text.now a.payload.now a.used a.at (omega (arith, c.requires.2)) _ _ c.locate-place.ensures c.end_after-end.ensures (replicate 5 0) _ (omega arith) c.put_step.ensures _ c.commit.ensures; value = put-found a.text.now a.payload.now a.used a.at (omega (arith, c.requires.2)) _ _ c.locate-place.ensures c.end_after-end.ensures (replicate 5 0) _ (omega arith) c.put_step.ensures }
