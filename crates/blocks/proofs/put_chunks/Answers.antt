use Prim.Native.Nat.{◌≤◌}
use Rattle.blocks.proofs.Moved.{extent_fits, front-asked, chunks_put}
use native.Mathlib.Omega.{arith}
use Rattle.blocks.proofs.put_chunks.Goals.{Start}
use Rattle.blocks.proofs.put_chunks.Goals as goal

fits : (c : Start) → (c.args.extent.end.0 ≤ c.args.used) × (c.args.used ≤ c.args.extent.size)
fits c = let a = c.args in extent_fits a.text.now a.used a.at a.payload.now a.lens.now a.extent.size a.extent.end.0 c.requires.0 c.requires.3 c.requires.4 c.requires.6 c.requires.8 c.requires.9

pub overflow_sub-grown : goal.overflow_sub-grown
overflow_sub-grown c = omega (arith, fits (goal.at.overflow_sub-grown c).Start)

pub open_padded-requires : goal.open_padded-requires
open_padded-requires c = let q = fits (goal.at.open_padded-requires c).Start in (omega arith, omega arith)

pub overflow_add-end : goal.overflow_add-end
overflow_add-end c = omega (arith, fits (goal.at.overflow_add-end c).Start)

pub slice_bounds-put_rows-end : goal.slice_bounds-put_rows-end
slice_bounds-put_rows-end c = omega (arith, fits (goal.at.slice_bounds-put_rows-end c).Start)

pub put_rows-requires : goal.put_rows-requires
put_rows-requires c = let a = c.args in front-asked a.text.now a.used a.at a.payload.now a.lens.now a.extent.size a.extent.end.0 c.requires.0 c.requires.3 c.requires.4 c.requires.6 c.requires.8 c.requires.9 _ c.open_padded.ensures a.extent.start.0 c.requires.7 c.requires.1 c.requires.2 c.requires.5 c.requires.10 a.pads.now c.requires.11

pub returns : goal.returns
returns c = let a = c.args in chunks_put a.text.now a.used a.at a.payload.now a.lens.now a.extent.size a.extent.end.0 c.requires.0 c.requires.3 c.requires.4 c.requires.6 c.requires.8 c.requires.9 _ c.open_padded.ensures _ a.pads.now _ c.put_rows.ensures
