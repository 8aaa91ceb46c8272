use mathlib.Core.Path.{refl}
use Prim.Native.Nat.{ℕ}
use lib.ListN.{replicate}
use Rattle.writer.proofs.Lined.{mark_line_lem}
use Rattle.writer.proofs.write_mark.Goals as goal

pub returns : goal.returns
returns c = mark_line_lem c.args.sel c.args.out.now (replicate {A = ℕ} 17 0) _ _ _ refl c.put_position.ensures c.put_position-2.ensures c.write_bytes.ensures
