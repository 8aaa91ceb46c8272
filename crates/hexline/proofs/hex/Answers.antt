use native.Mathlib.Omega.{arith}
use Rattle.hexline.proofs.Pairs.{hexed-length}
use Rattle.hexline.proofs.Calls.{hex_long, hex_full, hex_all}
use Rattle.hexline.proofs.hex.Goals as goal

pub returns-then-bytes : goal.returns-then-bytes
returns-then-bytes c = let a = c.args in hex_long a.bytes.now a.out.now (omega arith)

pub returns-then-out-bytes : goal.returns-then-out-bytes
returns-then-out-bytes c = let a = c.args in hex_full a.bytes.now a.out.now (omega arith) (omega arith)

pub fill_digits-requires : goal.fill_digits-requires
fill_digits-requires c = omega (arith, hexed-length c.args.bytes.now)

pub returns : goal.returns
returns c = let a = c.args in hex_all a.bytes.now a.out.now _ (omega arith) (omega arith) c.fill_digits.ensures
