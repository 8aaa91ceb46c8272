use mathlib.Core.Path.{refl}
use Prim.Native.Nat.{ℕ}
use native.Mathlib.Omega.{arith}
use lib.ListN.{replicate, length-replicate, length-take}
use Rattle.std.proofs.lemmas.Result.{err_from_is_err_and}
use Rattle.writer.proofs.Lined.{text-room, text-end, text-line, text_refused}
use Rattle.writer.proofs.write_text.Goals as goal

pub overflow_add-octets : goal.overflow_add-octets
overflow_add-octets c = omega (arith, text-room c.args.chars.now c.args.out.now (replicate {A = ℕ} 18_432 0) _ _ (length-replicate {A = ℕ} 18_432 0) refl c.in_ok-octets.octets c.in_ok-octets.ensures)

pub slice_bounds-write_bytes-end : goal.slice_bounds-write_bytes-end
slice_bounds-write_bytes-end c = omega (arith, text-end c.args.chars.now c.args.out.now (replicate {A = ℕ} 18_432 0) _ _ (length-replicate {A = ℕ} 18_432 0) refl c.in_ok-octets.octets c.in_ok-octets.ensures)

pub write_bytes-requires : goal.write_bytes-requires
write_bytes-requires c = simp length-take (omega (arith, text-room c.args.chars.now c.args.out.now (replicate {A = ℕ} 18_432 0) _ _ (length-replicate {A = ℕ} 18_432 0) refl c.in_ok-octets.octets c.in_ok-octets.ensures))

pub returns : goal.returns
returns c = text-line c.args.chars.now c.args.out.now (replicate {A = ℕ} 18_432 0) _ _ (length-replicate {A = ℕ} 18_432 0) refl c.in_ok-octets.octets _ c.in_ok-octets.ensures c.write_bytes.ensures

pub returns-in_err-octets : goal.returns-in_err-octets
returns-in_err-octets c = let p = err_from_is_err_and c.from_residual.result c.from_residual.ensures.1 in rw (p.1, p.2) (text_refused c.args.chars.now c.args.out.now (replicate {A = ℕ} 18_432 0) _ _ (length-replicate {A = ℕ} 18_432 0) refl _ c.in_err-octets.ensures)
