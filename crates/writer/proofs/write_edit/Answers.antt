use Prim.Native.Nat.{ℕ}
use native.Mathlib.Omega.{arith}
use lib.ListN.{replicate, length-replicate}
use Rattle.std.proofs.lemmas.Result.{err_from_is_err_and}
use Rattle.writer.proofs.Lined.{edit_none, edit_bad, edit_long, edit_asked, edit_line}
use Rattle.writer.proofs.write_edit.Goals as goal

pub returns-then-not-has_bytes : goal.returns-then-not-has_bytes
returns-then-not-has_bytes c = edit_none c.args.edit c.args.payload.now c.args.first.now c.args.second.now c.args.out.now _ c.has_bytes.ensures c.if-not-has_bytes.true-raw

pub returns-in_err-octets : goal.returns-in_err-octets
returns-in_err-octets c = let p = err_from_is_err_and c.from_residual.result c.from_residual.ensures.1 in rw (p.1, p.2) (edit_bad c.args.edit c.args.payload.now c.args.first.now c.args.second.now c.args.out.now _ c.has_bytes.ensures c.if-not-has_bytes.false-raw c.in_err-octets.ensures)

pub returns-then-count-gt-BYTE_LIMIT : goal.returns-then-count-gt-BYTE_LIMIT
returns-then-count-gt-BYTE_LIMIT c = edit_long c.args.edit c.args.payload.now c.args.first.now c.args.second.now c.args.out.now _ c.has_bytes.ensures c.if-not-has_bytes.false-raw c.in_ok-octets.octets _ c.in_ok-octets.ensures c.byte_count-count.ensures c.if-count-gt-BYTE_LIMIT.true

pub put_edit-requires : goal.put_edit-requires
put_edit-requires c = let d = edit_asked c.args.edit c.args.payload.now c.args.first.now c.args.second.now c.args.out.now _ c.has_bytes.ensures c.if-not-has_bytes.false-raw c.in_ok-octets.octets _ c.in_ok-octets.ensures c.byte_count-count.ensures c.if-count-gt-BYTE_LIMIT.false in (d.0, d.1, d.2, omega (arith, length-replicate {A = ℕ} 18_432 0))

pub returns : goal.returns
returns c = edit_line c.args.edit c.args.payload.now c.args.first.now c.args.second.now c.args.out.now _ c.has_bytes.ensures c.if-not-has_bytes.false-raw c.in_ok-octets.octets _ c.in_ok-octets.ensures c.byte_count-count.ensures (replicate {A = ℕ} 18_432 0) _ _ c.if-count-gt-BYTE_LIMIT.false c.put_edit.ensures c.write_bytes.ensures
