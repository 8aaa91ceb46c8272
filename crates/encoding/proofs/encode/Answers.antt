use Rattle.std.proofs.lemmas.Result.{err_from_is_err_and}
use Rattle.encoding.proofs.Calls.{encode_bad, encode_full, encode_all}
use Rattle.utf8.proofs.Writings.{counted-done}
use Rattle.encoding.proofs.encode.Goals as goal

pub returns-in_err-count : goal.returns-in_err-count
returns-in_err-count c = let a = c.args in let p = err_from_is_err_and c.from_residual.result c.from_residual.ensures.1 in
    rw (p.1, p.2) (encode_bad a.scalars.now a.out.now c.in_err-count.ensures)

pub returns-then-out-count : goal.returns-then-out-count
returns-then-out-count c = let a = c.args in encode_full a.scalars.now a.out.now c.in_ok-count.count c.in_ok-count.ensures c.if-out-count.true

pub fill_octets-requires : goal.fill_octets-requires
fill_octets-requires c = let d = counted-done c.args.scalars.now c.in_ok-count.count c.in_ok-count.ensures in
    (d.0, rw d.1 c.if-out-count.false)

pub returns : goal.returns
returns c = let a = c.args in encode_all a.scalars.now a.out.now c.in_ok-count.count c.in_ok-count.ensures _ c.if-out-count.false c.fill_octets.ensures
