use lib.ListN.{length}
use Rattle.std.proofs.lemmas.Result.{err_from_is_err_and}
use Rattle.decoding.proofs.Calls.{ready, decode_bad, decode_full, decode_all}
use Rattle.utf8.specs.Reading.{reading}
use Rattle.decoding.proofs.decode.Goals as goal

pub returns-in_err-scalars : goal.returns-in_err-scalars
returns-in_err-scalars c = let a = c.args in let p = err_from_is_err_and c.from_residual.result c.from_residual.ensures.1 in
    rw (p.1, p.2) (decode_bad (reading a.bytes.now) a.out.now _ c.in_err-scalars.ensures)

pub returns-then-out-scalars : goal.returns-then-out-scalars
returns-then-out-scalars c = let a = c.args in decode_full (reading a.bytes.now) a.out.now c.in_ok-scalars.scalars c.in_ok-scalars.ensures c.if-out-scalars.true

pub fill_scalars-requires : goal.fill_scalars-requires
fill_scalars-requires c = let a = c.args in ready (reading a.bytes.now) c.in_ok-scalars.scalars (length a.out.now) c.in_ok-scalars.ensures c.if-out-scalars.false

pub returns : goal.returns
returns c = let a = c.args in decode_all (reading a.bytes.now) a.out.now c.in_ok-scalars.scalars c.in_ok-scalars.ensures _ c.if-out-scalars.false c.fill_scalars.ensures
