use Rattle.std.proofs.lemmas.Result.{err_from_is_err_and}
use Rattle.promise.specs.Paper.{done, refused}
use Rattle.writer.proofs.Lined.{digits_stored}
use Rattle.writer.proofs.write_bytes.Goals as goal

pub returns-in_err-hex : goal.returns-in_err-hex
returns-in_err-hex c = let p = err_from_is_err_and c.from_residual.result c.from_residual.ensures.1 in rw (p.1, p.2) (digits_stored c.args.bytes.now c.args.out.now (refused 8 0) _ c.requires c.in_err-hex.ensures)

pub returns : goal.returns
returns c = digits_stored c.args.bytes.now c.args.out.now (done c.in_ok-hex.field-0) _ c.requires c.in_ok-hex.ensures
