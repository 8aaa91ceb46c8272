use mathlib.Core.List.{[], ◌∷◌}
use lib.ListN.{drop}
use Rattle.std.proofs.lemmas.Result.{err_from_is_err_and}
use Rattle.promise.specs.Paper.{done}
use Rattle.frame.specs.Reads.{contents}
use Rattle.reader.proofs.Decodes.{string_read, string_refused}
use Rattle.reader.proofs.strings.read_string.Goals as goal

pub returns-in_err-count : goal.returns-in_err-count
returns-in_err-count c = let a = c.args in λ f s. let p = err_from_is_err_and c.from_residual.result c.from_residual.ensures.1 in
    rw (p.1, p.2) (string_refused _ a.edit (contents a.from (drop a.from a.bytes.now ∷ [])) a.payload.now _ f s c.requires.1 c.in_err-count.ensures)

pub returns : goal.returns
returns c = let a = c.args in λ f s. string_read a.edit (contents a.from (drop a.from a.bytes.now ∷ [])) (done c.in_ok-count.count) a.payload.now _ f s c.requires.1 c.in_ok-count.ensures
