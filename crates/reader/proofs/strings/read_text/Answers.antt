use mathlib.Core.List.{[], ◌∷◌}
use lib.ListN.{drop}
use Rattle.std.proofs.lemmas.Result.{err_from_is_err_and}
use Rattle.promise.specs.Paper.{done}
use Rattle.frame.specs.Reads.{contents}
use Rattle.reader.proofs.Decodes.{text-read, text_refused}
use Rattle.reader.proofs.strings.read_text.Goals as goal

pub returns-in_err-count : goal.returns-in_err-count
returns-in_err-count c = let a = c.args in λ f s. let p = err_from_is_err_and c.from_residual.result c.from_residual.ensures.1 in
    rw (p.1, p.2) (text_refused _ (contents 1 (drop 1 a.bytes.now ∷ [])) a.payload.now _ f s c.in_err-count.ensures)

pub returns : goal.returns
returns c = let a = c.args in λ f s. text-read (contents 1 (drop 1 a.bytes.now ∷ [])) (done c.in_ok-count.count) a.payload.now _ f s c.in_ok-count.ensures
