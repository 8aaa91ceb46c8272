use mathlib.Core.Path.{sym, ap, ◌∙◌}
use Rattle.utf8.specs.Answers.{paper_decoded}
use Rattle.reader.proofs.Behinds.{behind-done, behind_ok}
use Rattle.reader.proofs.strings.read_behind.Goals as goal

pub unwrap-requires : goal.unwrap-requires
unwrap-requires c = let a = c.args in behind_ok a.string.now a.payload.now a.from _ c.requires.0 c.requires.1 c.decode.result c.decode.ensures

pub returns : goal.returns
returns c = let a = c.args in behind-done a.string.now a.payload.now a.from _ c.requires.0 c.requires.1 c.unwrap.result (rw c.unwrap.ensures at c.decode.ensures)
