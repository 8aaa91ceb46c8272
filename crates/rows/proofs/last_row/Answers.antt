use mathlib.Core.Path.{◌≡◌, sym, ◌∙◌}
use borrow.Author.Rules.{rules}
use Rattle.std.specs.List.{count_by}
use Rattle.text.proofs.Scans.{last_count}
use Rattle.text.specs.Text.{is_lf}
use Rattle.rows.proofs.last_row.Goals as goal

pub returns : goal.returns
returns c = let s = c.args.text.now in let e : c.sum.result ≡ count_by is_lf s = search rules in e ∙ sym (last_count s)
