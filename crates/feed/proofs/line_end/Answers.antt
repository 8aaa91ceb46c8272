use Rattle.std.proofs.Common.{rules, tests}
use Rattle.std.proofs.lemmas.Iterator.{YieldsList-from_slice}
use Rattle.std.proofs.lemmas.Iterator.Search.{position_from_yields_List}
use Rattle.text.specs.Text.{is_lf}
use Rattle.feed.proofs.Holding.{ends-at}
use Rattle.feed.proofs.line_end.Goals as goal

pub returns : goal.returns
returns c = let s = c.args.bytes.now in ends-at s c.position.result c.unwrap_or.result (position_from_yields_List is_lf _ _ _ c.position.ensures.ran (YieldsList-from_slice s cc) (λ x b q k. search (rules, tests))) c.unwrap_or.ensures
