use Rattle.resolve.proofs.RowEdits.{put-resolves}
use borrow.Author.Rules.{rules}
use Rattle.resolve.proofs.rowwise.resolve_put.Goals as goal

pub returns : goal.returns
returns c = let a = c.args in let e = c.put_from-made.ensures in
    λ x s' h. put-resolves a.text.now x s' _ a.at _ a.lens.now (search rules) c.requires.1 e.few e.come h (e.by_index x)
