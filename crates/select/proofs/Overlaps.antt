-- Which selections overlap.
use mathlib.Core.Bool.{true, and_comm}
use mathlib.Core.Path.{◌≡◌}
use Rattle.text.specs.Rows.{upto}
use Rattle.text.proofs.Order.{upto-trans, earlier-later}
use Rattle.select.specs.declared.Sel.{Sel}
use Rattle.select.specs.Sels.{start, end, overlaps}

pub start-end : (s : Sel) → upto (start s) (end s) ≡ true
start-end s = earlier-later s.anchor s.head

pub overlaps-swap : (s t : Sel) → overlaps s t ≡ overlaps t s
overlaps-swap s t = and_comm (upto (start s) (end t)) (upto (start t) (end s))

-- Of two in order, all depends on the first one's end.
pub overlaps-after : (s t : Sel) → upto (start s) (start t) ≡ true → overlaps s t ≡ upto (start t) (end s)
overlaps-after s t e = let f : upto (start s) (end t) ≡ true = upto-trans (start s) (start t) (end t) e (start-end t) in rw f
