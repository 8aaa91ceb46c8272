use Rattle.place.proofs.is_placed.Goals as goal

pub returns : goal.returns
returns c = rw (c.contains.ensures, c.contains-2.ensures)
