use mathlib.Core.Path.{refl}
use mathlib.Core.List.{[], ◌∷◌}
use native.Mathlib.Omega.{arith}
use Rattle.encoding.proofs.Fills.{exchanged}
use Rattle.encoding.proofs.put.Goals as goal

pub returns-in-Three : goal.returns-in-Three
returns-in-Three c = let w = c.in-Three in let h = rw w.is at c.requires in
    rw w.is (exchanged c.args.out.now (w.a ∷ w.b ∷ w.c ∷ []) _ c.args.at.0 _ c.copy_from_slice-in-Three.ensures.after (omega arith) (omega arith), refl)

pub returns-in-Four : goal.returns-in-Four
returns-in-Four c = let w = c.in-Four in let h = rw w.is at c.requires in
    rw w.is (exchanged c.args.out.now (w.a ∷ w.b ∷ w.c ∷ w.d ∷ []) _ c.args.at.0 _ c.copy_from_slice-in-Four.ensures.after (omega arith) (omega arith), refl)
