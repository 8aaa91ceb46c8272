use mathlib.Core.List.{[], ◌∷◌}
use mathlib.Core.Path.{refl}
use lib.ListN.{get_or, drop}
use Rattle.sequences.proofs.Steps.{found, lost, left, left-2, left-3, left-4, left-short, unannounced}
use Rattle.utf8.specs.Lead.{announced}
use Rattle.utf8.specs.Rfc3629.{UTF8-2, UTF8-3, UTF8-4}
use Rattle.sequences.proofs.read_long.Goals as goal

pub returns-in-len2-up : goal.returns-in-len2-up
unfolding announced
returns-in-len2-up c = let s = c.args.bytes.now in let i = c.args.start in let r = left s i in
    rw c.in-2.is (found UTF8-2 s (get_or r 0 0 ∷ get_or r 1 0 ∷ []) (drop 2 r) i 1 _ (left-2 s i c.in-len2-up.len_at_least) refl (c.is_two.ensures (drop 2 r)) _ c.if-is_two.true c.number_of_two.ensures)

pub returns-in_default-2 : goal.returns-in_default-2
unfolding announced
returns-in_default-2 c = rw c.in-2.is (left-short c.args.bytes.now c.args.start 2 UTF8-2 refl c.in_default-2.len_below)

pub returns-in_default-2-2 : goal.returns-in_default-2-2
unfolding announced
returns-in_default-2-2 c = let s = c.args.bytes.now in let i = c.args.start in let r = left s i in
    rw c.in-2.is (lost UTF8-2 s (get_or r 0 0 ∷ get_or r 1 0 ∷ []) (drop 2 r) i 1 _ (left-2 s i c.in-len2-up.len_at_least) refl (c.is_two.ensures (drop 2 r)) c.if-is_two.false)

pub returns-in-len3-up : goal.returns-in-len3-up
unfolding announced
returns-in-len3-up c = let s = c.args.bytes.now in let i = c.args.start in let r = left s i in
    rw c.in-3.is (found UTF8-3 s (get_or r 0 0 ∷ get_or r 1 0 ∷ get_or r 2 0 ∷ []) (drop 3 r) i 2 _ (left-3 s i c.in-len3-up.len_at_least) refl (c.is_three.ensures (drop 3 r)) _ c.if-is_three.true c.number_of_three.ensures)

pub returns-in_default-3 : goal.returns-in_default-3
unfolding announced
returns-in_default-3 c = rw c.in-3.is (left-short c.args.bytes.now c.args.start 3 UTF8-3 refl c.in_default-3.len_below)

pub returns-in_default-3-2 : goal.returns-in_default-3-2
unfolding announced
returns-in_default-3-2 c = let s = c.args.bytes.now in let i = c.args.start in let r = left s i in
    rw c.in-3.is (lost UTF8-3 s (get_or r 0 0 ∷ get_or r 1 0 ∷ get_or r 2 0 ∷ []) (drop 3 r) i 2 _ (left-3 s i c.in-len3-up.len_at_least) refl (c.is_three.ensures (drop 3 r)) c.if-is_three.false)

pub returns-in-len4-up : goal.returns-in-len4-up
unfolding announced
returns-in-len4-up c = let s = c.args.bytes.now in let i = c.args.start in let r = left s i in
    rw c.in-4.is (found UTF8-4 s (get_or r 0 0 ∷ get_or r 1 0 ∷ get_or r 2 0 ∷ get_or r 3 0 ∷ []) (drop 4 r) i 3 _ (left-4 s i c.in-len4-up.len_at_least) refl (c.is_four.ensures (drop 4 r)) _ c.if-is_four.true c.number_of_four.ensures)

pub returns-in_default-4 : goal.returns-in_default-4
unfolding announced
returns-in_default-4 c = rw c.in-4.is (left-short c.args.bytes.now c.args.start 4 UTF8-4 refl c.in_default-4.len_below)

pub returns-in_default-4-2 : goal.returns-in_default-4-2
unfolding announced
returns-in_default-4-2 c = let s = c.args.bytes.now in let i = c.args.start in let r = left s i in
    rw c.in-4.is (lost UTF8-4 s (get_or r 0 0 ∷ get_or r 1 0 ∷ get_or r 2 0 ∷ get_or r 3 0 ∷ []) (drop 4 r) i 3 _ (left-4 s i c.in-len4-up.len_at_least) refl (c.is_four.ensures (drop 4 r)) c.if-is_four.false)

pub returns-in_default : goal.returns-in_default
returns-in_default c = let a = c.args in
    unannounced a.bytes.now a.start a.ones c.requires.1 c.in_default.in_default-own.rest.0.0.1 c.in_default.in_default-own.rest.0.1 c.in_default.in_default-own.rest.1
