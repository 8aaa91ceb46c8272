use mathlib.Core.Path.{refl}
use Prim.Native.Nat.{◌+◌, ◌-◌}
use native.Mathlib.Omega.{arith}
use borrow.Author.Rules.{rules}
use lib.ListN.{length}
use Rattle.std.proofs.lemmas.Slice.{put_mid-paste}
use Rattle.weave.proofs.Pieces.{laid-over, part-filled}
use Rattle.weave.proofs.lay.Goals as goal

pub returns : goal.returns
returns c =
    let a = c.args in
    let x = a.payload.now in
    laid-over a.text.now _ _ x a.value a.at a.pad c.requires (part-filled a.text.now _ a.at (a.at + a.pad) a.pad a.value refl (omega (arith, c.requires)) (c.fill.ensures.after (λ y h. search rules)))
    (put_mid-paste (a.at + a.pad) (a.at + a.pad + length x - (a.at + a.pad)) _ _ x (length x) c.copy_from_slice.ensures.after (omega arith) refl)
