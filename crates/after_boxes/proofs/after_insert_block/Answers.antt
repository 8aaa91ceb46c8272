-- Answered here, and not by the attribute, so that a wrong program is refused by a law and not at a limit.
use Rattle.std.proofs.Common.{◌≡◌, ◌∙◌, ◌-◌, ◌+◌, ◌<◌, ℕ, ap, arith, length, get_or}
use Rattle.std.proofs.lemmas.Bool.Decides.{nat_tests}
use Rattle.text.specs.Rows.{at}
use Rattle.after.proofs.Rectangles.{put-moved}
use Rattle.after_boxes.proofs.after_insert_block.Goals as goal

pub returns : goal.returns
returns c =
    let a = c.args in
    let within : a.pos.row.0 - a.at.row.0 < length a.lens.now = grind (arith, nat_tests) in
    let moved : c.in-Some.len.now ≡ get_or a.lens.now (a.pos.row.0 - a.at.row.0) 0 = grind (arith, nat_tests) in
    ap (λ (n : ℕ). at a.pos.row.0 (a.pos.col.0 + n)) moved ∙ put-moved a.pos a.at a.lens.now (grind (arith, nat_tests)) within
