use mathlib.Core.Path.{ap, sym, ◌∙◌}
use mathlib.Core.List.{List, map}
use Prim.Native.Nat.{ℕ, ◌-◌}
use native.Mathlib.Omega.{arith}
use lib.ListN.{length, take, length-append, length-take}
use Rattle.promise.specs.Slices.{over}
use Rattle.frame.specs.Format.{text, frame_bytes}
use Rattle.printing.specs.Prints.{printed_as}
use Rattle.shift.specs.Answers.{followed}
use Rattle.marking.specs.MarkLines.{mark_lines}
use Rattle.feed.proofs.Ends.{part_length, behind}
use Rattle.feed.proofs.Closings.{used, text-line, text-within, ended}
use Rattle.feed.proofs.closing.print_ending.Goals as goal

pub slice_bounds-print_text-end : goal.slice_bounds-print_text-end
slice_bounds-print_text-end c = let a = c.args in text-within a.script a.text.now a.marks.now c.requires.0

pub print_text-size-requires : goal.print_text-size-requires
print_text-size-requires c = let a = c.args in (omega (arith, c.requires.1), (text-line a.script a.text.now a.marks.now c.requires.0).0)

pub slice_bounds-print_marks-count : goal.slice_bounds-print_marks-count
slice_bounds-print_marks-count c = let a = c.args in omega (arith, c.print_text-size.ensures.1, (text-line a.script a.text.now a.marks.now c.requires.0).1, c.requires.1, c.out-1.given)

pub slice_bounds-print_marks-start : goal.slice_bounds-print_marks-start
slice_bounds-print_marks-start c = let a = c.args in omega (arith, c.print_text-size.ensures.1, (text-line a.script a.text.now a.marks.now c.requires.0).1, c.requires.1, c.out-1.given)

pub print_marks-more-requires : goal.print_marks-more-requires
print_marks-more-requires c = let a = c.args in let h = c.requires.0 in let p = c.print_text-size in (omega (arith, h.few, length-take (a.script.place.marks - 0) a.marks.now), omega (arith, part_length p.new.out p.result, p.ensures.1, (text-line a.script a.text.now a.marks.now h).1, c.requires.1, c.out-1.given))

pub overflow_add-result : goal.overflow_add-result
overflow_add-result c = let a = c.args in omega (arith, c.print_text-size.ensures.1, (text-line a.script a.text.now a.marks.now c.requires.0).1, c.print_marks-more.ensures.2)

pub returns : goal.returns
returns c = let a = c.args in let p = c.print_text-size in let m = c.print_marks-more in
    let x : List ℕ = printed_as (frame_bytes (text (used a.script a.text.now a.marks.now))) in
    let z : List ℕ = mark_lines (map followed (take (a.script.place.marks - 0) a.marks.now)) in
    let e = ended a.script a.text.now a.marks.now in (
      behind x z a.out.now _ _ p.result p.ensures.1 p.ensures.0 m.ensures.0 ∙ ap (λ (v : List ℕ). over v a.out.now) (sym e),
      omega (arith, p.ensures.1, m.ensures.1, length-append x z, ap length e),
      omega (arith, p.ensures.1, (text-line a.script a.text.now a.marks.now c.requires.0).1, m.ensures.2),
    )
