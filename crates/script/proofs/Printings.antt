-- What is found in an output: its inverse frames and its text frame.
use mathlib.Core.Path.{◌≡◌, refl, ◌∙◌, ap, subst}
use mathlib.Core.Bool.{Bool, true, false, cond, ◌&&◌}
use mathlib.Core.List.{List, [], ◌∷◌, ◌++◌, map, append-nil, append_assoc, reverse-append}
use Prim.Native.Nat.{ℕ, ◌/◌, ◌%◌, ◌<◌}
use native.Mathlib.Omega.{arith}
use borrow.Author.Tests.{eqb-true}
use lib.Dec.{eqb}
use Rattle.promise.proofs.Bools.{both, unless}
use Rattle.text.proofs.Ended.{Plain}
use Rattle.edit.proofs.Maps.{map-append}
use Rattle.select.specs.declared.Sel.{Sel}
use Rattle.shift.specs.Answers.{Followed, to, dropped}
use Rattle.hexline.specs.Digits.{digit_of, hexed}
use Rattle.hexline.proofs.Breaks.{hexed-plain}
use Rattle.hexline.proofs.Zeros.{zero_byte, hexed-zero}
use Rattle.frame.specs.Format.{text, mark, frame_bytes}
use Rattle.marking.specs.MarkLines.{mark_line, mark_lines}
use Rattle.loading.specs.States.{State, text_in}
use Rattle.step.specs.Steps.{ending}
use Rattle.script.specs.Undo.{script, rows, last_of, starts, starting, accepted, inverses_in, text_line, text_line_in}
use Rattle.script.proofs.Lines.{Plains, none, more, both-plain, script-rows, script-append}

-- ---- lines by how they begin

starting-append : (d : ℕ) (ls ms : List (List ℕ)) → starting d (ls ++ ms) ≡ starting d ls ++ starting d ms
unfolding starting
starting-append d [] ms = refl
starting-append d (l ∷ ls) ms = rw (starting-append d ls ms) (go (starts d l))
  where
    go : (b : Bool) → cond b (l ∷ (starting d ls ++ starting d ms)) (starting d ls ++ starting d ms) ≡ cond b (l ∷ starting d ls) (starting d ls) ++ starting d ms
    go true = refl
    go false = refl

pub inverses-append : (ls ms : List (List ℕ)) → inverses_in (ls ++ ms) ≡ inverses_in ls ++ inverses_in ms
inverses-append ls ms = rw (starting-append 48 ls ms) (map-append _ (starting 48 ls) (starting 48 ms))

-- 00 and more
pub accepted-plain : (bs : List ℕ) → Plain (accepted (hexed bs))
accepted-plain bs = subst Plain (hexed-zero bs) (hexed-plain (0 ∷ bs))

pub zero_starts : (l : List ℕ) → starts 48 (accepted l) ≡ true
unfolding starts
zero_starts l = refl

pub inverses-accepted : (is : List (List ℕ)) → inverses_in (map accepted is) ≡ is
unfolding starting starts
inverses-accepted [] = refl
inverses-accepted (i ∷ is) = ap {B = List (List ℕ)} (λ k. i ∷ k) (inverses-accepted is)

-- nothing, and a byte that is not 0
pub nothing_starts : starts 48 [] ≡ false
unfolding starts
nothing_starts = refl

pub byte_starts : (n : ℕ) (l : List ℕ) → 0 < n → starts 48 (hexed (n ∷ []) ++ l) ≡ false
unfolding starts hexed
byte_starts n l h =
    let a = digit_of (n / 16) in
    let b = digit_of (n % 16) in
    unless (eqb a 48 && eqb b 48) (λ e.
    let k = both (eqb a 48) (eqb b 48) e in
    omega (arith, zero_byte n (eqb-true a 48 k.0) (eqb-true b 48 k.1)))

-- ---- the lines of marks

record Marks (ms : List (Followed Sel)) : Type 0 where
  lines : List (List ℕ)
  plain : Plains lines
  printed : mark_lines ms ≡ script lines
  others : (d : ℕ) → starts d (48 ∷ 50 ∷ []) ≡ false → starts d (48 ∷ 51 ∷ []) ≡ false → starting d lines ≡ []

mark_lines_lem : (ms : List (Followed Sel)) → Marks ms
unfolding mark_lines mark_line script starting starts frame_bytes hexed digit_of
mark_lines_lem [] = record { lines = []; plain = none; printed = refl; others = λ d e f. refl }
mark_lines_lem (to m ∷ ms) =
    let r = mark_lines_lem ms in
    let l = hexed (frame_bytes (mark m)) in
    record {
      lines = l ∷ r.lines;
      plain = more (hexed-plain (frame_bytes (mark m))) r.plain;
      printed = rw r.printed (append_assoc l (10 ∷ []) (script r.lines));
      others = λ d e f. rw e (r.others d e f);
    }
mark_lines_lem (dropped ∷ ms) =
    let r = mark_lines_lem ms in
    let l = hexed (0x03 ∷ []) in
    record {
      lines = l ∷ r.lines;
      plain = more (hexed-plain (0x03 ∷ [])) r.plain;
      printed = rw r.printed;
      others = λ d e f. rw f (r.others d e f);
    }

-- ---- an output

pub last_of_lem : (ls : List (List ℕ)) (l : List ℕ) → last_of (ls ++ (l ∷ [])) ≡ l
last_of_lem ls l = rw (reverse-append ls (l ∷ []))

-- the lines printed one by one, and the ending
pub record Found (os : List (List ℕ)) (u : State) (o : List ℕ) : Type 0 where
  pub inverses : inverses_in (rows o) ≡ inverses_in os
  pub text : text_line_in (rows o) ≡ text_line (text_in u)

pub found : (os : List (List ℕ)) (u : State) (o : List ℕ) → Plains os → o ≡ script os ++ ending u → Found os u o
unfolding ending script starting starts frame_bytes hexed digit_of
found os u o p e =
    let m = mark_lines_lem u.marks in
    let t = text_line (text_in u) in
    let all = os ++ (t ∷ m.lines) in
    let q : o ≡ script all = e ∙ rw (script-append os (t ∷ m.lines), m.printed, append_assoc t (10 ∷ []) (script m.lines)) in
    let r : rows o ≡ all ++ ([] ∷ []) = ap rows q ∙ script-rows (both-plain p (more (hexed-plain (frame_bytes (text (text_in u)))) m.plain)) in
    let b : (d : ℕ) → starting d (rows o) ≡ starting d os ++ (starting d (t ∷ m.lines) ++ starting d ([] ∷ [])) =
    λ d. rw (r, starting-append d all ([] ∷ []), starting-append d os (t ∷ m.lines), append_assoc) in
    record {
      inverses = rw (b 48, m.others 48 refl refl, append-nil);
      text = rw (b 49, m.others 49 refl refl) (last_of_lem (starting 49 os) t);
    }
