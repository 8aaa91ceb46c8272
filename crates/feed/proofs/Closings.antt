-- What is printed once no more comes: the lines of the marks one after another, behind the text's.
use mathlib.Core.Path.{◌≡◌, refl, sym, ap, ◌∙◌}
use mathlib.Core.Bool.{cond}
use mathlib.Core.List.{List, [], ◌∷◌, ◌++◌, map, append-nil, append_assoc}
use Prim.Native.Nat.{ℕ, ◌+◌, ◌-◌, ◌≤◌, ◌<◌}
use native.Mathlib.Nat.{sub-zero}
use native.Mathlib.Omega.{arith}
use borrow.Author.Tests.{eq-eqb, ne_eqb}
use lib.Dec.{eqb}
use native.Mathlib.Numerals.{add-one}
use lib.ListN.{length, take, drop, get_or, length-append, drop_of_length-le}
use lib.Seq.{drop-cons}
use Rattle.std.specs.Prelude.{Option}
use Rattle.promise.specs.Slices.{over}
use Rattle.text.proofs.Texts.{text-true}
use Rattle.select.specs.declared.Sel.{Sel}
use Rattle.shift.specs.Answers.{Followed, to, dropped, followed}
use Rattle.frame.specs.Format.{text, mark, frame_bytes}
use Rattle.frame.specs.Inverses.{HasLine}
use Rattle.printing.specs.Prints.{printed_as}
use Rattle.printing.proofs.Printed.{printed-length}
use Rattle.marking.specs.MarkLines.{mark_line, mark_lines}
use Rattle.loading.specs.declared.Script.{Script}
use Rattle.loading.specs.States.{State, state_of}
use Rattle.step.specs.Steps.{ending}
use Rattle.step.specs.Calls.{Ready}
use Rattle.step.proofs.Readies.{ready_lines}
use Rattle.feed.specs.Feeds.{closing}
use Rattle.feed.proofs.Ends.{behind}

pub mark_short : (r : ℕ) (m : Followed Sel) → r ≡ length (mark_line m) → r ≤ 35
unfolding mark_line frame_bytes
mark_short r (to m) e = omega (arith, printed-length (frame_bytes (mark m)))
mark_short r dropped e = omega (arith, printed-length (0x03 ∷ []))

-- ---- the marks

module _ (m : List (Option Sel)) where
  abbrev pub rest : ℕ → List ℕ
  rest i = mark_lines (map followed (drop i m))

  marks_next : (i : ℕ) (d : Option Sel) → i < length m → rest i ≡ mark_line (followed (get_or m i d)) ++ rest (i + 1)
  unfolding mark_lines
  marks_next i d h = rw (drop-cons m i d h, add-one)

  rest_none : (i : ℕ) → length m ≤ i → rest i ≡ []
  unfolding mark_lines
  rest_none i h = rw (drop_of_length-le m h)

  -- the lines of i marks are printed, s bytes: x holds them in front of o
  pub record Shown (i s : ℕ) (x o : List ℕ) : Type 0 where
    pub lines : List ℕ
    pub all : mark_lines (map followed m) ≡ lines ++ rest i
    pub count : s ≡ length lines
    pub kept : x ≡ over lines o

  pub shown_none : (o : List ℕ) → Shown 0 0 o o
  shown_none o = record { lines = []; all = refl; count = refl; kept = refl }

  pub shown_next : (i s k : ℕ) (d : Option Sel) (x y o : List ℕ) → i < length m → Shown i s x o → y ≡ over (mark_line (followed (get_or m i d))) (take (length x - s) (drop s x)) → k ≡ length (mark_line (followed (get_or m i d)))
      → Shown (i + 1) (s + k) (take s x ++ (y ++ drop (length x - s) (drop s x))) o
  shown_next i s k d x y o h g e q =
      let l = mark_line (followed (get_or m i d)) in
      record {
        lines = g.lines ++ l;
        all = g.all ∙ rw (marks_next i d h) (simp append_assoc);
        count = omega (arith, g.count, length-append g.lines l);
        kept = behind g.lines l o y x s g.count g.kept e;
      }

  pub shown_all : (i s : ℕ) (x o : List ℕ) → length m ≤ i → Shown i s x o → (x ≡ over (mark_lines (map followed m)) o) × (s ≡ length (mark_lines (map followed m)))
  shown_all i s x o h g =
      let e : mark_lines (map followed m) ≡ g.lines = g.all ∙ ap (λ (v : List ℕ). g.lines ++ v) (rest_none i h) ∙ append-nil g.lines in
      (g.kept ∙ ap (λ (v : List ℕ). over v o) (sym e), g.count ∙ ap length (sym e))

-- ---- the text

module _ (c : Script) (t : List ℕ) (m : List (Option Sel)) where
  abbrev pub used : List ℕ
  used = take (c.view.used - 0) (drop 0 t)

  pub text-line : Ready c t m → HasLine (text used) × (length (printed_as (frame_bytes (text used))) ≤ 36_867)
  text-line h = rw sub-zero (ready_lines c t m h)

  pub text-within : Ready c t m → c.view.used ≤ length t
  text-within h = (text-true t c.view.used h.admitted).0

  pub ended : ending (state_of c t m) ≡ printed_as (frame_bytes (text used)) ++ mark_lines (map followed (take (c.place.marks - 0) m))
  unfolding ending
  ended = rw (sub-zero c.view.used, sub-zero c.place.marks)

-- ---- a cut line

pub cut_none : (p : ℕ) → p ≡ 0 → cond (eqb p 0) [] (printed_as (10 ∷ [])) ≡ []
cut_none p e = rw (eq-eqb p 0 e)

pub cut_some : (p : ℕ) → (p ≡ 0 → ⊥) → cond (eqb p 0) [] (printed_as (10 ∷ [])) ≡ printed_as (10 ∷ [])
cut_some p e = rw (ne_eqb p 0 e)

pub closed : (s : State) (p : ℕ) → closing s p ≡ cond (eqb p 0) [] (printed_as (10 ∷ [])) ++ ending s
unfolding closing
closed s p = refl
