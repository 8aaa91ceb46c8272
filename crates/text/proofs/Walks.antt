-- The span of a row that was looked for: from its parts, and what it tells.
use mathlib.Core.Path.{◌≡◌, refl, sym, ◌∙◌, ap}
use mathlib.Core.List.{List}
use Prim.Native.Nat.{ℕ, ◌+◌, ◌-◌, ◌≤◌, min}
use native.Mathlib.Omega.{arith}
use lib.ListN.{length, take, drop}
use Rattle.text.specs.declared.Position.{Position}
use Rattle.text.specs.declared.Span.{Span}
use Rattle.text.specs.Rows.{last_row, row_len, row_start, span, char_at, at, clamp, offset, place}
use Rattle.text.specs.Text.{is_lf}
use Rattle.text.proofs.Laws.{row_at}
use Rattle.text.proofs.Spots.{row_within}
use Rattle.text.proofs.Texts.{front}

-- a row of the text from its start, where n elements stand before its LF
module _ (t : List ℕ) (r a n : ℕ) (s : a ≡ row_start is_lf t r) (e : n ≡ row_len is_lf (drop a t) 0) where
  run_row : n ≡ row_len is_lf t r
  run_row = e ∙ rw s (row_at is_lf t r)

  pub run-within : a + n ≤ length t
  run-within = omega (arith, run_row, row_within is_lf t r)

  pub run-span : r ≤ last_row is_lf t → record { row = record { 0 = r }; start = char_at a; end = char_at (a + n) } ≡ span is_lf t r
  unfolding span
  run-span h = let m : min r (last_row is_lf t) ≡ r = omega arith in let l = run_row in rw (m, s, l)

-- the row clamped is found as the row
pub span-clamped : (t : List ℕ) (n l r : ℕ) → l ≡ last_row is_lf t → r ≡ min n l → span is_lf t r ≡ span is_lf t n
unfolding span
span-clamped t n l r e f = let k : min r (last_row is_lf t) ≡ min n (last_row is_lf t) = omega arith in rw k

pub span-within : (t : List ℕ) (n : ℕ) (f : Span) → f ≡ span is_lf t n → (f.start.0 ≤ f.end.0) × (f.end.0 ≤ length t)
unfolding span
span-within t n f e = rw e (omega arith, row_within is_lf t (min n (last_row is_lf t)))

-- a place from its row's span
pub placed : (t : List ℕ) (p : Position) (f : Span) (c : ℕ) → f ≡ span is_lf t p.row.0 → c ≡ min p.col.0 (f.end.0 - f.start.0)
    → record { pos = at f.row.0 c; at = char_at (f.start.0 + c) } ≡ place is_lf t p
unfolding span clamp offset
placed t p f c e q =
    let r : ℕ = min p.row.0 (last_row is_lf t) in
    let m : row_start is_lf t r + row_len is_lf t r - row_start is_lf t r ≡ row_len is_lf t r = omega arith in
    rw (q, e, m)

pub span-parts : (t : List ℕ) (f : Span) → f ≡ span is_lf t f.row.0
    → (f.row.0 ≤ last_row is_lf t) × (f.start.0 ≡ row_start is_lf t f.row.0) × (f.end.0 ≡ row_start is_lf t f.row.0 + row_len is_lf t f.row.0)
unfolding span
span-parts t f e =
    let m : f.row.0 ≡ min f.row.0 (last_row is_lf t) = ap (λ (g : Span). g.row.0) e in
    let l : f.row.0 ≤ last_row is_lf t = omega arith in
    (l, ap (λ (g : Span). g.start.0) e ∙ rw (← m), ap (λ (g : Span). g.end.0) e ∙ rw (← m))

-- a row that was found, in a text as it is lent, is the row of its own number
module _ (text : List ℕ) (used n : ℕ) (f : Span) (e : f ≡ span is_lf (take (used - 0) (drop 0 text)) n) where
  pub found_row : f.row.0 ≡ min n (last_row is_lf (take used text))
  unfolding span
  found_row = ap (λ (g : Span). g.row.0) e ∙ rw (front text used)

  pub found_again : f ≡ span is_lf (take used text) f.row.0
  found_again = e ∙ ap (λ (t : List ℕ). span is_lf t n) (front text used) ∙ sym (span-clamped (take used text) n _ f.row.0 refl found_row)
