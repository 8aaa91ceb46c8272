-- The plan of a split looks at the text as it was: what is known once the columns from index k on were taken.
use mathlib.Core.Path.{◌≡◌, refl, sym, ap, subst, ◌∙◌}
use mathlib.Core.Bool.{Bool, true, ◌&&◌, ◌||◌}
use mathlib.Core.List.{List}
use Prim.Native.Nat.{ℕ, suc, ◌+◌, ◌-◌, ◌≤◌, ◌<◌, min}
use native.Mathlib.Omega.{arith}
use lib.Dec.{eqb, leb}
use lib.ListN.{length, drop, get_or}
use lib.Seq.{drop-length}
use Rattle.text.specs.declared.Span.{Span}
use Rattle.text.specs.Rows.{last_row, row_len, row_start, span}
use Rattle.text.specs.Text.{is_lf}
use Rattle.text.proofs.Changes.{row_of}
use Rattle.edit.specs.Edits.{split}
use Rattle.edit.specs.Call.{plan_of}
use Rattle.edit.specs.Refusals.{is_space, spaces, within_all, within_ok}
use Rattle.edit.specs.declared.Edit.TheVariants.{SplitLines}
use Rattle.joins.specs.declared.SplitTurn.{SplitTurn}
use Rattle.joins.specs.declared.SplitPlan.{SplitPlan}
use Rattle.joins.specs.Turns.{split_turn}
use Rattle.joins.proofs.SplitRows.{least, least_le}
use Rattle.joins.proofs.SplitTurns.{split_to, left_to, splits_none, first_slice, Spans, within_more, turn_at, turn_one, turn_size, spans_at}

pub record Counted (t : List ℕ) (r : ℕ) (cs fs : List ℕ) (within : Bool) (used end k : ℕ) : Type 0 where
  pub within-is : within ≡ within_all (row_of t r) (drop k cs) (drop k fs)
  pub used_is : used ≡ length (split_to t r cs fs k)
  pub end_is : end ≡ row_start is_lf t r + left_to t r cs k

abbrev pub Counting : List ℕ → List ℕ → List ℕ → ℕ → ℕ → Bool → ℕ → ℕ → ℕ → Type 0
Counting t cs fs start end₀ within used end k = (r : ℕ) → Spans t r start end₀ → Counted t r cs fs within used end k

pub counting_none : (t cs fs : List ℕ) (start end : ℕ) → Counting t cs fs start end true (length t) end (length cs)
unfolding within_all least
counting_none t cs fs start end r s = record {
  within-is = rw (drop-length cs);
  used_is = sym (ap length (splits_none t r s.within cs fs));
  end_is = rw (drop-length cs) s.ends;
}

module _ (t cs fs : List ℕ) (start end₀ : ℕ) (within : Bool) (used end : ℕ) where
  counted-more : (r : ℕ) → Spans t r start end₀ → (j : ℕ) → Counted t r cs fs within used end (suc j) → j < length cs → (f : ℕ) → f ≡ get_or fs j 0 → (y : SplitTurn) → y ≡ split_turn t start end (get_or cs j 0) f
      → Counted t r cs fs ((eqb f 0 || leb (get_or cs j 0) (end - start)) && within) (used + 1 - y.gone) y.at.0 j
  counted-more r s j p l f ef y e =
      let q = first_slice t r s.within (left_to t r cs (suc j)) (least_le (row_len is_lf t r) (drop (suc j) cs)) in
      let b : start ≡ row_start is_lf t r = s.begins in
      let d : end ≡ row_start is_lf t r + left_to t r cs (suc j) = p.end_is in
      let w : within ≡ within_all (row_of t r) (drop (suc j) cs) (drop (suc j) fs) = p.within-is in
      let g : y ≡ split_turn t (row_start is_lf t r) (row_start is_lf t r + left_to t r cs (suc j)) (get_or cs j 0) (get_or fs j 0) = e ∙ rw (b, d, ef) in
      let m : end - start ≡ left_to t r cs (suc j) = omega arith in
      record {
        within-is = rw (within_more t r s.within cs fs j l, m, ef, w);
        used_is = omega (arith, p.used_is, turn_size t r s.within cs fs j l t q y g, turn_one t r s.within cs fs j l t q y g);
        end_is = turn_at t r s.within cs fs j l t q y g;
      }

  pub counting_more : (k : ℕ) → Counting t cs fs start end₀ within used end k → 0 < k → k ≤ length cs → (f : ℕ) → f ≡ get_or fs (k - 1) 0 → (y : SplitTurn) → y ≡ split_turn t start end (get_or cs (k - 1) 0) f
      → Counting t cs fs start end₀ ((eqb f 0 || leb (get_or cs (k - 1) 0) (end - start)) && within) (used + 1 - y.gone) y.at.0 (k - 1)
  counting_more k p h l f ef y e r s =
      let q : k ≡ suc (k - 1) = omega arith in
      counted-more r s (k - 1) (subst (λ (i : ℕ). Counted t r cs fs within used end i) q (p r s)) (omega arith) f ef y e

split-sizes : (t : List ℕ) (r : ℕ) (cs fs : List ℕ) → plan_of (split is_lf is_space spaces t r cs fs) ≡ record { used = length (split is_lf is_space spaces t r cs fs).text; payload = 0; first = 0; second = 0 }
unfolding split
split-sizes t r cs fs = refl

pub counting_all : (t cs fs : List ℕ) (within : Bool) (used end k : ℕ) (f : Span) → f ≡ span is_lf t f.row.0 → Counting t cs fs f.start.0 f.end.0 within used end k → k ≡ 0
    → ◌≡◌ {A = SplitPlan} (record { within = within; sizes = record { used = used; payload = 0; first = 0; second = 0 } }) (record { within = within_ok t (SplitLines f.row) cs fs; sizes = plan_of (split is_lf is_space spaces t f.row.0 cs fs) })
unfolding within_ok
counting_all t cs fs within used end k f e p z =
    let s = spans_at t f e in
    let q = subst (λ (i : ℕ). Counted t f.row.0 cs fs within used end i) z (p f.row.0 s) in
    let m : min f.row.0 (last_row is_lf t) ≡ f.row.0 = omega (arith, s.within) in
    let w : within ≡ within_all (row_of t f.row.0) cs fs = q.within-is in
    let none : plan_of (split is_lf is_space spaces t f.row.0 cs fs) ≡ record { used = length (split is_lf is_space spaces t f.row.0 cs fs).text; payload = 0; first = 0; second = 0 } = split-sizes t f.row.0 cs fs in
    let u : used ≡ length (split is_lf is_space spaces t f.row.0 cs fs).text = q.used_is in
    rw (m, w, u, none)
