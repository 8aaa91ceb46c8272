-- The sums of steps, taken one after another.
use mathlib.Core.Path.{◌≡◌, ap, ◌∙◌}
use mathlib.Core.List.{List, ◌++◌}
use Prim.Native.Nat.{ℕ, ◌+◌, ◌-◌, ◌*◌, ◌≤◌, ◌<◌}
use native.Mathlib.Omega.{arith}
use borrow.Author.Tests.{eq-eqb, ne_eqb}
use lib.ListN.{length, take, drop, replicate, length-append, length-replicate, length-take}
use lib.Seq.{drop-drop}
use Rattle.text.specs.Rows.{last_row}
use Rattle.text.specs.Text.{is_lf}
use Rattle.text.proofs.Laws.{last_append, last_le, last_others, last_same}
use Rattle.steps.specs.Steps.{breaks_gone, breaks_come}
use Rattle.steps.specs.Numbers.{steps_of, passed_by, laid_by, come_by, cut_by, size_by}
use Rattle.recording.specs.declared.Five.{Five}
use Rattle.recording.specs.Recorded.{five_at, sums_of}
use Rattle.recording.proofs.Walks.{whole-left, passed-next, laid_next, come_next, going_next, coming_next, cut_next, none_passed, none_laid, none_cut, none_going, none_coming}

-- ---- what is made

pub made_some : (v n : ℕ) → v ≡ 10 → n ≡ last_row is_lf (replicate n v)
made_some v n e = omega (arith, last_same is_lf v n (eq-eqb v 10 e))

pub made_none : (v n : ℕ) → (v ≡ 10 → ⊥) → 0 ≡ last_row is_lf (replicate n v)
made_none v n e = omega (arith, last_others is_lf v n (ne_eqb v 10 e))

-- with a part of the payload behind it
pub brought-few : (v n k m : ℕ) (y : List ℕ) → k ≡ last_row is_lf (replicate n v) → m ≡ last_row is_lf y → (k ≤ n) × (m ≤ length y)
brought-few v n k m y e f = (omega (arith, last_le is_lf (replicate n v), length-replicate n v), omega (arith, last_le is_lf y))

pub brought-is : (v n k m : ℕ) (y : List ℕ) → k ≡ last_row is_lf (replicate n v) → m ≡ last_row is_lf y → k + m ≡ last_row is_lf (replicate n v ++ y)
brought-is v n k m y e f = omega (arith, last_append is_lf (replicate n v) y)

-- ---- the sums after i steps, which pass over `next` of t and `taken` of x; the bounds are those of numbers of 32 bits

pub record Totals (t l x : List ℕ) (n v laid cut going coming next taken i : ℕ) : Type 0 where
  pub laid-few : laid ≤ 12_884_901_888 * i
  pub cut_few : cut ≤ 4_294_967_296 * i
  pub going_few : going ≤ next
  pub coming_few : coming ≤ 8_589_934_592 * i
  pub laid-rest : laid + laid_by (n - i) (drop (5 * i) l) ≡ laid_by n l
  pub next_rest : next + passed_by (n - i) (drop (5 * i) l) ≡ passed_by n l
  pub taken-rest : taken + come_by (n - i) (drop (5 * i) l) ≡ come_by n l
  pub cut_rest : cut + cut_by (n - i) (drop (5 * i) l) ≡ cut_by n l
  pub going_rest : going + breaks_gone is_lf (steps_of (n - i) (drop (5 * i) l) (drop taken x)) (drop next t) ≡ breaks_gone is_lf (steps_of n l x) t
  pub coming_rest : coming + breaks_come is_lf v (steps_of (n - i) (drop (5 * i) l) (drop taken x)) ≡ breaks_come is_lf v (steps_of n l x)

pub totals_none : (t l x : List ℕ) (n v : ℕ) → Totals t l x n v 0 0 0 0 0 0 0
totals_none t l x n v =
    let a = whole-left laid_by l n in
    let b = whole-left passed_by l n in
    let c = whole-left cut_by l n in
    let d = whole-left come_by l n in
    let e = whole-left (λ (m : ℕ) (s : List ℕ). breaks_gone is_lf (steps_of m s x) t) l n in
    let f = whole-left (λ (m : ℕ) (s : List ℕ). breaks_come is_lf v (steps_of m s x)) l n in
    record {
      laid-few = omega arith;
      cut_few = omega arith;
      going_few = omega arith;
      coming_few = omega arith;
      laid-rest = omega arith;
      next_rest = omega arith;
      taken-rest = omega arith;
      cut_rest = omega arith;
      going_rest = omega arith;
      coming_rest = omega arith;
    }

-- the LFs of what a step takes and brings
pub gone_few : (t : List ℕ) (a n g : ℕ) → g ≡ last_row is_lf (take (a + n - a) (drop a t)) → g ≤ n
gone_few t a n g e = omega (arith, last_le is_lf (take (a + n - a) (drop a t)), length-take (a + n - a) (drop a t))

pub come_few : (x : List ℕ) (v p a n c : ℕ) → c ≡ last_row is_lf (replicate p v ++ take (a + n - a) (drop a x)) → c ≤ p + n
come_few x v p a n c e =
    let y : List ℕ = take (a + n - a) (drop a x) in
    omega (arith, last_le is_lf (replicate p v ++ y), length-append (replicate p v) y, length-replicate p v, length-take (a + n - a) (drop a x))

-- where a step stands
pub record Near (t x : List ℕ) (next taken : ℕ) (s : Five) : Type 0 where
  pub in_text_lem : next + s.keep + s.gone ≤ length t
  pub in_payload : taken + s.come ≤ length x

-- the part from a on, by its end
part-from : (t : List ℕ) (a n : ℕ) → take (a + n - a) (drop a t) ≡ take n (drop a t)
part-from t a n = let e : a + n - a ≡ n = omega arith in rw e

module _ (t l x : List ℕ) (n v laid cut going coming next taken i : ℕ) (T : Totals t l x n v laid cut going coming next taken i) where
  module _ (s : Five) (e : s ≡ five_at l i) (h : i < n) where
    pub near : passed_by n l ≤ length t → come_by n l ≤ length x → Near t x next taken s
    near hp hc = record { in_text_lem = omega (arith, passed-next l n i h s e); in_payload = omega (arith, come_next l n i h s e) }

    pub totals_next : (s.pad < 4_294_967_296) × (s.come < 4_294_967_296) × (s.back < 4_294_967_296)
        → (g c : ℕ) → g ≡ last_row is_lf (take (next + s.keep + s.gone - (next + s.keep)) (drop (next + s.keep) t))
        → c ≡ last_row is_lf (replicate s.pad v ++ take (taken + s.come - taken) (drop taken x))
        → passed_by n l ≤ length t → length t ≤ 16_384
        → Totals t l x n v (laid + (s.keep + s.pad + s.come)) (cut + s.back) (going + g) (coming + c) (next + s.keep + s.gone) (taken + s.come) (i + 1)
    totals_next f g c eg ec hp ht =
        let p = passed-next l n i h s e in
        let q = laid_next l n i h s e in
        let r = cut_next l n i h s e in
        let y = come_next l n i h s e in
        let P : List ℕ = take s.gone (drop (next + s.keep) t) in
        let Q : List ℕ = take s.come (drop taken x) in
        let eg' : g ≡ last_row is_lf P = eg ∙ ap (last_row is_lf) (part-from t (next + s.keep) s.gone) in
        let ec' : c ≡ last_row is_lf (replicate s.pad v ++ Q) = ec ∙ ap (λ (z : List ℕ). last_row is_lf (replicate s.pad v ++ z)) (part-from x taken s.come) in
        let L : List ℕ = drop (5 * (i + 1)) l in
        let m : ℕ = n - (i + 1) in
        let X : List ℕ = drop (taken + s.come) x in
        let ex : drop s.come (drop taken x) ≡ X = drop-drop s.come taken x in
        let ek : drop s.keep (drop next t) ≡ drop (next + s.keep) t = drop-drop s.keep next t in
        let et : drop (s.keep + s.gone) (drop next t) ≡ drop (next + s.keep + s.gone) t =
        let z : next + (s.keep + s.gone) ≡ next + s.keep + s.gone = omega arith in drop-drop (s.keep + s.gone) next t ∙ ap (λ (j : ℕ). drop j t) z in
        let G : breaks_gone is_lf (steps_of (n - i) (drop (5 * i) l) (drop taken x)) (drop next t) ≡ g + breaks_gone is_lf (steps_of m L X) (drop (next + s.keep + s.gone) t) =
        going_next l n i h s e (drop taken x) (drop next t) ∙ rw (ek, et, ex, ← eg') in
        let C : breaks_come is_lf v (steps_of (n - i) (drop (5 * i) l) (drop taken x)) ≡ c + breaks_come is_lf v (steps_of m L X) = coming_next l n i h s e v (drop taken x) ∙ rw (ex, ← ec') in
        let gl = gone_few t (next + s.keep) s.gone g eg in
        let cl = come_few x v s.pad taken s.come c ec in
        record {
          laid-few = omega arith;
          cut_few = omega arith;
          going_few = omega arith;
          coming_few = omega arith;
          laid-rest = omega arith;
          next_rest = omega arith;
          taken-rest = omega arith;
          cut_rest = omega arith;
          going_rest = omega arith;
          coming_rest = omega arith;
        }

  pub totals_all : n ≤ i → passed_by n l ≤ length t → record { used = laid + (length t - next); cut = cut; breaks_gone = going; breaks_come = coming } ≡ sums_of t l n v x
  totals_all h hp =
      let L : List ℕ = drop (5 * i) l in
      let z : n - i ≡ 0 = omega arith in
      let a : laid + (length t - next) ≡ size_by n l 0 (length t) = omega (arith, none_laid (n - i) L z, none_passed (n - i) L z) in
      let b : cut ≡ cut_by n l = omega (arith, none_cut (n - i) L z) in
      let c : going ≡ breaks_gone is_lf (steps_of n l x) t = omega (arith, none_going (n - i) L (drop taken x) (drop next t) z) in
      let d : coming ≡ breaks_come is_lf v (steps_of n l x) = omega (arith, none_coming (n - i) L (drop taken x) v z) in
      rw (a, b, c, d)
