-- What steps give back, copied one part after another.
use mathlib.Core.Path.{◌≡◌, refl, sym, ap, ap₂, ◌∙◌}
use mathlib.Core.List.{List, ◌++◌}
use Prim.Native.Nat.{ℕ, ◌+◌, ◌-◌, ◌*◌, ◌≤◌, ◌<◌}
use native.Mathlib.Decide.{dec_le}
use native.Mathlib.Omega.{arith}
use lib.ListN.{length, take, drop, get_or, length-take, length-drop}
use lib.Seq.{paste, drop-drop, length-paste}
use Rattle.promise.specs.Slices.{over}
use Rattle.steps.specs.Steps.{cut_of}
use Rattle.steps.specs.Numbers.{steps_of, passed_by, cut_by}
use Rattle.recording.specs.declared.Five.{Five}
use Rattle.recording.specs.Recorded.{five_at}
use Rattle.recording.proofs.Slots.{slot_first, slot_last, part-next}
use Rattle.recording.proofs.Walks.{cuts_by, cut_by_lem, cuts_long, whole-left, passed-next, cut_next, cuts_next, back_less, none_cut}

-- after i steps, of which `done` were written to o, and which passed over `next` of t
pub record Cutting (t l o₀ o : List ℕ) (n next done i : ℕ) : Type 0 where
  pub same : length o ≡ length o₀
  pub in_text_lem : next + passed_by (n - i) (drop (5 * i) l) ≤ length t
  pub in_room : done + cut_by (n - i) (drop (5 * i) l) ≤ length o₀
  pub rest : paste o done (cuts_by (n - i) (drop (5 * i) l) (drop next t)) (cut_by (n - i) (drop (5 * i) l)) ≡ over (cuts_by n l t) o₀

pub cutting_none : (t l o : List ℕ) (n : ℕ) → passed_by n l ≤ length t → cut_by n l ≤ length o → Cutting t l o o n 0 0 0
cutting_none t l o n h k =
    let b = whole-left passed_by l n in
    let c = whole-left cut_by l n in
    record {
      same = refl;
      in_text_lem = omega arith;
      in_room = omega arith;
      rest = ap₂ {C = List ℕ} (λ w m. paste o 0 w m) (whole-left (λ (m : ℕ) (s : List ℕ). cuts_by m s t) l n) c ∙ slot_first o (cuts_by n l t) (cut_by n l) (cuts_long n l t h);
    }

-- the part from `keep` and `lost` on, by its end
part-back : (t : List ℕ) (next k g o b : ℕ) → b ≡ g - o → take (next + k + g - (next + k + g - b)) (drop (next + k + g - b) t) ≡ take b (drop (k + o) (drop next t))
part-back t next k g o b e = elim (dec_le o g) [ yes h ↦ some h | no h ↦ none h ]
  where
    some : o ≤ g → take (next + k + g - (next + k + g - b)) (drop (next + k + g - b) t) ≡ take b (drop (k + o) (drop next t))
    some h =
        let p : next + k + g - b ≡ next + (k + o) = omega arith in
        let q : next + k + g - (next + (k + o)) ≡ b = omega arith in
        rw (p, q, drop-drop (k + o) next t)

    none : (o ≤ g → ⊥) → take (next + k + g - (next + k + g - b)) (drop (next + k + g - b) t) ≡ take b (drop (k + o) (drop next t))
    none h =
        let z : b ≡ 0 = omega arith in
        let q : next + k + g - (next + k + g - 0) ≡ 0 = omega arith in
        rw (z, q)

-- the part of a step
abbrev pub end_of : ℕ → Five → ℕ
end_of next s = next + s.keep + s.gone

abbrev pub part_of : List ℕ → ℕ → Five → List ℕ
part_of t next s = take (end_of next s - (end_of next s - s.back)) (drop (end_of next s - s.back) t)

pub record Part (t o : List ℕ) (next done : ℕ) (s : Five) : Type 0 where
  pub in_text_lem : end_of next s ≤ length t
  pub in_step : s.back ≤ end_of next s
  pub long : length (part_of t next s) ≡ s.back
  pub in_room : done + length (part_of t next s) ≤ length o

module _ (t l o₀ o : List ℕ) (n next done i : ℕ) (C : Cutting t l o₀ o n next done i) where
  module _ (s : Five) (e : s ≡ five_at l i) (h : i < n) where
    pub part : Part t o next done s
    part =
        let a : end_of next s ≤ length t = omega (arith, C.in_text_lem, passed-next l n i h s e) in
        let b : s.back ≤ end_of next s = omega (arith, back_less l n i h s e) in
        let c : length (part_of t next s) ≡ s.back = length-take (end_of next s - (end_of next s - s.back)) (drop (end_of next s - s.back) t) ∙ omega (arith, length-drop (end_of next s - s.back) t) in
        record { in_text_lem = a; in_step = b; long = c; in_room = omega (arith, C.in_room, C.same, cut_next l n i h s e) }

    pub cutting_next : (o' : List ℕ) → o' ≡ paste o done (part_of t next s) (length (part_of t next s)) → Cutting t l o₀ o' n (end_of next s) (done + s.back) (i + 1)
    cutting_next o' p =
        let E : ℕ = end_of next s in
        let P : List ℕ = part_of t next s in
        let L : List ℕ = drop (5 * (i + 1)) l in
        let m : ℕ = n - (i + 1) in
        let a = passed-next l n i h s e in
        let b = cut_next l n i h s e in
        let u : drop (s.keep + s.gone) (drop next t) ≡ drop E t = let z : next + (s.keep + s.gone) ≡ E = omega arith in drop-drop (s.keep + s.gone) next t ∙ ap (λ (j : ℕ). drop j t) z in
        let x : take s.back (drop (s.keep + get_or (drop (5 * i) l) 4 0) (drop next t)) ≡ P = sym (part-back t next s.keep s.gone (get_or (drop (5 * i) l) 4 0) s.back (rw e)) in
        let w : cuts_by (n - i) (drop (5 * i) l) (drop next t) ≡ P ++ cuts_by m L (drop E t) = cuts_next l n i h s e (drop next t) ∙ ap₂ {C = List ℕ} (λ y z. y ++ z) x (ap (cuts_by m L) u) in
        let y : length (cuts_by m L (drop E t)) ≡ cut_by m L = cuts_long m L (drop E t) (omega (arith, C.in_text_lem, length-drop E t)) in
        let r = C.in_room in
        let q = C.in_text_lem in
        let f = C.same in
        record {
          same = ap length p ∙ length-paste o done P (length P) part.in_room (omega arith) ∙ C.same;
          in_text_lem = omega arith;
          in_room = omega arith;
          rest = part-next o o' P (cuts_by m L (drop E t)) (over (cuts_by n l t) o₀) done s.back (cut_by m L) part.long y (omega arith) p (ap₂ {C = List ℕ} (λ z k. paste o done z k) (sym w) (sym b) ∙ C.rest);
        }

  pub cutting_all : n ≤ i → (x : List ℕ) → o ≡ over (cut_of (steps_of n l x) t) o₀
  cutting_all h x =
      let z : n - i ≡ 0 = omega arith in
      slot_last o (cuts_by (n - i) (drop (5 * i) l) (drop next t)) (over (cuts_by n l t) o₀) done (cut_by (n - i) (drop (5 * i) l)) (none_cut (n - i) (drop (5 * i) l) z) C.rest ∙ ap (λ (w : List ℕ). over w o₀) (sym (cut_by_lem n l x t))
