-- The call: its refusals, and the slices that it works in.
use mathlib.Core.List.{List, ◌++◌}
use mathlib.Core.Path.{◌≡◌, sym, ap, ◌∙◌}
use Prim.Native.Nat.{ℕ, ◌-◌, ◌*◌, ◌/◌, ◌%◌, ◌≤◌, ◌<◌}
use native.Mathlib.Omega.{arith}
use borrow.Author.Tests.{le-leb, lt-leb, eq-eqb, ne_eqb}
use lib.ListN.{length, take, drop, length-append}
use lib.Seq.{take-append_seam, take_at}
use Rattle.promise.specs.Paper.{done, refused}
use Rattle.promise.specs.Slices.{over}
use Rattle.text.proofs.Texts.{front}
use Rattle.edit.specs.Call.{first_of}
use Rattle.sorting.specs.Flat.{flat, sels}
use Rattle.sorting.specs.Sorting.{sorted, by_start}
use Rattle.sorting.proofs.Sorted.{length-sorted}
use Rattle.sorting.proofs.Flats.{fours, length-flat, sels-flat, length-sels}
use Rattle.sorting.proofs.Weaves.{front-back}
use Rattle.merge.specs.Merging.{collapse, merged}
use Rattle.merge.specs.Call.{Outcome, outcome, leaves, merged_in}

module _ (input out : List ℕ) where
  pub too_many : 4_096 < length input → outcome (refused 3 0) out ≡ merged_in input out
  unfolding first_of leaves merged_in
  too_many h = rw (lt-leb (length input) 4_096 h)

  pub not-fours : length input ≤ 4_096 → (length input % 4 ≡ 0 → ⊥) → outcome (refused 4 0) out ≡ merged_in input out
  unfolding first_of leaves merged_in
  not-fours h k = rw (le-leb (length input) 4_096 h, ne_eqb (length input % 4) 0 k)

  pub no_record : length input ≤ 4_096 → length input % 4 ≡ 0 → length out < length input → outcome (refused 9 0) out ≡ merged_in input out
  unfolding first_of leaves merged_in
  no_record h k r = rw (le-leb (length input) 4_096 h, eq-eqb (length input % 4) 0 k, lt-leb (length input) (length out) r)

  accepted : length input ≤ 4_096 → length input % 4 ≡ 0 → length input ≤ length out
      → outcome (done (length (merged (sels input)))) (over (flat (merged (sels input))) out) ≡ merged_in input out
  unfolding first_of leaves merged_in
  accepted h k r = rw (le-leb (length input) 4_096 h, eq-eqb (length input % 4) 0 k, le-leb (length input) (length out) r)

-- the input copied to the front of w and sorted there, as y
module _ (input work w y : List ℕ) (k : length input % 4 ≡ 0) (r : length input ≤ length work) (e : w ≡ over input work) (f : y ≡ flat (sorted by_start (sels (take (length input - 0) (drop 0 w))))) where
  copied : take (length input - 0) (drop 0 w) ≡ input
  copied = front w (length input) ∙ ap (take (length input)) e ∙ take-append_seam input (drop (length input) work)

  in_order : y ≡ flat (sorted by_start (sels input))
  in_order = f ∙ ap (λ (t : List ℕ). flat (sorted by_start (sels t))) copied

  y_long : length y ≡ length input
  y_long =
      let q : length input ≡ 4 * (length input / 4) = omega arith in
      ap length in_order ∙ length-flat (sorted by_start (sels input)) ∙ ap (λ (n : ℕ). 4 * n) (length-sorted (sels input) ∙ length-sels (fours (length input / 4) input q)) ∙ sym q

  pub back_long : length input ≤ length (take 0 w ++ (y ++ drop (length input - 0) (drop 0 w)))
  back_long = rw (front-back w y (length input)) (omega (arith, y_long, length-append y (drop (length input) w)))

  back : sels (take (length input - 0) (drop 0 (take 0 w ++ (y ++ drop (length input - 0) (drop 0 w))))) ≡ sorted by_start (sels input)
  back =
      rw (front-back w y (length input), front (y ++ drop (length input) w) (length input), take_at y (drop (length input) w) (length input) y_long)
      (ap sels in_order ∙ sels-flat (sorted by_start (sels input)))

  pub all-merged : (out : List ℕ) (left : Outcome) → length input ≤ 4_096 → length input ≤ length out
      → (let s : List ℕ = take (length input - 0) (drop 0 (take 0 w ++ (y ++ drop (length input - 0) (drop 0 w)))) in left ≡ outcome (done (length (collapse (sels s)))) (over (flat (collapse (sels s))) out))
      → left ≡ merged_in input out
  all-merged out left h o l = rw back at l ∙ accepted input out h k o
