-- The theorems that specs/Theorems.antt states.
use mathlib.Core.Path.{◌≡◌, refl, ap, ◌∙◌}
use Prim.Native.Nat.{ℕ}
use Rattle.promise.specs.Paper.{Paper, done, refused}
use Rattle.promise.proofs.Settled.{settled}
use Rattle.edit.specs.declared.Refusal.{Refusal}
use Rattle.edit.proofs.Theorems.{refusal_back, refusal_back_lem}
use Rattle.sorting.specs.Sorting.{sorted, by_start}
use Rattle.sorting.proofs.Sorted.{ascending-sorted, sorted-reordered}
use Rattle.merge.specs.Merging.{collapse, merged}
use Rattle.merge.specs.Call.{Outcome}
use Rattle.merge.specs.Theorems.{Separates, CoversSame, LoneKept, MergedForward, TwiceIsOnce, OrderFree, Left, MergeSettled}
use Rattle.merge.proofs.Reorders.{sorted-separated, reordered_covered}
use Rattle.merge.proofs.Collapsed.{separated-collapse, covered-collapse, collapse-separated}
use Rattle.merge.proofs.Ties.{merged-reordered}
use Rattle.merge.proofs.Alone.{merged_keeps, merged-alone}
use Rattle.std.specs.Prelude.{Result, Ok, Err}
use Rattle.edit.specs.Call.{paper}

pub separates : Separates
separates l = separated-collapse (sorted by_start l) (ascending-sorted l)

pub covers-same : CoversSame
covers-same l p = covered-collapse p (sorted by_start l) ∙ reordered_covered p (sorted-reordered l)

pub lone_kept : LoneKept
lone_kept = merged_keeps

pub merged-forward : MergedForward
merged-forward = merged-alone

pub twice_is_once : TwiceIsOnce
twice_is_once l = ap collapse (sorted-separated (merged l) (separates l)) ∙ collapse-separated (merged l) (separates l)

pub order_free : OrderFree
order_free = merged-reordered

merged_back : Paper ℕ → Result ℕ Refusal
merged_back (done n) = Ok n
merged_back (refused n k) = Err (refusal_back n k)

merged-back : (x : Result ℕ Refusal) → merged_back (paper x) ≡ x
unfolding merged_back
merged-back (Ok n) = refl
merged-back (Err r) = ap (λ (r : Refusal). Err r) (refusal_back_lem r)

left_back : Outcome → Left
left_back x = record { answer = merged_back x.answer; out = x.out }

pub merge_settled : MergeSettled
unfolding left_back
merge_settled = settled left_back (λ x. ap (λ (a : Result ℕ Refusal). record { answer = a; out = x.out }) (merged-back x.answer))
