use Rattle.merge.proofs.Calls.{too_many, not-fours, no_record, back_long, all-merged}
use native.Mathlib.Omega.{arith}
use Rattle.merge.proofs.merge_overlapping.Goals as goal

pub returns-then-len-gt-NUMBERS_LIMIT : goal.returns-then-len-gt-NUMBERS_LIMIT
returns-then-len-gt-NUMBERS_LIMIT c = let a = c.args in too_many a.sels.now a.out.now c.if-len-gt-NUMBERS_LIMIT.true

pub returns-then-len-ne0 : goal.returns-then-len-ne0
returns-then-len-ne0 c = let a = c.args in not-fours a.sels.now a.out.now c.if-len-gt-NUMBERS_LIMIT.false c.if-len-ne0.true

pub returns-then-out-len : goal.returns-then-out-len
returns-then-out-len c = let a = c.args in no_record a.sels.now a.out.now c.if-len-gt-NUMBERS_LIMIT.false c.if-len-ne0.false c.if-out-len.true

pub slice_bounds-collapse-end : goal.slice_bounds-collapse-end
slice_bounds-collapse-end c = let a = c.args in back_long a.sels.now _ _ _ c.if-len-ne0.false (omega arith) c.copy.ensures c.sort.ensures

pub returns : goal.returns
returns c = let a = c.args in all-merged a.sels.now _ _ _ c.if-len-ne0.false (omega arith) c.copy.ensures c.sort.ensures a.out.now _ c.if-len-gt-NUMBERS_LIMIT.false c.if-out-len.false c.collapse.ensures
