use native.Mathlib.Omega.{arith}
use borrow.Author.Tests.{le-leb, lt-leb}
use Rattle.hexline.specs.Digits.{value_of}
use Rattle.hexline.proofs.Digits.{low_digit, high_digit}
use Rattle.hexline.proofs.value_of.Goals as goal

pub overflow_sub-result : goal.overflow_sub-result
overflow_sub-result c = low_digit _ c.requires c.if-c-le57.true

pub overflow_sub-result-else-c-le57 : goal.overflow_sub-result-else-c-le57
overflow_sub-result-else-c-le57 c = let k = high_digit _ c.requires c.if-c-le57.false in omega arith

pub returns-then-c-le57 : goal.returns-then-c-le57
unfolding value_of
returns-then-c-le57 c = record { value = rw (le-leb _ _ c.if-c-le57.true); upper_bound = omega arith }

pub returns-else-c-le57 : goal.returns-else-c-le57
unfolding value_of
returns-else-c-le57 c =
    let k = high_digit _ c.requires c.if-c-le57.false in record { value = rw (lt-leb _ _ c.if-c-le57.false); upper_bound = omega arith }
