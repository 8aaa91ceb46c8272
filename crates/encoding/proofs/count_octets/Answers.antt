use mathlib.Core.List.{List}
use mathlib.Core.Path.{refl, sym, ap, ◌∙◌}
use Prim.Native.Nat.{ℕ}
use native.Mathlib.Omega.{arith}
use lib.ListN.{length, get_or}
use Rattle.std.proofs.lemmas.Result.{err_from_is_err_and}
use Rattle.promise.specs.Paper.{Paper}
use Rattle.encoding.proofs.Counts.{count_none, count_again, count_bad, count_all}
use Rattle.encoding.proofs.Sequences.{between, one-long, three_long, octets_some}
use Rattle.utf8.specs.Calls.{octets_in}
use Rattle.encoding.proofs.count_octets.Goals as goal
use Rattle.encoding.proofs.count_octets.Goals.{then-value-le127, else-value-le127+then-value, else-value-le127+else-value+in_ok-sequence_of}

pub loop-value-init : goal.loop-value-init
loop-value-init c = (omega arith, count_none _)

pub returns-in_err-sequence_of : goal.returns-in_err-sequence_of
returns-in_err-sequence_of c = let l = c.loop-value in let s = c.args.scalars.now in
    let p = err_from_is_err_and c.from_residual.result c.from_residual.ensures.1 in
    rw p.1 (count_bad s l.value-index l.count 0 c.loop-value-test.true (ap (λ (x : Paper (List ℕ)). length (octets_in x)) c.in_err-sequence_of.ensures) l.invariant.1 refl)

pub overflow_add-count-else-value : goal.overflow_add-count-else-value
overflow_add-count-else-value c = let l = c.loop-value in let s = c.args.scalars.now in
    let t = count_again s l.value-index l.count _ c.loop-value-test.true (c.octet_len.ensures ∙ ap (λ (x : Paper (List ℕ)). length (octets_in x)) c.in_ok-sequence_of.ensures) l.invariant.1 (λ z. octets_some c.in_ok-sequence_of.field-0 (sym c.octet_len.ensures ∙ z)) in
    omega arith

pub loop-value-preserved : goal.loop-value-preserved
loop-value-preserved c = let l = c.loop-value in let s = c.args.scalars.now in let i = l.value-index in
    elim c.if-value-le127.branch [
      | then-value-le127 w ↦
          let t = count_again s i l.count 1 c.loop-value-test.true (one-long (get_or s i 0) w.if-value-le127.true) l.invariant.1 (λ z. omega arith) in
          rw w.count-is (omega arith, t.1)
      | else-value-le127+then-value w ↦
          let v = between 0x7FF 0xD7FF (get_or s i 0) w.if-value.true in
          let t = count_again s i l.count 3 c.loop-value-test.true (three_long (get_or s i 0) v.0 v.1) l.invariant.1 (λ z. omega arith) in
          rw w.count-is (omega arith, t.1)
      | else-value-le127+else-value+in_ok-sequence_of w ↦
          let t = count_again s i l.count _ c.loop-value-test.true (w.octet_len.ensures ∙ ap (λ (x : Paper (List ℕ)). length (octets_in x)) w.in_ok-sequence_of.ensures) l.invariant.1 (λ z. octets_some w.in_ok-sequence_of.field-0 (sym w.octet_len.ensures ∙ z)) in
          rw w.count-is (omega arith, t.1)
    ]

pub returns : goal.returns
returns c = let l = c.loop-value in count_all _ l.value-index l.count c.loop-value-test.false l.invariant.1
