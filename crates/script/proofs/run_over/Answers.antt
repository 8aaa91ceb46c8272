use mathlib.Core.List.{[]}
use Prim.Native.Nat.{ℕ}
use native.Mathlib.Omega.{arith}
use lib.ListN.{length-replicate}
use Rattle.std.proofs.lemmas.Result.{err_from_is_err_and}
use Rattle.loading.specs.States.{state_of}
use Rattle.feed.specs.Scripts.{output}
use Rattle.feed.specs.Feeds.{closing}
use Rattle.script.specs.declared.feeding.FedOver.{FedOver}
use Rattle.script.proofs.Twice.{opens-ready, opens-run}
use Rattle.script.proofs.Feedings.{last_comes}
use Rattle.script.proofs.Goings.{ends_long}
use Rattle.script.proofs.run_over.Goals as goal

pub feed_all-requires : goal.feed_all-requires
feed_all-requires c = (opens-ready _ c.opening.ensures, omega (arith, length-replicate {A = ℕ} 36_865 0), omega (arith, length-replicate {A = ℕ} 39_110 0))

pub returns-in_err-fed : goal.returns-in_err-fed
returns-in_err-fed c = let a = c.args in let r = c.feed_all in let p = err_from_is_err_and c.from_residual.result c.from_residual.ensures.1 in
    rw p.1 (ends_long a.keep _ _ _ _ _ r.result _ [] c.in_err-fed.was (opens-run c.opening.result c.opening.ensures a.keep a.input.now _ r.result (λ (f : FedOver). closing (state_of f.script r.new.text r.new.marks) f.pending) _ r.ensures.goes))

pub returns : goal.returns
returns c = let a = c.args in let r = c.feed_all in let f = c.in_ok-fed.fed in let e = c.close-size in c.add_part.ensures.by_index (output a.input.now) a.out.now []
    (last_comes a.keep _ _ (closing (state_of f.script r.new.text r.new.marks) f.pending) _ _ _ f.printed e.result e.ensures.0 e.ensures.1
    ((opens-run c.opening.result c.opening.ensures a.keep a.input.now _ r.result (λ (f : FedOver). closing (state_of f.script r.new.text r.new.marks) f.pending) _ r.ensures.goes).on f c.in_ok-fed.was))
