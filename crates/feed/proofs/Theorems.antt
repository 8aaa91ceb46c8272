-- The theorems that specs/Theorems.antt states.
use mathlib.Core.Path.{sym, ◌∙◌}
use Rattle.feed.specs.Theorems.{FedInTwo, LongAlike, HeldAlike, FedWhole}
use Rattle.feed.proofs.Feeds.{fed-append, long_step, held-step}
use Rattle.feed.proofs.Wholes.{fed-all}

pub fed-in_two : FedInTwo
fed-in_two = fed-append

pub long_alike : LongAlike
long_alike s l k h j = long_step s l h ∙ sym (long_step s k j)

pub held-alike : HeldAlike
held-alike = held-step

pub fed-whole : FedWhole
fed-whole = fed-all
