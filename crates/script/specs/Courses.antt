-- What a run has printed: it goes over the slice lent for its output, and where `keep` is false it only counts.
use Rattle.std.specs.Prelude.{Bool, false, cond, List, ◌≡◌, ℕ, ◌≤◌, ◌<◌, length, take, drop, Result, Ok, Err}
use Rattle.promise.specs.Slices.{over}
use Rattle.utf8.specs.declared.NoRoom.{NoRoom}
use Rattle.script.specs.declared.feeding.FedOver.{FedOver}

-- Of w, all that is to be printed, the first k are, and `rest` is still to come; the slice held `before`, and holds `after` now.
pub record Going (keep : Bool) (w before : List ℕ) (k : ℕ) (rest after : List ℕ) : Type 0 where
  pub within : k ≤ length w
  pub fits : k ≤ length before
  pub left : drop k w ≡ rest
  pub kept : after ≡ cond keep (over (take k w) before) before

-- The same once more has been printed, or w does not fit the slice.
pub record Goes (keep : Bool) (w before : List ℕ) (r : Result ℕ NoRoom) (rest after : List ℕ) : Type 0 where
  pub long : (e : NoRoom) → r ≡ Err e → length before < length w
  pub on : (k : ℕ) → r ≡ Ok k → Going keep w before k rest after
  pub same : keep ≡ false → after ≡ before

-- The same of all that is fed: what is still to come is told from where that ended.
pub record GoesFed (keep : Bool) (w before : List ℕ) (r : Result FedOver NoRoom) (rest : FedOver → List ℕ) (after : List ℕ) : Type 0 where
  pub long : (e : NoRoom) → r ≡ Err e → length before < length w
  pub on : (f : FedOver) → r ≡ Ok f → Going keep w before f.printed (rest f) after
  pub same : keep ≡ false → after ≡ before
