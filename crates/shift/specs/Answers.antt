-- What each case of an answer says in document 01's words.
use Rattle.promise.specs.Paper.{Paper, done, refused}
use Rattle.text.specs.declared.Position.{Position}
use Rattle.edit.specs.Call.{number_of, offset_of}
use Rattle.select.specs.declared.Sel.{Sel}
use Rattle.std.specs.Prelude.{Result, Ok, Err, Option, Some, None}
use Rattle.edit.specs.declared.Refusal.{Refusal}

-- "SplitLines answers Dropped, which is no refusal."
pub data Followed (A : Type 0) : Type 0 where
  to : A → Followed A
  dropped : Followed A

abbrev pub followed : {A : Type 0} → Option A → Followed A
followed (Some x) = to x
followed None = dropped

abbrev pub paper_shifted : {A : Type 0} → Result (Option A) Refusal → Paper (Followed A)
paper_shifted (Ok o) = done (followed o)
paper_shifted (Err r) = refused (number_of r) (offset_of r)
