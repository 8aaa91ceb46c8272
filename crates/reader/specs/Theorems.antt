-- What is proved beside that the code meets its promises. The proofs stand in proofs/Theorems.antt.
use Rattle.std.specs.Prelude.{List, ℕ, Result}
use Rattle.promise.specs.Settled.{Settles}
use Rattle.edit.specs.declared.Refusal.{Refusal}
use Rattle.reader.specs.declared.FrameRead.{FrameRead}
use Rattle.reader.specs.Calls.{paper_read, filled}

-- what is there when `read` returns
pub record Exit : Type 0 where
  pub answer : Result FrameRead Refusal
  pub payload : List ℕ
  pub first : List ℕ
  pub second : List ℕ

-- The promise of `read` settles all of it.
abbrev pub ReadSettled : Type 0
ReadSettled = Settles (λ (x : Exit). filled (paper_read x.answer) x.payload x.first x.second)
