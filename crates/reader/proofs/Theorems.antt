-- The theorems that specs/Theorems.antt states.
use mathlib.Core.Path.{◌≡◌, refl, ap}
use Rattle.std.specs.Prelude.{Result, Ok, Err}
use Rattle.edit.specs.declared.Refusal.{Refusal}
use Rattle.promise.specs.Paper.{Paper, done, refused}
use Rattle.promise.proofs.Settled.{settled}
use Rattle.edit.proofs.Theorems.{refusal_back, refusal_back_lem}
use Rattle.reader.specs.declared.FrameRead.{FrameRead}
use Rattle.reader.specs.declared.FrameRead.TheVariants as as_read
use Rattle.reader.specs.Calls.{Read, text, mark, edit, paper_read, Filled, filled}
use Rattle.reader.specs.Theorems.{Exit, ReadSettled}

read_back : Paper Read → Result FrameRead Refusal
read_back (done (text n)) = Ok (as_read.Text n)
read_back (done (mark m)) = Ok (as_read.Mark m)
read_back (done (edit e x f s)) = Ok (as_read.Edit e x f s)
read_back (refused n k) = Err (refusal_back n k)

read_back_lem : (r : Result FrameRead Refusal) → read_back (paper_read r) ≡ r
unfolding read_back
read_back_lem (Ok (as_read.Text n)) = refl
read_back_lem (Ok (as_read.Mark m)) = refl
read_back_lem (Ok (as_read.Edit e x f s)) = refl
read_back_lem (Err r) = ap Err (refusal_back_lem r)

exit_back : Filled → Exit
exit_back o = record { answer = read_back o.answer; payload = o.payload; first = o.first; second = o.second }

exit_back_lem : (x : Exit) → exit_back (filled (paper_read x.answer) x.payload x.first x.second) ≡ x
unfolding exit_back
exit_back_lem x = ap (λ (a : Result FrameRead Refusal). record { answer = a; payload = x.payload; first = x.first; second = x.second }) (read_back_lem x.answer)

pub read_settled : ReadSettled
read_settled = settled exit_back exit_back_lem
