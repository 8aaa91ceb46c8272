-- What rules out wrong loaders: each line is what the promise asks for at one text or mark, with a buffer of two places, and above it stands the program
-- that leaves something else there.
use Rattle.std.specs.Prelude.{◌≡◌, true, false, List, [], ◌∷◌, ◌++◌, ℕ}
use Rattle.promise.specs.Paper.{done, refused}
use Rattle.text.specs.Rows.{at}
use Rattle.select.specs.Sels.{sel}
use Rattle.frame.specs.Format.{mark}
use Rattle.shift.specs.Answers.{to}
use Rattle.loading.specs.States.{State, state}
use Rattle.loading.specs.Loads.{stepped, refuses, loaded, framed_by}

abbrev pub small : State
small = state (record { used = 0; cursor = at 0 0; changes = 0 }) (7 ∷ 7 ∷ []) (record { sound = true; marks = 2; edited = false }) (to (sel (at 0 0) (at 0 0)) ∷ [])

pub record RuledOut : Type 0 where
  -- a text as long as the buffer refused; its cursor at column 1
  pub full : loaded small (0x61 ∷ 0x62 ∷ []) ≡ stepped (state (record { used = 2; cursor = at 0 0; changes = 0 }) (0x61 ∷ 0x62 ∷ []) small.place small.marks) []
  -- an inadmissible value refused by 8
  pub inadmissible : loaded small (13 ∷ []) ≡ refuses small 1
  -- a text that is not UTF-8 printed as a malformed line
  pub bad_utf8 : framed_by (λ w. refuses small 9) small (refused 5 1) ≡ refuses small 5
  -- each mark kept over the first
  pub second :
      framed_by (λ w. refuses small 9) small (done (mark (sel (at 0 1) (at 2 3))))
      ≡ stepped (state small.view small.buffer small.place (to (sel (at 0 0) (at 0 0)) ∷ to (sel (at 0 1) (at 2 3)) ∷ [])) []
