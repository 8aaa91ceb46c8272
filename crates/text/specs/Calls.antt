-- What each call answers.
use Rattle.std.specs.Prelude.{cond, List, ℕ, take}
use Rattle.promise.specs.Paper.{Paper, done, refused}
use Rattle.text.specs.declared.Position.{Position}
use Rattle.text.specs.Rows.{clamp}
use Rattle.text.specs.Text.{is_lf, text_ok}

-- a call on a text that refuses by 1 alone: what it answers for the used part of the buffer
abbrev pub on_text : {A : Type 0} → (List ℕ → A) → List ℕ → ℕ → Paper A
on_text f buffer used = cond (text_ok buffer used) (done (f (take used buffer))) (refused 1 0)

-- clamp_position
abbrev pub clamped_in : List ℕ → ℕ → Position → Paper Position
clamped_in buffer used p = on_text (λ t. clamp is_lf t p) buffer used
