-- An answer as document 01 has it. Each crate gives its enums this meaning, and its promises go through it.
use Rattle.std.specs.Prelude.{ℕ}

-- "A refusal yields its number (offset 0 except for 5)": the number, then the offset.
pub data Paper (A : Type 0) : Type 0 where
  done : A → Paper A
  refused : ℕ → ℕ → Paper A
