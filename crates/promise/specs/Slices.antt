-- What a call leaves in a slice that was lent for its output.
use Rattle.std.specs.Prelude.{List, ◌++◌, ℕ, length, drop}

-- xs at its front; "as do inverse buffers and every other output slice past what is written", the rest keeps its contents
abbrev pub over : List ℕ → List ℕ → List ℕ
over xs out = xs ++ drop (length xs) out
