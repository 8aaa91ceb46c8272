-- What the splice leaves.
use Rattle.std.specs.Prelude.{List, [], ℕ, take}
use Rattle.std.proofs.Math.Seq.{slice}
use Rattle.promise.specs.Slices.{over}
use Rattle.text.specs.Rows.{spliced}
use Rattle.text.specs.Text.{renewed}

-- open_gap, open_padded: the buffer with p in its text at offset a
abbrev pub gap_opened : List ℕ → ℕ → ℕ → List ℕ → List ℕ
gap_opened buffer used a p = renewed buffer used (spliced (take used buffer) a a p)

-- remove: the buffer without what stood from a up to e of its text
abbrev pub gap_removed : List ℕ → ℕ → ℕ → ℕ → List ℕ
gap_removed buffer used a e = renewed buffer used (spliced (take used buffer) a e [])

-- close_gap: the text's buffer, and the slice lent for what is cut
pub record Gap : Type 0 where
  pub text : List ℕ
  pub cut : List ℕ

abbrev pub gap : List ℕ → List ℕ → Gap
gap t c = record { text = t; cut = c }

abbrev pub gap_closed : List ℕ → ℕ → ℕ → ℕ → List ℕ → Gap
gap_closed buffer used a e out = gap (gap_removed buffer used a e) (over (slice a e buffer) out)
