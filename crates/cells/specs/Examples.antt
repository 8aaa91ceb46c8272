-- Rows in cells: what rules out wrong tables and walks, with the wrong program above each line; and that what the theorems suppose is met and
-- needed.
use Rattle.std.specs.Prelude.{true, false, not, ◌||◌, [], ◌∷◌, ◌≡◌, eqb}
use Rattle.std.specs.Prelude.{None, Some}
use Rattle.text.specs.Text.{all}
use Rattle.cells.specs.Wide.{is_wide, wide_in, edges, ascends, count_up_to, odd}
use Rattle.cells.specs.Cells.{width, first_outside, near_after}

pub record RuledOut : Type 0 where
  -- a wide character of one cell: HIRAGANA LETTER A, FULLWIDTH LATIN CAPITAL LETTER A, IDEOGRAPHIC SPACE
  pub kana : width 8 (0x3042 ∷ []) ≡ 2
  pub fullwidth : width 8 (0xFF21 ∷ []) ≡ 2
  pub space : width 8 (0x3000 ∷ []) ≡ 2
  -- a halfwidth or an ambiguous character of two, a combining one or U+FEFF of none
  pub halfwidth : width 8 (0xFF71 ∷ []) ≡ 1
  pub ambiguous : width 8 (0xA1 ∷ []) ≡ 1
  pub combining : width 8 (0x300 ∷ []) ≡ 1
  pub byte_order_mark : width 8 (0xFEFF ∷ []) ≡ 1
  -- "its defaults included": what is not assigned yet read as narrow; the last two of a plane read as wide
  pub unassigned : is_wide 0xFADA ≡ true
  pub plane_two : is_wide 0x2FFFD ≡ true
  pub behind_it : is_wide 0x2FFFE ≡ false
  pub plane_three : is_wide 0x3FFFD ≡ true
  pub last : is_wide 0x10FFFF ≡ false
  -- a range one too long or too short at either end
  pub before_first : is_wide 0x10FF ≡ false
  pub first : is_wide 0x1100 ≡ true
  pub first_end : is_wide 0x115F ≡ true
  pub behind_first : is_wide 0x1160 ≡ false
  -- a tab of its own width wherever it stands; one that stays where it is a multiple; a tab width of 0 that divides, or acts as 2
  pub tab : width 4 (97 ∷ 9 ∷ 97 ∷ []) ≡ 5
  pub tab_again : width 4 (9 ∷ 9 ∷ []) ≡ 8
  pub tab_none : width 0 (9 ∷ []) ≡ 1
  -- a tab's stop counted in characters: it stands behind two cells
  pub tab_kana : width 2 (0x3042 ∷ 9 ∷ []) ≡ 4
  -- a character that begins inside and ends outside taken as inside
  pub half_outside : first_outside 2 8 (97 ∷ 0x3042 ∷ []) ≡ Some 1
  pub tab_outside : first_outside 4 8 (97 ∷ 9 ∷ []) ≡ Some 1
  -- the count lost at a character that is not searched for; that of the range before kept
  pub near_kept : near_after 81 97 ≡ 81
  pub near_counted : near_after 81 0x3099 ≡ 83
  -- the cell for the column
  pub column : first_outside 4 8 (0x3042 ∷ 0x3042 ∷ 97 ∷ []) ≡ Some 2

-- `LeavesByWidth` is about rows that fit too
abbrev pub FittingRow : Type 0
FittingRow = first_outside 3 8 (97 ∷ 0x3042 ∷ []) ≡ None

-- `AsWideAsLong` is about some row
abbrev pub LongRow : Type 0
LongRow = all (λ x. not (eqb x 9 || is_wide x)) (97 ∷ 0xFF71 ∷ 32 ∷ []) ≡ true

-- `SearchAgrees` needs its rule: 4 stands both in 1 to 5 and in 3 to 7, and an even number of their edges is at most it
pub record RuleNeeded : Type 0 where
  pub overlap : ascends (edges ((1, 5) ∷ (3, 7) ∷ [])) ≡ false
  pub in_both : wide_in ((1, 5) ∷ (3, 7) ∷ []) 4 ≡ true
  pub even : odd (count_up_to 4 (edges ((1, 5) ∷ (3, 7) ∷ []))) ≡ false
