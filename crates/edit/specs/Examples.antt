-- Sentences of document 01 as examples, equations of the whole call; refusals in order; what rules out wrong programs; and a run of every
-- kind that demand 3 names.
-- Its marked examples are in crate `marked`. In a text "/" is LF, 10; a is 97, X is 88, a space 32.
use Rattle.std.specs.Prelude.{◌≡◌, true, false, List, [], ◌∷◌, ◌++◌, map, ℕ, ◌-◌, max, length, replicate}
use Rattle.promise.specs.Paper.{done, refused}
use Rattle.text.specs.declared.Position.{Position}
use Rattle.text.specs.Rows.{at}
use Rattle.edit.specs.declared.MotionKind.TheVariants.{Char, Line as Lines, Block}
use Rattle.edit.specs.declared.Edit.{Edit}
use Rattle.edit.specs.declared.Edit.TheVariants.{InsertChar, InsertStr, DeleteRange, JoinLines, SplitLines, Replace, InsertBlock, DeleteBlockChunks}
use Rattle.edit.specs.Edits.{Whole, whole, edited, row_at}
use Rattle.edit.specs.Refusals.{few_ok}
use Rattle.edit.specs.Call.{outcome, next_view}
use Rattle.edit.specs.Runs.{Run, stop, step, edits, stages}
use Rattle.edit.specs.Demand3.{State, text, Beside, RecordRoom, called, Undoable}

-- a text in a buffer of 16 places, with 7 in those behind it; slices of 8 and 4 places, full of 9
abbrev pub opened : List ℕ → State
opened t = record { used = length t; buffer = t ++ replicate (16 - length t) 7 }

abbrev pub beside : Beside
beside = record { cursor = at 0 0; changes = 0; payload = replicate 8 9; first = replicate 4 9; second = replicate 4 9 }

-- the edit w of the text t leaves the text u, the inverse i and the cursor c; zeros where the text shrank, and all else as it was
abbrev pub Gives : List ℕ → Whole ℕ → List ℕ → Whole ℕ → Position → Type 0
Gives t w u i c =
    called (opened t) w beside
    ≡ outcome
    (done (record {
      view = record { used = length u; cursor = c; changes = 1 };
      inverse = i.edit;
      payload = length i.payload;
      first = length i.first;
      second = length i.second;
    }))
    (u ++ (replicate (length t - length u) 0 ++ replicate (16 - max (length t) (length u)) 7)) (i.payload ++ replicate (8 - length i.payload) 9)
    (i.first ++ replicate (4 - length i.first) 9) (i.second ++ replicate (4 - length i.second) 9)

-- it is refused by this number, and nothing lent changes
abbrev pub Refuses : List ℕ → Whole ℕ → ℕ → Type 0
Refuses t w n = called (opened t) w beside ≡ outcome (refused n 0) (opened t).buffer beside.payload beside.first beside.second

abbrev pub plain : Edit → List ℕ → Whole ℕ
plain e x = whole e x [] []

-- "ab/cdef"
abbrev pub abcdef : List ℕ
abcdef = 97 ∷ 98 ∷ 10 ∷ 99 ∷ 100 ∷ 101 ∷ 102 ∷ []

-- "abc/d"
abbrev pub abcd : List ℕ
abcd = 97 ∷ 98 ∷ 99 ∷ 10 ∷ 100 ∷ []

-- "abc", "abcd" and "a/b/c"
abbrev pub abc : List ℕ
abc = 97 ∷ 98 ∷ 99 ∷ []

abbrev pub abcd_row : List ℕ
abcd_row = 97 ∷ 98 ∷ 99 ∷ 100 ∷ []

abbrev pub three_rows : List ℕ
three_rows = 97 ∷ 10 ∷ 98 ∷ 10 ∷ 99 ∷ []

pub record FurtherExamples : Type 0 where
  -- the edit of example 3: "ab/cd", "X/" at (0,1): "aX/b/cd", cursor (1,0)
  pub insert :
      Gives (97 ∷ 98 ∷ 10 ∷ 99 ∷ 100 ∷ []) (plain (InsertStr (at 0 1)) (88 ∷ 10 ∷ [])) (97 ∷ 88 ∷ 10 ∷ 98 ∷ 10 ∷ 99 ∷ 100 ∷ []) (plain (DeleteRange (at 0 1) (at 1 0) Char) []) (at 1 0)
  -- "Inverse: InsertStr of the cut text at the *unclamped* ordered start", which is marked example 4: "ab/cdef", Char (0,99)-(1,2)
  pub cut_past : Gives abcdef (plain (DeleteRange (at 0 99) (at 1 2) Char) []) (97 ∷ 98 ∷ 101 ∷ 102 ∷ []) (plain (InsertStr (at 0 99)) (10 ∷ 99 ∷ 100 ∷ [])) (at 0 4)
  -- "Cursor: (row,0)", "Cursor: lo .. column 0", below the first row
  pub join_below : Gives three_rows (plain (JoinLines (row_at 1) 1 false) []) (97 ∷ 10 ∷ 98 ∷ 99 ∷ []) (whole (SplitLines (row_at 1)) [] (1 ∷ []) (0 ∷ [])) (at 1 0)
  pub line_below : Gives three_rows (plain (DeleteRange (at 1 0) (at 1 0) Lines) []) (97 ∷ 10 ∷ 99 ∷ []) (plain (InsertStr (at 1 0)) (98 ∷ 10 ∷ [])) (at 1 0)
  -- "a space at the column is removed if there": here none is
  pub split_no_space : Gives abc (whole (SplitLines (row_at 0)) [] (1 ∷ []) (1 ∷ [])) (97 ∷ 10 ∷ 98 ∷ 99 ∷ []) (plain (JoinLines (row_at 0) 1 true) []) (at 0 0)
  -- "Flag no: the column is clamped to the row's length at that step", and a missing flag is no
  pub split_past : Gives abc (whole (SplitLines (row_at 0)) [] (9 ∷ []) []) (97 ∷ 98 ∷ 99 ∷ 10 ∷ []) (plain (JoinLines (row_at 0) 1 false) []) (at 0 0)
  -- "columns taken last first", as they stand in their list
  pub split_order : Gives abc (whole (SplitLines (row_at 0)) [] (2 ∷ 1 ∷ []) []) (97 ∷ 10 ∷ 10 ∷ 98 ∷ 99 ∷ []) (plain (JoinLines (row_at 0) 2 false) []) (at 0 0)
  -- "if any flag, surplus ones included, is yes"
  pub split_surplus : Gives abc (whole (SplitLines (row_at 0)) [] (1 ∷ []) (0 ∷ 1 ∷ [])) (97 ∷ 10 ∷ 98 ∷ 99 ∷ []) (plain (JoinLines (row_at 0) 1 true) []) (at 0 0)
  -- "padded with spaces to the column if shorter"; "Inverse: DeleteBlockChunks with widths and pads"
  pub block_padded : Gives (97 ∷ []) (whole (InsertBlock (at 0 2)) (88 ∷ []) (1 ∷ []) []) (97 ∷ 32 ∷ 88 ∷ []) (whole (DeleteBlockChunks (at 0 2)) [] (1 ∷ []) (1 ∷ [])) (at 0 2)
  -- "cut from column minus pad (not below 0) to column plus width": pad 1, pad 3, and none
  pub chunk_padded : Gives abcd_row (whole (DeleteBlockChunks (at 0 2)) [] (1 ∷ []) (1 ∷ [])) (97 ∷ 100 ∷ []) (whole (InsertBlock (at 0 2)) (99 ∷ []) (1 ∷ []) []) (at 0 2)
  pub chunk_all : Gives abcd_row (whole (DeleteBlockChunks (at 0 2)) [] (1 ∷ []) (3 ∷ [])) (100 ∷ []) (whole (InsertBlock (at 0 2)) (99 ∷ []) (1 ∷ []) []) (at 0 1)
  pub chunk_bare : Gives abcd_row (whole (DeleteBlockChunks (at 0 2)) [] (1 ∷ []) []) (97 ∷ 98 ∷ 100 ∷ []) (whole (InsertBlock (at 0 2)) (99 ∷ []) (1 ∷ []) []) (at 0 2)
  -- at the limits: 1,000,000 is no number too big; 256 chunks or rows pass 3, and only their record has no room here
  pub big : Gives [] (plain (InsertStr (at 1_000_000 1_000_000)) []) [] (plain (DeleteRange (at 0 0) (at 0 0) Char) []) (at 0 0)
  pub many_chunks : Refuses [] (whole (InsertBlock (at 0 0)) [] (replicate 256 0) []) 9
  pub many_rows : Refuses [] (plain (DeleteRange (at 0 0) (at 255 0) Block) []) 9
  -- "a 64-bit change counter that wraps"
  pub wraps : (next_view (record { used = 0; cursor = at 0 0; changes = 18_446_744_073_709_551_615 }) (edited [] (plain (InsertStr (at 0 0)) []) (at 0 0))).changes ≡ 0

-- ---- refusals in order

-- "a/b/c/d/e/f"
abbrev pub six_rows : List ℕ
six_rows = 97 ∷ 10 ∷ 98 ∷ 10 ∷ 99 ∷ 10 ∷ 100 ∷ 10 ∷ 101 ∷ 10 ∷ 102 ∷ []

-- for each row that can refuse an edit one that it refuses, and a later row would too (9 is the last)
pub record FirstRefusals : Type 0 where
  -- U+000D in the text, and a row of 1,000,001
  pub bad_text : Refuses (13 ∷ []) (plain (InsertStr (at 1_000_001 0)) []) 1
  -- that row, and 257 chunks
  pub too_big : Refuses [] (whole (InsertBlock (at 1_000_001 0)) [] (replicate 257 0) []) 2
  -- 257 chunks, and U+000D in the payload
  pub too_many : Refuses [] (whole (InsertBlock (at 0 0)) (13 ∷ []) (replicate 257 0) []) 3
  -- seventeen times U+000D for sixteen places
  pub bad_payload : Refuses [] (plain (InsertStr (at 0 0)) (replicate 17 13)) 4
  -- a full buffer split past its row
  pub beyond_row : Refuses (replicate 16 97) (whole (SplitLines (row_at 0)) [] (17 ∷ []) (1 ∷ [])) 7
  -- five chunks, six characters in all: the text is one too long, and so is the list of widths
  pub no_room : Refuses six_rows (whole (InsertBlock (at 0 0)) (replicate 6 97) (2 ∷ 1 ∷ 1 ∷ 1 ∷ 1 ∷ []) []) 8
  -- five joins, and four places for their columns
  pub no_record : Refuses six_rows (plain (JoinLines (row_at 0) 9 false) []) 9

-- ---- wrong programs ruled out

-- Each line is what the promise asks for at one edit, and above it stands the program that leaves something else there.
pub record RuledOut : Type 0 where
  -- the end of an insertion counted from its row
  pub insert_in : Gives abc (plain (InsertStr (at 0 2)) (88 ∷ [])) (97 ∷ 98 ∷ 88 ∷ 99 ∷ []) (plain (DeleteRange (at 0 2) (at 0 3) Char) []) (at 0 3)
  -- the cursor of a cut at its end; one end taken for both
  pub cut : Gives abc (plain (DeleteRange (at 0 0) (at 0 2) Char) []) (99 ∷ []) (plain (InsertStr (at 0 0)) (97 ∷ 98 ∷ [])) (at 0 0)
  -- what was cut put back in at the first end named, in order or not
  pub cut_back : Gives abc (plain (DeleteRange (at 0 2) (at 0 0) Char) []) (99 ∷ []) (plain (InsertStr (at 0 0)) (97 ∷ 98 ∷ [])) (at 0 0)
  -- of two offsets that clamping put out of order, the second taken for the larger
  pub cut_crossed : Gives abc (plain (DeleteRange (at 0 2) (at 9 0) Char) []) abc (plain (InsertStr (at 0 2)) []) (at 0 2)
  -- the record of a cut judged to be as long as the text
  pub cut_short :
      Gives six_rows (plain (DeleteRange (at 0 0) (at 0 1) Char) []) (10 ∷ 98 ∷ 10 ∷ 99 ∷ 10 ∷ 100 ∷ 10 ∷ 101 ∷ 10 ∷ 102 ∷ []) (plain (InsertStr (at 0 0)) (97 ∷ [])) (at 0 0)
  -- the room for the record of a cut taken from a list's slice
  pub cut_long :
      Gives six_rows (plain (DeleteRange (at 0 0) (at 2 1) Char) []) (10 ∷ 100 ∷ 10 ∷ 101 ∷ 10 ∷ 102 ∷ []) (plain (InsertStr (at 0 0)) (97 ∷ 10 ∷ 98 ∷ 10 ∷ 99 ∷ [])) (at 0 0)
  -- one end of a Line delete taken for both; the larger of two rows always the second
  pub lines_up : Gives three_rows (plain (DeleteRange (at 1 0) (at 0 0) Lines) []) (99 ∷ []) (plain (InsertStr (at 0 0)) (97 ∷ 10 ∷ 98 ∷ 10 ∷ [])) (at 0 0)
  -- a space put behind an empty row
  pub join_empty : Gives (10 ∷ 98 ∷ []) (plain (JoinLines (row_at 0) 1 true) []) (98 ∷ []) (whole (SplitLines (row_at 0)) [] (0 ∷ []) (0 ∷ [])) (at 0 0)
  -- the rows below a split written over
  pub split_above : Gives abcd (whole (SplitLines (row_at 0)) [] (1 ∷ []) []) (97 ∷ 10 ∷ 98 ∷ 99 ∷ 10 ∷ 100 ∷ []) (plain (JoinLines (row_at 0) 1 false) []) (at 0 0)
  -- a space at a column with a flag kept
  pub split_space : Gives (97 ∷ 32 ∷ 98 ∷ []) (whole (SplitLines (row_at 0)) [] (1 ∷ []) (1 ∷ [])) (97 ∷ 10 ∷ 98 ∷ []) (plain (JoinLines (row_at 0) 1 true) []) (at 0 0)
  -- rows counted that the text does not have; their pads left as they were
  pub block_absent :
      Gives (97 ∷ []) (whole (InsertBlock (at 0 0)) (88 ∷ 89 ∷ []) (1 ∷ 1 ∷ []) []) (88 ∷ 97 ∷ []) (whole (DeleteBlockChunks (at 0 0)) [] (1 ∷ 1 ∷ []) (0 ∷ 0 ∷ [])) (at 0 0)
  -- the cursor at the place as given
  pub block_past : Gives (97 ∷ []) (whole (InsertBlock (at 5 0)) (88 ∷ []) (1 ∷ []) []) (97 ∷ []) (whole (DeleteBlockChunks (at 5 0)) [] (1 ∷ []) (0 ∷ [])) (at 0 0)
  -- the chunks put into the first rows of the text; the lists judged in each other's place
  pub block_below :
      Gives abcd (whole (InsertBlock (at 1 0)) (88 ∷ []) (1 ∷ []) []) (97 ∷ 98 ∷ 99 ∷ 10 ∷ 88 ∷ 100 ∷ []) (whole (DeleteBlockChunks (at 1 0)) [] (1 ∷ []) (0 ∷ [])) (at 1 0)
  -- the second row taken to start at the LF before it
  pub block_rows :
      Gives abcd (whole (InsertBlock (at 0 0)) (88 ∷ 89 ∷ []) (1 ∷ 1 ∷ []) []) (88 ∷ 97 ∷ 98 ∷ 99 ∷ 10 ∷ 89 ∷ 100 ∷ []) (whole (DeleteBlockChunks (at 0 0)) [] (1 ∷ 1 ∷ []) (0 ∷ 0 ∷ [])) (at 0 0)
  -- the text behind the last row that gets a chunk not moved, or moved by all the room that there is
  pub block_above :
      Gives three_rows (whole (InsertBlock (at 0 1)) (88 ∷ []) (1 ∷ []) []) (97 ∷ 88 ∷ 10 ∷ 98 ∷ 10 ∷ 99 ∷ []) (whole (DeleteBlockChunks (at 0 1)) [] (1 ∷ []) (0 ∷ [])) (at 0 1)
  -- the chunk lengths of absent rows left as they were
  pub chunk_absent :
      Gives abc (whole (DeleteBlockChunks (at 0 0)) [] (1 ∷ 1 ∷ []) []) (98 ∷ 99 ∷ []) (whole (InsertBlock (at 0 0)) (97 ∷ []) (1 ∷ 0 ∷ []) []) (at 0 0)
  -- the text behind the last row that is cut gone too
  pub chunk_above :
      Gives abcd (whole (DeleteBlockChunks (at 0 0)) [] (1 ∷ []) []) (98 ∷ 99 ∷ 10 ∷ 100 ∷ []) (whole (InsertBlock (at 0 0)) (97 ∷ []) (1 ∷ []) []) (at 0 0)
  -- the height of a Block delete taken for its breadth; its second row taken to start at the LF before it, or behind the first chunk
  pub block_cut :
      Gives abcdef (plain (DeleteRange (at 0 0) (at 1 0) Block) []) (98 ∷ 10 ∷ 100 ∷ 101 ∷ 102 ∷ []) (whole (InsertBlock (at 0 0)) (97 ∷ 99 ∷ []) (1 ∷ 1 ∷ []) []) (at 0 0)
  -- the columns of a Block delete not put in order
  pub block_corner :
      Gives abcdef (plain (DeleteRange (at 0 1) (at 1 0) Block) []) (10 ∷ 101 ∷ 102 ∷ []) (whole (InsertBlock (at 0 0)) (97 ∷ 98 ∷ 99 ∷ 100 ∷ []) (2 ∷ 2 ∷ []) []) (at 0 0)
  -- a number of the second list, or of a Block delete's second end, not judged
  pub big_flag : Refuses abc (whole (SplitLines (row_at 0)) [] (1 ∷ []) (1_000_001 ∷ [])) 2
  pub big_end : Refuses abc (plain (DeleteRange (at 0 0) (at 0 1_000_001) Block) []) 2
  -- the second list not counted; joins counted from the last row
  pub many_flags : Refuses abc (whole (SplitLines (row_at 0)) [] [] (replicate 257 0)) 3
  pub many_joins : few_ok (replicate 257 10) (JoinLines (row_at 0) 257 false) [] [] [] ≡ false
  -- a block of 257 rows counted one row short, and one of 256, named upwards, one row too long: that one lacks but a record
  pub rows_down : Refuses [] (plain (DeleteRange (at 0 0) (at 256 0) Block) []) 3
  pub rows_up : Refuses [] (plain (DeleteRange (at 255 0) (at 0 0) Block) []) 9
  -- InsertChar of two characters; chunk lengths that sum to their own number; an LF that is not the last character; a Replace by any values
  pub two_characters : Refuses [] (plain (InsertChar (at 0 0)) (97 ∷ 98 ∷ [])) 4
  pub lengths : Refuses [] (whole (InsertBlock (at 0 0)) (97 ∷ 98 ∷ []) (1 ∷ []) []) 4
  pub break_first : Refuses [] (whole (InsertBlock (at 0 0)) (10 ∷ 97 ∷ []) (2 ∷ []) []) 4
  pub replace_bad : Refuses [] (plain (Replace (at 0 0) (at 0 0)) (13 ∷ [])) 4
  -- the record's second list not judged
  pub no_second :
      called (opened three_rows) (plain (JoinLines (row_at 0) 1 false) []) (record { cursor = at 0 0; changes = 0; payload = []; first = replicate 4 9; second = [] })
      ≡ outcome (refused 9 0) (opened three_rows).buffer [] (replicate 4 9) []

-- ---- the record room that document 01 names: 16 places here, and 256 in each list

-- the slices of `beside` are shorter; these are longer
abbrev pub ample : Beside
ample = record { cursor = at 9 9; changes = 18_446_744_073_709_551_615; payload = replicate 17 5; first = replicate 257 5; second = replicate 257 5 }

-- some inverses fill it, so no less would do: the lists of a block insert of 256 chunks, and the payload of a full buffer deleted
pub record RoomFilled : Type 0 where
  pub lists :
      (called (opened []) (whole (InsertBlock (at 0 0)) [] (replicate 256 0) []) ample).answer
      ≡ done (record { view = record { used = 0; cursor = at 0 0; changes = 0 }; inverse = DeleteBlockChunks (at 0 0); payload = 0; first = 256; second = 256 })
  pub payload :
      (called (opened (replicate 16 97)) (plain (DeleteRange (at 0 0) (at 0 0) Lines) []) ample).answer
      ≡ done (record { view = record { used = 0; cursor = at 0 0; changes = 0 }; inverse = InsertStr (at 0 0); payload = 16; first = 0; second = 0 })

-- ---- a run of every kind that demand 3 names

abbrev pub sample_edits : List (Whole ℕ)
sample_edits =
    plain (InsertStr (at 0 1)) (88 ∷ 10 ∷ [])
    ∷ plain (DeleteRange (at 1 0) (at 2 1) Char) []
    ∷ plain (Replace (at 0 1) (at 9 9)) (89 ∷ 10 ∷ 90 ∷ [])
    ∷ whole (InsertBlock (at 0 3)) (120 ∷ 121 ∷ 122 ∷ []) (1 ∷ 0 ∷ 2 ∷ []) []
    ∷ plain (JoinLines (row_at 0) 9 true) []
    ∷ plain (InsertChar (at 0 2)) (10 ∷ [])
    ∷ plain (DeleteRange (at 0 1) (at 3 1) Block) []
    ∷ plain (DeleteRange (at 1 0) (at 7 7) Lines) []
    ∷ []

abbrev pub sample_texts : List (List ℕ)
sample_texts =
    (97 ∷ 98 ∷ 10 ∷ 99 ∷ [])
    ∷ (97 ∷ 88 ∷ 10 ∷ 98 ∷ 10 ∷ 99 ∷ [])
    ∷ (97 ∷ 88 ∷ 10 ∷ [])
    ∷ (97 ∷ 89 ∷ 10 ∷ 90 ∷ [])
    ∷ (97 ∷ 89 ∷ 32 ∷ 120 ∷ 10 ∷ 90 ∷ 32 ∷ 32 ∷ [])
    ∷ (97 ∷ 89 ∷ 32 ∷ 120 ∷ 32 ∷ 90 ∷ 32 ∷ 32 ∷ [])
    ∷ (97 ∷ 89 ∷ 10 ∷ 32 ∷ 120 ∷ 32 ∷ 90 ∷ 32 ∷ 32 ∷ [])
    ∷ (97 ∷ 10 ∷ 32 ∷ 32 ∷ 90 ∷ 32 ∷ 32 ∷ [])
    ∷ (97 ∷ [])
    ∷ []

abbrev pub sample_besides : List Beside
sample_besides = beside ∷ ample ∷ beside ∷ ample ∷ beside ∷ ample ∷ beside ∷ ample ∷ []

-- what each call was handed beside
unfoldable pub besides : {s w : State} → Run Undoable s w → List Beside
besides stop = []
besides (step h r) = h.0 ∷ besides r

pub record SampleRun : Type 0 where
  pub last : State
  pub run : Run Undoable (opened (97 ∷ 98 ∷ 10 ∷ 99 ∷ [])) last
  pub its_edits : edits run ≡ sample_edits
  pub its_besides : besides run ≡ sample_besides
  pub its_texts : map text (stages run) ≡ sample_texts
  -- room to undo it with
  pub room : RecordRoom last ample
