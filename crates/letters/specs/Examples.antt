-- A run of every kind over which marks stay, by calls and by computation; and for each condition of `Keeps` an edit without it, by which a letter strays.
-- In a text "/" is LF, 10; a is 97, X is 88, a space 32.
use Rattle.std.specs.Prelude.{true, false, List, [], ◌∷◌, ◌++◌, map, ◌≡◌, ℕ}
use Rattle.text.specs.declared.Position.{Position}
use Rattle.text.specs.Rows.{at, upto, clamp, end_of}
use Rattle.text.specs.Text.{is_lf}
use Rattle.edit.specs.declared.MotionKind.TheVariants.{Char, Line as Lines, Block}
use Rattle.edit.specs.declared.Edit.TheVariants.{InsertChar, InsertStr, DeleteRange, JoinLines, SplitLines, Replace, InsertBlock, DeleteBlockChunks}
use Rattle.edit.specs.Edits.{Whole, whole, row_at}
use Rattle.edit.specs.Runs.{Run, edits, stages}
use Rattle.edit.specs.Demand3.{State, text}
use Rattle.edit.specs.Examples.{plain}
use Rattle.edit.specs.Examples as edit
use Rattle.shift.specs.Answers.{Followed, to, dropped}
use Rattle.shift.specs.Kinds.{shifted}
use Rattle.shift.specs.Examples.{abcd}
use Rattle.origins.specs.Origins.{opening, payload, Traced, traced, lf_at, opened, traced_by, traced_run}
use Rattle.origins.specs.Theorems.{edited_text}
use Rattle.letters.specs.Keeps.{KeepsRun, shifted_over}
use Rattle.letters.specs.Theorems.{Letter, Landed, LandedRun}
use Rattle.letters.specs.Calls.{KeepingCall, FollowedTo, NeverPass}

-- Of "ab/cd": a break before b; Y before c, in a row that was not there; c's row onto b's, count 0; a join of a row past the last; a blank before Z in the first row, and a
-- chunk for a row that is not there; a column out again, with a width for that row and a pad behind the last width; a chunk past its row's end; a block named from its lower end,
-- past the last row; what is behind b replaced; the break out again; a row in front, and gone; a row behind, and gone with rows past the last
abbrev pub sample_edits : List (Whole ℕ)
sample_edits =
    plain (InsertStr (at 0 1)) (88 ∷ 10 ∷ [])
    ∷ plain (InsertChar (at 2 0)) (89 ∷ [])
    ∷ plain (JoinLines (row_at 1) 0 true) []
    ∷ plain (JoinLines (row_at 9) 1 true) []
    ∷ whole (InsertBlock (at 0 3)) (90 ∷ 90 ∷ 90 ∷ []) (1 ∷ 1 ∷ 1 ∷ []) []
    ∷ whole (DeleteBlockChunks (at 0 2)) [] (1 ∷ 1 ∷ 5 ∷ []) (0 ∷ 0 ∷ 0 ∷ 7 ∷ [])
    ∷ whole (DeleteBlockChunks (at 0 9)) [] (3 ∷ []) []
    ∷ plain (DeleteRange (at 2 1) (at 0 1) Block) []
    ∷ plain (Replace (at 1 1) (at 1 2)) (81 ∷ [])
    ∷ plain (DeleteRange (at 0 1) (at 1 0) Char) []
    ∷ plain (InsertStr (at 0 0)) (82 ∷ 10 ∷ [])
    ∷ plain (DeleteRange (at 0 9) (at 0 0) Lines) []
    ∷ plain (InsertStr (at 0 5)) (10 ∷ 83 ∷ [])
    ∷ plain (DeleteRange (at 1 0) (at 9 0) Lines) []
    ∷ []

-- "aX/b/cd", "aX/b/Ycd", "aX/b Ycd", "aX/b Ycd", "aX Z/b YZcd", "aXZ/b Zcd", "aXZ/b Zcd", "aZ/bZcd", "aZ/bQcd", "abQcd", "R/abQcd", "abQcd", "abQcd/S", "abQcd"
abbrev pub sample_texts : List (List ℕ)
sample_texts =
    abcd
    ∷ (97 ∷ 88 ∷ 10 ∷ 98 ∷ 10 ∷ 99 ∷ 100 ∷ [])
    ∷ (97 ∷ 88 ∷ 10 ∷ 98 ∷ 10 ∷ 89 ∷ 99 ∷ 100 ∷ [])
    ∷ (97 ∷ 88 ∷ 10 ∷ 98 ∷ 32 ∷ 89 ∷ 99 ∷ 100 ∷ [])
    ∷ (97 ∷ 88 ∷ 10 ∷ 98 ∷ 32 ∷ 89 ∷ 99 ∷ 100 ∷ [])
    ∷ (97 ∷ 88 ∷ 32 ∷ 90 ∷ 10 ∷ 98 ∷ 32 ∷ 89 ∷ 90 ∷ 99 ∷ 100 ∷ [])
    ∷ (97 ∷ 88 ∷ 90 ∷ 10 ∷ 98 ∷ 32 ∷ 90 ∷ 99 ∷ 100 ∷ [])
    ∷ (97 ∷ 88 ∷ 90 ∷ 10 ∷ 98 ∷ 32 ∷ 90 ∷ 99 ∷ 100 ∷ [])
    ∷ (97 ∷ 90 ∷ 10 ∷ 98 ∷ 90 ∷ 99 ∷ 100 ∷ [])
    ∷ (97 ∷ 90 ∷ 10 ∷ 98 ∷ 81 ∷ 99 ∷ 100 ∷ [])
    ∷ (97 ∷ 98 ∷ 81 ∷ 99 ∷ 100 ∷ [])
    ∷ (82 ∷ 10 ∷ 97 ∷ 98 ∷ 81 ∷ 99 ∷ 100 ∷ [])
    ∷ (97 ∷ 98 ∷ 81 ∷ 99 ∷ 100 ∷ [])
    ∷ (97 ∷ 98 ∷ 81 ∷ 99 ∷ 100 ∷ 10 ∷ 83 ∷ [])
    ∷ (97 ∷ 98 ∷ 81 ∷ 99 ∷ 100 ∷ [])
    ∷ []

-- the hypothesis of the theorems on texts is met, and the shifts composed are these
pub record SampleRun : Type 0 where
  pub keeps : KeepsRun abcd sample_edits
  -- all four letters stand in the last text, and Q of edit 8
  pub origins : map (λ (c : Traced). c.origin) (traced_run 0 (opened abcd) sample_edits) ≡ opening (at 0 0) ∷ opening (at 0 1) ∷ payload 8 0 ∷ opening (at 1 0) ∷ opening (at 1 1) ∷ []
  pub letter_a : Letter (traced_run 0 (opened abcd) sample_edits) [] (traced 98 (opening (at 0 1)) ∷ traced 81 (payload 8 0) ∷ traced 99 (opening (at 1 0)) ∷ traced 100 (opening (at 1 1)) ∷ []) (traced 97 (opening (at 0 0))) (at 0 0)
  pub letter_c : Letter (traced_run 0 (opened abcd) sample_edits) (traced 97 (opening (at 0 0)) ∷ traced 98 (opening (at 0 1)) ∷ traced 81 (payload 8 0) ∷ []) (traced 100 (opening (at 1 1)) ∷ []) (traced 99 (opening (at 1 0))) (at 1 0)
  pub a : shifted_over abcd sample_edits (to (at 0 0)) ≡ to (at 0 0)
  pub b : shifted_over abcd sample_edits (to (at 0 1)) ≡ to (at 0 1)
  pub c : shifted_over abcd sample_edits (to (at 1 0)) ≡ to (at 0 3)
  pub d : shifted_over abcd sample_edits (to (at 1 1)) ≡ to (at 0 4)

-- and that of those on calls, with slices for the inverse that are shorter than demand 3's: whoever calls for d's place is led to where it stands,
-- and marks on b and on c never pass
pub record SampleCalls : Type 0 where
  pub last : State
  pub run : Run KeepingCall (edit.opened abcd) last
  pub its_edits : edits run ≡ sample_edits
  pub its_texts : map text (stages run) ≡ sample_texts
  pub led : FollowedTo run (at 1 1) (at 0 4)
  pub apart : NeverPass run (at 0 1) (at 1 0)

-- ---- each condition is needed

-- the edit w of the text t leaves the character that stood at p at q, and the shift of p is f
pub record Strays (t : List ℕ) (w : Whole ℕ) (p q : Position) (f : Followed Position) : Type 0 where
  pub before : List Traced
  pub behind : List Traced
  pub c : Traced
  pub stands : (traced_by 0 w (opened t)).text ≡ before ++ c ∷ behind
  pub from : c.origin ≡ opening p
  pub there : end_of lf_at before ≡ q
  pub shift : shifted t w.edit w.payload w.first p ≡ f

pub record Needed : Type 0 where
  -- "not SplitLines": "a", no columns
  pub split : Strays (97 ∷ []) (plain (SplitLines (row_at 0)) []) (at 0 0) (at 0 0) dropped
  -- "not a DeleteBlockChunks with a pad above 0": "ab", chunks at (0,1), width 0, pad 1
  pub pad : Strays (97 ∷ 98 ∷ []) (whole (DeleteBlockChunks (at 0 1)) [] (0 ∷ []) (1 ∷ [])) (at 0 1) (at 0 0) (to (at 0 1))
  -- "whose ends are in order": "/a", (1,0)-(0,0), cut and replaced; "a/b/c", rows 1 to 0
  pub chars_back : Strays (10 ∷ 97 ∷ []) (plain (DeleteRange (at 1 0) (at 0 0) Char) []) (at 1 0) (at 0 0) (to (at 1 0))
  pub replace_back : Strays (10 ∷ 97 ∷ []) (plain (Replace (at 1 0) (at 0 0)) []) (at 1 0) (at 0 0) (to (at 1 0))
  pub lines_back : Strays (97 ∷ 10 ∷ 98 ∷ 10 ∷ 99 ∷ []) (plain (DeleteRange (at 1 0) (at 0 0) Lines) []) (at 2 0) (at 0 0) (to (at 1 0))
  -- "every position it names is in the text": "/a", a start past its row; "ab", an end past the last row; "a", a place there
  pub chars_start : Strays (10 ∷ 97 ∷ []) (plain (DeleteRange (at 0 99) (at 1 0) Char) []) (at 1 0) (at 0 0) (to (at 0 99))
  pub chars_end : Strays (97 ∷ 98 ∷ []) (plain (DeleteRange (at 0 0) (at 9 0) Char) []) (at 0 1) (at 0 1) (to (at 0 0))
  pub replace_start : Strays (10 ∷ 97 ∷ []) (plain (Replace (at 0 99) (at 1 0)) []) (at 1 0) (at 0 0) (to (at 0 99))
  pub replace_end : Strays (97 ∷ 98 ∷ []) (plain (Replace (at 0 0) (at 9 0)) []) (at 0 1) (at 0 1) (to (at 0 0))
  pub insert_past : Strays (97 ∷ []) (plain (InsertStr (at 9 0)) (88 ∷ [])) (at 0 0) (at 0 1) (to (at 0 0))
  pub char_past : Strays (97 ∷ []) (plain (InsertChar (at 9 0)) (88 ∷ [])) (at 0 0) (at 0 1) (to (at 0 0))
  -- "accepted": "a", a chunk that is an LF; a chunk's length without a character
  pub chunk_break : Strays (97 ∷ []) (whole (InsertBlock (at 0 0)) (10 ∷ []) (1 ∷ []) []) (at 0 0) (at 1 0) (to (at 0 1))
  pub chunk_short : Strays (97 ∷ []) (whole (InsertBlock (at 0 0)) [] (1 ∷ []) []) (at 0 0) (at 0 0) (to (at 0 1))
  -- "other than LF": "/", an empty chunk at (0,1), whose row is padded
  pub break : Strays (10 ∷ []) (whole (InsertBlock (at 0 1)) [] (0 ∷ []) []) (at 0 0) (at 0 1) (to (at 0 0))

-- marks
pub record MarksNeeded : Type 0 where
  -- two may meet: "ab" cut, from both its ends
  pub meet_first : shifted_over (97 ∷ 98 ∷ []) (plain (DeleteRange (at 0 0) (at 0 2) Char) [] ∷ []) (to (at 0 0)) ≡ to (at 0 0)
  pub meet_second : shifted_over (97 ∷ 98 ∷ []) (plain (DeleteRange (at 0 0) (at 0 2) Char) [] ∷ []) (to (at 0 2)) ≡ to (at 0 0)
  -- one is left behind the text: "/", row 1 deleted, and (1,0) is not in what is left
  pub left_text : edited_text (plain (DeleteRange (at 1 0) (at 1 0) Lines) []) (10 ∷ []) ≡ []
  pub left : shifted (10 ∷ []) (DeleteRange (at 1 0) (at 1 0) Lines) [] [] (at 1 0) ≡ to (at 1 0)
  pub left_out : clamp is_lf [] (at 1 0) ≡ at 0 0
  -- "in the text": past the end of a row that another follows, one would be passed. "a/b" joined: (0,9) and (1,0)
  pub past_order : upto (at 0 9) (at 1 0) ≡ true
  pub past_first : shifted (97 ∷ 10 ∷ 98 ∷ []) (JoinLines (row_at 0) 1 false) [] [] (at 0 9) ≡ to (at 0 9)
  pub past_second : shifted (97 ∷ 10 ∷ 98 ∷ []) (JoinLines (row_at 0) 1 false) [] [] (at 1 0) ≡ to (at 0 1)
  pub passed : upto (at 0 9) (at 0 1) ≡ false
  pub not_landed : Landed (97 ∷ 10 ∷ 98 ∷ []) (plain (JoinLines (row_at 0) 1 false) []) (at 0 9) (at 1 0) → ⊥
  pub not_landed_run : LandedRun (97 ∷ 10 ∷ 98 ∷ []) (plain (JoinLines (row_at 0) 1 false) [] ∷ []) (at 0 9) (at 1 0) → ⊥
