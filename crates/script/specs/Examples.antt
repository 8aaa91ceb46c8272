-- What rules out wrong runs: each line is what the promise asks for at one script, and above it stands the program that leaves something
-- else there. And scripts that the theorem of specs/Undo.antt speaks of.
use Rattle.std.specs.Prelude.{◌≡◌, true, false, List, [], ◌∷◌, ◌++◌, ℕ, replicate}
use Rattle.promise.specs.Paper.{done, refused}
use Rattle.utf8.specs.Calls.{outcome}
use Rattle.text.specs.Rows.{at}
use Rattle.hexline.specs.Digits.{hexed}
use Rattle.frame.specs.Numbers.{number, position}
use Rattle.feed.specs.Scripts.{output}
use Rattle.script.specs.Calls.{ran_into}
use Rattle.script.specs.Undo.{script, text_line, accepted, undo, texts, all_undoable}

-- a mark at the front of the empty text
abbrev pub a_mark : List ℕ
a_mark = hexed (0x02 ∷ replicate 16 0) ++ (10 ∷ [])

-- a character put in at the front, and 00 with the delete that takes it back
abbrev pub insertion : ℕ → List ℕ
insertion x = hexed (0x10 ∷ (replicate 8 0 ++ (x ∷ []))) ++ (10 ∷ [])

abbrev pub taken_back : List ℕ
taken_back = hexed (0x00 ∷ 0x11 ∷ 0x00 ∷ (replicate 15 0 ++ (1 ∷ []))) ++ (10 ∷ [])

pub record RuledOut : Type 0 where
  -- only the first edit of a script done
  pub two_edits :
      ran_into (insertion 0x61 ++ insertion 0x62) (replicate 86 9) ≡ outcome (done 85) (taken_back ++ (taken_back ++ (48 ∷ 49 ∷ 54 ∷ 50 ∷ 54 ∷ 49 ∷ 10 ∷ 9 ∷ [])))
  -- the lines of the marks not counted; an output that just fits refused
  pub exact : ran_into a_mark (replicate 38 9) ≡ outcome (done 38) (48 ∷ 49 ∷ 10 ∷ a_mark)
  -- a refusal that leaves the front of the output in the slice
  pub no_room : ran_into a_mark (replicate 37 9) ≡ outcome (refused 8 0) (replicate 37 9)

-- ---- scripts that are taken back. In a text "/" is LF, 10; a is 97, b is 98, x is 120.

-- insertion of x, the join of two rows with a space, and their inverses
abbrev pub put_x : List ℕ
put_x = hexed (0x10 ∷ (position (at 0 0) ++ (120 ∷ [])))

abbrev pub cut_x : List ℕ
cut_x = hexed (0x11 ∷ 0 ∷ (position (at 0 0) ++ position (at 0 1)))

abbrev pub join : List ℕ
join = hexed (0x12 ∷ (number 0 ++ (number 1 ++ (1 ∷ []))))

abbrev pub split : List ℕ
split = hexed (0x13 ∷ (number 0 ++ (number 1 ++ (1 ∷ []))))

-- an insertion at a row over 1,000,000, which is refused by 2, and a mark at the front
abbrev pub too_big : List ℕ
too_big = hexed (0x10 ∷ position (at 1_000_001 0))

abbrev pub front : List ℕ
front = hexed (0x02 ∷ (position (at 0 0) ++ position (at 0 0)))

-- a malformed line, the text "a/b", the mark, the join, the refused insertion, and the insertion of x
abbrev pub sample : List ℕ
sample = script ((120 ∷ []) ∷ text_line (97 ∷ 10 ∷ 98 ∷ []) ∷ front ∷ join ∷ too_big ∷ put_x ∷ [])

-- "a/b" and the delete from (0,9) to (1,0), which begins past the end of its row
abbrev pub past : List ℕ
past = script (text_line (97 ∷ 10 ∷ 98 ∷ []) ∷ hexed (0x11 ∷ 0 ∷ (position (at 0 9) ++ position (at 1 0))) ∷ [])

pub record TakenBack : Type 0 where
  pub undoable : all_undoable sample ≡ true
  pub printed : output sample ≡ script ((48 ∷ 97 ∷ []) ∷ accepted split ∷ (48 ∷ 50 ∷ []) ∷ accepted cut_x ∷ text_line (120 ∷ 97 ∷ 32 ∷ 98 ∷ []) ∷ hexed (0x02 ∷ (position (at 0 1) ++ position (at 0 1))) ∷ [])
  pub stages : texts sample ≡ (97 ∷ 10 ∷ 98 ∷ []) ∷ (97 ∷ 32 ∷ 98 ∷ []) ∷ (120 ∷ 97 ∷ 32 ∷ 98 ∷ []) ∷ []
  pub back : undo sample ≡ script (text_line (120 ∷ 97 ∷ 32 ∷ 98 ∷ []) ∷ cut_x ∷ split ∷ [])
  -- without a text frame
  pub empty_undoable : all_undoable (script (put_x ∷ [])) ≡ true
  pub empty_stages : texts (script (put_x ∷ [])) ≡ [] ∷ (120 ∷ []) ∷ []
  -- what the hypothesis keeps out: the break comes back behind b
  pub past_not : all_undoable past ≡ false
  pub past_stages : texts past ≡ (97 ∷ 10 ∷ 98 ∷ []) ∷ (97 ∷ 98 ∷ []) ∷ []
  pub past_back : texts (undo past) ≡ (97 ∷ 98 ∷ []) ∷ (97 ∷ 98 ∷ 10 ∷ []) ∷ []
