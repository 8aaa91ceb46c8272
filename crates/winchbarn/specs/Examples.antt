-- What rules out wrong functions for C: each line is what the promise of one function asks for at one call, and above it stands the program that
-- leaves something else there. (Of apply_edit a must-fail edit is kept too.) A slice to be written is full of 9.
use Rattle.std.specs.Prelude.{◌≡◌, true, false, List, [], ◌∷◌, ◌++◌, ℕ, replicate}
use Rattle.utf8.specs.Reading.{reading}
use Rattle.utf8.specs.Calls.{decoded, encoded}
use Rattle.text.specs.Rows.{at}
use Rattle.text.specs.Calls.{clamped_in}
use Rattle.fit.specs.Calls.{fits_in}
use Rattle.hexline.specs.Digits.{hexed}
use Rattle.select.specs.Sels.{sel, is_caret, start, end, overlaps}
use Rattle.edit.specs.declared.View.{View}
use Rattle.edit.specs.Call.{lent}
use Rattle.view.specs.Calls.{cursor_set_in}
use Rattle.merge.specs.Call.{merged_in}
use Rattle.frame.specs.Format as format
use Rattle.frame.specs.Forms.{head_of, line_form}
use Rattle.writer.specs.Calls.{written_into}
use Rattle.asked.specs.Calls.{text_into, mark_in, edit_into}
use Rattle.script.specs.Calls.{ran_into}
use Rattle.framed.specs.Calls.{line_applied}
use Rattle.plain.specs.declared.Numbers.{Numbers}
use Rattle.plain.specs.declared.Count.{Count}
use Rattle.plain.specs.Told.{found_at, found_sel, no_sel, no_cover, no_bounds, told_clamped, told_fit, told_view}
use Rattle.told.specs.Lines.{told_mark}
use Rattle.winchbarn.specs.Calls.{counted, told_into, told_merge, changed, told_call, framed, told_frame, edit_call, edit_call_in, line_call, undoable_call, shift_call, sel_call, span_call, head_call, anchor_call, extend_call, bounds_call}

abbrev pub one : View
one = record { used = 1; cursor = at 0 0; changes = 0 }

abbrev pub at_front : ℕ → Numbers
at_front k = record { kind = k; start = at 0 0; end = at 0 0; count = 0 }

abbrev pub written : ℕ → Count
written n = record { refusal = 0; offset = 0; count = n }

pub record RuledOut : Type 0 where
  -- run_script: of no lines, nothing printed
  pub run_script : told_into (ran_into [] (replicate 4 9)) ≡ counted (written 3) (48 ∷ 49 ∷ 10 ∷ 9 ∷ [])
  -- apply_edit: "X" at the front of "a", applied to the whole buffer
  pub apply_edit :
      edit_call one (at_front 1) (lent (0x61 ∷ 7 ∷ 7 ∷ []) (0x58 ∷ []) [] [] [] [] [])
      ≡ changed
      (record {
        refusal = 0;
        offset = 0;
        view = record { used = 2; cursor = at 0 1; changes = 1 };
        inverse = record { kind = 2; start = at 0 0; end = at 0 1; count = 0 };
        payload = 0;
        first = 0;
        second = 0;
      })
      (0x58 ∷ 0x61 ∷ 7 ∷ []) [] [] []
  -- apply_frame: a malformed line refused with the view reset
  pub apply_frame :
      told_call one (line_applied one (hexed (0x03 ∷ [])) (0x61 ∷ 7 ∷ []) (9 ∷ []) (9 ∷ []) (9 ∷ []))
      ≡ changed (record { refusal = 10; offset = 0; view = one; inverse = at_front 0; payload = 0; first = 0; second = 0 }) (0x61 ∷ 7 ∷ []) (9 ∷ []) (9 ∷ []) (9 ∷ [])
  -- apply_edit_in: the lent view left as it was, or set to nothing by a refusal
  pub apply_edit_in : (edit_call_in one (at_front 1) (lent (0x61 ∷ 7 ∷ 7 ∷ []) (0x58 ∷ []) [] [] [] [] [])).view ≡ record { used = 2; cursor = at 0 1; changes = 1 }
  pub apply_edit_in_kept : (edit_call_in one (at_front 11) (lent (0x61 ∷ []) [] [] [] [] [] [])).view ≡ one
  -- write_edit: a split's lists handed in each other's place
  pub write_edit : line_call (at_front 7) [] (3 ∷ []) (1 ∷ []) (replicate 20 9) ≡ counted (written 20) (hexed (0x13 ∷ 0 ∷ 0 ∷ 0 ∷ 0 ∷ 0 ∷ 0 ∷ 0 ∷ 3 ∷ 1 ∷ []))
  -- write_text: a text of UTF-8's octets, not of its digits
  pub write_text : told_into (written_into (format.text (0xE9 ∷ [])) (replicate 7 9)) ≡ counted (written 6) (hexed (0x01 ∷ 0xC3 ∷ 0xA9 ∷ []) ++ (9 ∷ []))
  -- write_mark: a slice that is too short written as far as it goes
  pub write_mark : told_into (written_into (format.mark (sel (at 0 0) (at 0 1))) (9 ∷ [])) ≡ counted (record { refusal = 8; offset = 0; count = 0 }) (9 ∷ [])
  -- read_edit: an edit told with its payload and nothing of its lists; an offset not told
  pub read_edit :
      told_frame (edit_into (line_form (hexed (0x13 ∷ 0 ∷ 0 ∷ 0 ∷ 0 ∷ 0 ∷ 0 ∷ 0 ∷ 3 ∷ 1 ∷ []))) (9 ∷ []) (9 ∷ []) (9 ∷ []))
      ≡ framed (record { refusal = 0; offset = 0; edit = at_front 7; payload = 0; first = 1; second = 1 }) (9 ∷ []) (3 ∷ []) (1 ∷ [])
  pub read_edit_bad :
      told_frame (edit_into (line_form (hexed (0x10 ∷ (replicate 8 0 ++ (0xFF ∷ []))))) (9 ∷ []) [] [])
      ≡ framed (record { refusal = 5; offset = 9; edit = at_front 0; payload = 0; first = 0; second = 0 }) (9 ∷ []) [] []
  -- read_text: an edit's payload read as a text
  pub read_text : told_into (text_into (line_form (hexed (0x10 ∷ (replicate 8 0 ++ (0x58 ∷ []))))) (9 ∷ [])) ≡ counted (record { refusal = 10; offset = 0; count = 0 }) (9 ∷ [])
  -- read_mark: what is no mark told as a mark that is not there
  pub read_mark : told_mark (mark_in (head_of (line_form (hexed (0x01 ∷ []))))) ≡ no_sel 10
  -- undoable: a cut at the front refused, or told as no
  pub undoable : undoable_call one (at_front 2) (0x61 ∷ []) [] [] [] ≡ record { refusal = 0; yes = true }
  -- undoable: a kind that is none refused by 4
  pub undoable_kind : undoable_call one (at_front 11) (0x61 ∷ []) [] [] [] ≡ record { refusal = 10; yes = false }
  -- set_cursor: the cursor left where it was; the counter raised
  pub set_cursor : told_view one (cursor_set_in (0x61 ∷ 0x61 ∷ []) one (at 9 9)) ≡ record { refusal = 0; view = record { used = 1; cursor = at 0 1; changes = 0 } }
  -- clamp_position: a position brought into the whole buffer
  pub clamp_position : told_clamped (clamped_in (0x61 ∷ 0x61 ∷ []) 1 (at 0 9)) ≡ found_at (at 0 1)
  -- box_fit: the number of cells taken for the text's length; cells and tab width in each other's place
  pub box_fit : told_fit (fits_in (0x61 ∷ 0x61 ∷ 0x61 ∷ []) 3 2 8) ≡ found_at (at 0 2)
  pub box_tab : told_fit (fits_in (9 ∷ []) 1 2 3) ≡ found_at (at 0 0)
  -- shift_position: a block's lists handed in each other's place
  pub shift_position : shift_call (0x61 ∷ []) one (at_front 9) (0x58 ∷ []) (1 ∷ []) [] (at 0 0) ≡ found_at (at 0 1)
  -- shift_sel: an edit of a kind that is none drops every selection
  pub shift_sel : sel_call (0x61 ∷ []) one (at_front 11) [] [] [] (sel (at 0 0) (at 0 1)) ≡ no_sel 10
  -- merge_overlapping: the numbers counted, not the selections
  pub merge_overlapping : told_merge (merged_in (0 ∷ 5 ∷ 0 ∷ 4 ∷ []) (replicate 5 9)) ≡ counted (written 1) (0 ∷ 5 ∷ 0 ∷ 4 ∷ 9 ∷ [])
  -- sel_caret: a selection from the start to the position; sel_is_caret: yes for every selection in one row
  pub sel_caret : (sel (at 1 2) (at 1 2)).anchor ≡ at 1 2
  pub sel_is_caret : is_caret (sel (at 1 2) (at 1 3)) ≡ false
  -- sel_start, sel_end: the anchor, the head
  pub sel_start : start (sel (at 3 4) (at 1 2)) ≡ at 1 2
  pub sel_end : end (sel (at 3 4) (at 1 2)) ≡ at 3 4
  -- sel_overlaps: two that touch overlap
  pub sel_overlaps : overlaps (sel (at 0 0) (at 0 3)) (sel (at 0 4) (at 0 5)) ≡ false
  -- selection_head, selection_anchor: a Line's column kept
  pub selection_head : head_call 1 (sel (at 3 4) (at 1 2)) ≡ found_at (at 1 0)
  pub selection_anchor : anchor_call 1 (sel (at 3 4) (at 1 2)) ≡ found_at (at 3 0)
  -- selection_extend_to: the anchor moved with the head
  pub selection_extend_to : extend_call 2 (sel (at 3 4) (at 1 2)) (at 5 6) ≡ found_sel (sel (at 3 4) (at 5 6))
  -- selection_row_bounds: a kind that is none has the rows from 0 to 0
  pub selection_row_bounds : bounds_call 0 (sel (at 3 4) (at 1 2)) ≡ record { refusal = 0; top = 1; bottom = 3 }
  pub selection_no_kind : bounds_call 3 (sel (at 3 4) (at 1 2)) ≡ no_bounds 10
  -- row_span: a selection of a kind that is none covers nothing
  pub row_span : span_call 3 (sel (at 0 0) (at 0 1)) 0 ≡ no_cover 10
  -- decode: the offset of a bad sequence not told
  pub decode : told_into (decoded (reading (0x61 ∷ 0xFF ∷ [])) (9 ∷ [])) ≡ counted (record { refusal = 5; offset = 1; count = 0 }) (9 ∷ [])
  -- encode: the scalars counted, not the octets
  pub encode : told_into (encoded (0xE9 ∷ []) (9 ∷ 9 ∷ 9 ∷ [])) ≡ counted (written 2) (0xC3 ∷ 0xA9 ∷ 9 ∷ [])
