-- The examples and the sample run, computed.
use mathlib.Core.Path.{◌≡◌, refl, sym, ◌∙◌, ap, subst}
use native.Mathlib.Omega.{arith}
use mathlib.Core.List.{List, [], ◌∷◌, map, flatten}
use mathlib.Core.Bool.{true}
use Prim.Native.Nat.{ℕ}
use lib.ListN.{drop}
use Rattle.promise.specs.Paper.{done}
use Rattle.utf8.specs.Rfc3629.{scalar}
use Rattle.text.specs.Rows.{onto, lines, unlines, row_count, last_row, row_len, row_start, clamp, offset, end_of, in_text}
use Rattle.text.specs.Text.{admissible, all, text_ok, renewed}
use Rattle.edit.specs.Edits.{inserted, chars_deleted, line_from, line_to, lines_deleted, replaced, gap, join_row, join_cols, join_flags, put, put_all, pads_of, pieces, cut_all, chunks_of, any_flag, joined, unspace, split_first, split_row, split, block_inserted, chunks_deleted, range_deleted, edited_by, Whole}
use Rattle.edit.specs.Refusals.{sum, small_range, small_ok, few_rows, few_ok, payload_ok, within_first, within_all, within_ok, room_ok, record_ok, wide}
use Rattle.edit.specs.declared.Applied.{Applied}
use Rattle.edit.specs.Call.{first_of, result_of, applied_as, leaves, applied, range_undoable, is_undoable, undoable}
use Rattle.edit.specs.Demand3.{State, text, Beside, view_at, lent_at, called, Undoable}
use Rattle.edit.specs.Examples.{opened, FurtherExamples, FirstRefusals, RuledOut, RoomFilled, sample_edits, sample_texts, sample_besides, besides, SampleRun}
use Rattle.edit.proofs.Accepted.{doing}
use Rattle.edit.proofs.Calls.{next, once_called}
use Rattle.edit.proofs.Demand3.{run-held}
use Rattle.edit.proofs.Samples.{states_from, last_from, Ran, ran-none, ran-more}

pub further_examples : FurtherExamples
unfolding onto lines unlines row_count last_row row_len row_start clamp offset end_of in_text admissible all text_ok renewed scalar flatten inserted chars_deleted line_from line_to lines_deleted replaced gap join_row join_cols join_flags put put_all pads_of pieces cut_all chunks_of any_flag joined unspace split_first split_row split block_inserted chunks_deleted range_deleted edited_by sum small_range small_ok few_rows few_ok payload_ok within_first within_all within_ok room_ok record_ok wide first_of result_of leaves applied range_undoable is_undoable undoable
further_examples = record {
  insert = refl;
  cut_past = refl;
  join_below = refl;
  line_below = refl;
  split_no_space = refl;
  split_past = refl;
  split_order = refl;
  split_surplus = refl;
  block_padded = refl;
  chunk_padded = refl;
  chunk_all = refl;
  chunk_bare = refl;
  big = refl;
  many_chunks = refl;
  many_rows = refl;
  wraps = refl;
}

pub first_refusals : FirstRefusals
unfolding onto lines unlines row_count last_row row_len row_start clamp offset end_of in_text admissible all text_ok renewed scalar flatten inserted chars_deleted line_from line_to lines_deleted replaced gap join_row join_cols join_flags put put_all pads_of pieces cut_all chunks_of any_flag joined unspace split_first split_row split block_inserted chunks_deleted range_deleted edited_by sum small_range small_ok few_rows few_ok payload_ok within_first within_all within_ok room_ok record_ok wide first_of result_of leaves applied range_undoable is_undoable undoable
first_refusals = record { bad_text = refl; too_big = refl; too_many = refl; bad_payload = refl; beyond_row = refl; no_room = refl; no_record = refl }

pub ruled_out : RuledOut
unfolding onto lines unlines row_count last_row row_len row_start clamp offset end_of in_text admissible all text_ok renewed scalar flatten inserted chars_deleted line_from line_to lines_deleted replaced gap join_row join_cols join_flags put put_all pads_of pieces cut_all chunks_of any_flag joined unspace split_first split_row split block_inserted chunks_deleted range_deleted edited_by sum small_range small_ok few_rows few_ok payload_ok within_first within_all within_ok room_ok record_ok wide first_of result_of leaves applied range_undoable is_undoable undoable
ruled_out = record { insert_in = refl; cut = refl; cut_back = refl; cut_crossed = refl; cut_short = refl; cut_long = refl; lines_up = refl; join_empty = refl; split_above = refl; split_space = refl; block_absent = refl; block_past = refl; block_below = refl; block_rows = refl; block_above = refl; chunk_absent = refl; chunk_above = refl; block_cut = refl; block_corner = refl; big_flag = refl; big_end = refl; many_flags = refl; many_joins = refl; rows_down = refl; rows_up = refl; two_characters = refl; lengths = refl; break_first = refl; replace_bad = refl; no_second = refl }

pub room_filled : RoomFilled
unfolding onto lines unlines row_count last_row row_len row_start clamp offset end_of in_text admissible all text_ok renewed scalar flatten inserted chars_deleted line_from line_to lines_deleted replaced gap join_row join_cols join_flags put put_all pads_of pieces cut_all chunks_of any_flag joined unspace split_first split_row split block_inserted chunks_deleted range_deleted edited_by sum small_range small_ok few_rows few_ok payload_ok within_first within_all within_ok room_ok record_ok wide first_of result_of leaves applied range_undoable is_undoable undoable
room_filled = record { lists = refl; payload = refl }

-- ---- the sample: each edit is computed on its own, at the state that the edits before it leave

data Passes : State → List (Whole ℕ) → List Beside → List State → Type 0 where
  none : {s : State} → Passes s [] [] (s ∷ [])
  more : {s u : State} {w : Whole ℕ} {o : Beside} {ws : List (Whole ℕ)} {os : List Beside} {us : List State} → Passes u ws os us → next s w ≡ u
      → (called s w o).answer ≡ done (applied_as (view_at s o) (doing w (text s))) → undoable (view_at s o) w.edit (lent_at s w o) ≡ done true
      → Passes s (w ∷ ws) (o ∷ os) (s ∷ us)

-- the run, and what each call was handed beside
record RanBeside (s : State) (ws : List (Whole ℕ)) (os : List Beside) : Type 0 where
  ran : Ran Undoable s ws
  its_besides : besides ran.run ≡ os

ran-beside : {s : State} {ws : List (Whole ℕ)} {os : List Beside} {us : List State} → Passes s ws os us → RanBeside s ws os
unfolding besides ran-none ran-more
ran-beside (none {s = s}) = record { ran = ran-none s; its_besides = refl }
ran-beside (more {s = s} {w = w} {o = o} {ws = ws} {os = os} p e a y) =
    let b : Applied = applied_as (view_at s o) (doing w (text s)) in
    let c = once_called s w o b a in
    let h : Undoable s w (next s w) (doing w (text s)).inverse = (o, (b, a, c.state, c.inverse), y) in
    let r : RanBeside (next s w) ws os = subst (λ (x : State). RanBeside x ws os) (sym e) (ran-beside p) in
    record { ran = ran-more (doing w (text s)).inverse h r.ran; its_besides = ap {B = List Beside} (λ l. o ∷ l) r.its_besides }

passed_states : {s : State} {ws : List (Whole ℕ)} {os : List Beside} {us : List State} → Passes s ws os us → states_from s ws ≡ us
unfolding states_from
passed_states none = refl
passed_states (more {s = s} {ws = ws} {us = us} p e a y) =
    ap {B = List State} (λ l. s ∷ l) (subst (λ (x : State). states_from x ws ≡ us) (sym e) (passed_states p))

abbrev start : State
start = opened (97 ∷ 98 ∷ 10 ∷ 99 ∷ [])

-- the states that the edits leave, one after another
abbrev state_1 : State
state_1 = record { used = 6; buffer = 97 ∷ 88 ∷ 10 ∷ 98 ∷ 10 ∷ 99 ∷ 7 ∷ 7 ∷ 7 ∷ 7 ∷ 7 ∷ 7 ∷ 7 ∷ 7 ∷ 7 ∷ 7 ∷ [] }

abbrev state_2 : State
state_2 = record { used = 3; buffer = 97 ∷ 88 ∷ 10 ∷ 0 ∷ 0 ∷ 0 ∷ 7 ∷ 7 ∷ 7 ∷ 7 ∷ 7 ∷ 7 ∷ 7 ∷ 7 ∷ 7 ∷ 7 ∷ [] }

abbrev state_3 : State
state_3 = record { used = 4; buffer = 97 ∷ 89 ∷ 10 ∷ 90 ∷ 0 ∷ 0 ∷ 7 ∷ 7 ∷ 7 ∷ 7 ∷ 7 ∷ 7 ∷ 7 ∷ 7 ∷ 7 ∷ 7 ∷ [] }

abbrev state_4 : State
state_4 = record { used = 8; buffer = 97 ∷ 89 ∷ 32 ∷ 120 ∷ 10 ∷ 90 ∷ 32 ∷ 32 ∷ 7 ∷ 7 ∷ 7 ∷ 7 ∷ 7 ∷ 7 ∷ 7 ∷ 7 ∷ [] }

abbrev state_5 : State
state_5 = record { used = 8; buffer = 97 ∷ 89 ∷ 32 ∷ 120 ∷ 32 ∷ 90 ∷ 32 ∷ 32 ∷ 7 ∷ 7 ∷ 7 ∷ 7 ∷ 7 ∷ 7 ∷ 7 ∷ 7 ∷ [] }

abbrev state_6 : State
state_6 = record { used = 9; buffer = 97 ∷ 89 ∷ 10 ∷ 32 ∷ 120 ∷ 32 ∷ 90 ∷ 32 ∷ 32 ∷ 7 ∷ 7 ∷ 7 ∷ 7 ∷ 7 ∷ 7 ∷ 7 ∷ [] }

abbrev state_7 : State
state_7 = record { used = 7; buffer = 97 ∷ 10 ∷ 32 ∷ 32 ∷ 90 ∷ 32 ∷ 32 ∷ 0 ∷ 0 ∷ 7 ∷ 7 ∷ 7 ∷ 7 ∷ 7 ∷ 7 ∷ 7 ∷ [] }

abbrev state_8 : State
state_8 = record { used = 1; buffer = 97 ∷ 0 ∷ 0 ∷ 0 ∷ 0 ∷ 0 ∷ 0 ∷ 0 ∷ 0 ∷ 7 ∷ 7 ∷ 7 ∷ 7 ∷ 7 ∷ 7 ∷ 7 ∷ [] }

abbrev sample_states : List State
sample_states = start ∷ state_1 ∷ state_2 ∷ state_3 ∷ state_4 ∷ state_5 ∷ state_6 ∷ state_7 ∷ state_8 ∷ []

-- the edits from each state on
passes_8 : Passes state_8 [] [] (drop 8 sample_states)
passes_8 = none

passes_7 : Passes state_7 (drop 7 sample_edits) (drop 7 sample_besides) (drop 7 sample_states)
unfolding onto lines unlines row_count last_row row_len row_start clamp offset end_of in_text admissible all text_ok renewed scalar flatten inserted chars_deleted line_from line_to lines_deleted replaced gap join_row join_cols join_flags put put_all pads_of pieces cut_all chunks_of any_flag joined unspace split_first split_row split block_inserted chunks_deleted range_deleted edited_by sum small_range small_ok few_rows few_ok payload_ok within_first within_all within_ok room_ok record_ok wide first_of result_of leaves applied range_undoable is_undoable undoable
passes_7 = more passes_8 refl refl refl

passes_6 : Passes state_6 (drop 6 sample_edits) (drop 6 sample_besides) (drop 6 sample_states)
unfolding onto lines unlines row_count last_row row_len row_start clamp offset end_of in_text admissible all text_ok renewed scalar flatten inserted chars_deleted line_from line_to lines_deleted replaced gap join_row join_cols join_flags put put_all pads_of pieces cut_all chunks_of any_flag joined unspace split_first split_row split block_inserted chunks_deleted range_deleted edited_by sum small_range small_ok few_rows few_ok payload_ok within_first within_all within_ok room_ok record_ok wide first_of result_of leaves applied range_undoable is_undoable undoable
passes_6 = more passes_7 refl refl refl

passes_5 : Passes state_5 (drop 5 sample_edits) (drop 5 sample_besides) (drop 5 sample_states)
unfolding onto lines unlines row_count last_row row_len row_start clamp offset end_of in_text admissible all text_ok renewed scalar flatten inserted chars_deleted line_from line_to lines_deleted replaced gap join_row join_cols join_flags put put_all pads_of pieces cut_all chunks_of any_flag joined unspace split_first split_row split block_inserted chunks_deleted range_deleted edited_by sum small_range small_ok few_rows few_ok payload_ok within_first within_all within_ok room_ok record_ok wide first_of result_of leaves applied range_undoable is_undoable undoable
passes_5 = more passes_6 refl refl refl

passes_4 : Passes state_4 (drop 4 sample_edits) (drop 4 sample_besides) (drop 4 sample_states)
unfolding onto lines unlines row_count last_row row_len row_start clamp offset end_of in_text admissible all text_ok renewed scalar flatten inserted chars_deleted line_from line_to lines_deleted replaced gap join_row join_cols join_flags put put_all pads_of pieces cut_all chunks_of any_flag joined unspace split_first split_row split block_inserted chunks_deleted range_deleted edited_by sum small_range small_ok few_rows few_ok payload_ok within_first within_all within_ok room_ok record_ok wide first_of result_of leaves applied range_undoable is_undoable undoable
passes_4 = more passes_5 refl refl refl

passes_3 : Passes state_3 (drop 3 sample_edits) (drop 3 sample_besides) (drop 3 sample_states)
unfolding onto lines unlines row_count last_row row_len row_start clamp offset end_of in_text admissible all text_ok renewed scalar flatten inserted chars_deleted line_from line_to lines_deleted replaced gap join_row join_cols join_flags put put_all pads_of pieces cut_all chunks_of any_flag joined unspace split_first split_row split block_inserted chunks_deleted range_deleted edited_by sum small_range small_ok few_rows few_ok payload_ok within_first within_all within_ok room_ok record_ok wide first_of result_of leaves applied range_undoable is_undoable undoable
passes_3 = more passes_4 refl refl refl

passes_2 : Passes state_2 (drop 2 sample_edits) (drop 2 sample_besides) (drop 2 sample_states)
unfolding onto lines unlines row_count last_row row_len row_start clamp offset end_of in_text admissible all text_ok renewed scalar flatten inserted chars_deleted line_from line_to lines_deleted replaced gap join_row join_cols join_flags put put_all pads_of pieces cut_all chunks_of any_flag joined unspace split_first split_row split block_inserted chunks_deleted range_deleted edited_by sum small_range small_ok few_rows few_ok payload_ok within_first within_all within_ok room_ok record_ok wide first_of result_of leaves applied range_undoable is_undoable undoable
passes_2 = more passes_3 refl refl refl

passes_1 : Passes state_1 (drop 1 sample_edits) (drop 1 sample_besides) (drop 1 sample_states)
unfolding onto lines unlines row_count last_row row_len row_start clamp offset end_of in_text admissible all text_ok renewed scalar flatten inserted chars_deleted line_from line_to lines_deleted replaced gap join_row join_cols join_flags put put_all pads_of pieces cut_all chunks_of any_flag joined unspace split_first split_row split block_inserted chunks_deleted range_deleted edited_by sum small_range small_ok few_rows few_ok payload_ok within_first within_all within_ok room_ok record_ok wide first_of result_of leaves applied range_undoable is_undoable undoable
passes_1 = more passes_2 refl refl refl

passes : Passes start sample_edits sample_besides sample_states
unfolding onto lines unlines row_count last_row row_len row_start clamp offset end_of in_text admissible all text_ok renewed scalar flatten inserted chars_deleted line_from line_to lines_deleted replaced gap join_row join_cols join_flags put put_all pads_of pieces cut_all chunks_of any_flag joined unspace split_first split_row split block_inserted chunks_deleted range_deleted edited_by sum small_range small_ok few_rows few_ok payload_ok within_first within_all within_ok room_ok record_ok wide first_of result_of leaves applied range_undoable is_undoable undoable
passes = more passes_1 refl refl refl

sample-texts : map text (states_from start sample_edits) ≡ sample_texts
sample-texts = ap (map text) (passed_states passes)

pub sample-run : SampleRun
sample-run =
    let b = ran-beside passes in
    let r = b.ran in
    let k = run-held 16 r.run (record { long = refl; within = omega arith }) in
    record {
      last = last_from start sample_edits;
      run = r.run;
      its_edits = r.its_edits;
      its_besides = b.its_besides;
      its_texts = ap (map text) r.its_states ∙ sample-texts;
      room = record { payload = omega (arith, k.long); first = omega arith; second = omega arith };
    }
