-- The examples and the sample run, computed; its calls are made as their promises have them.
use mathlib.Core.Path.{◌≡◌, refl, sym, ◌∙◌, ap, subst}
use mathlib.Core.Bool.{true, true≢false}
use mathlib.Core.List.{List, [], ◌∷◌, map, flatten}
use Prim.Native.Nat.{ℕ, zero, suc, ◌<◌}
use lib.ListN.{get_or}
use native.Mathlib.Omega.{arith}
use Rattle.promise.specs.Paper.{done}
use Rattle.utf8.specs.Rfc3629.{scalar}
use Rattle.text.specs.declared.Position.{Position}
use Rattle.text.specs.Rows.{at, upto, ◌⊕◌, onto, lines, unlines, row_count, last_row, row_len, row_start, clamp, offset, end_of}
use Rattle.text.specs.Text.{admissible, all, text_ok, renewed}
use Rattle.edit.specs.declared.Applied.{Applied}
use Rattle.edit.specs.Edits.{Whole, inserted, chars_deleted, line_from, line_to, lines_deleted, replaced, gap, join_row, join_cols, join_flags, put, put_all, pads_of, pieces, cut_all, chunks_of, any_flag, joined, unspace, split_first, split_row, split, block_inserted, chunks_deleted, range_deleted, edited_by}
use Rattle.edit.specs.Refusals.{sum, small_range, small_ok, few_rows, few_ok, payload_ok, within_first, within_all, within_ok, room_ok, record_ok}
use Rattle.edit.specs.Call.{first_of, result_of, applied_as, leaves, applied}
use Rattle.edit.specs.Theorems.{Stands}
use Rattle.edit.specs.Runs.{edits}
use Rattle.edit.specs.Demand3.{State, text, view_at, called}
use Rattle.edit.specs.Examples.{beside}
use Rattle.edit.specs.Examples as edit
use Rattle.edit.proofs.Accepted.{doing}
use Rattle.edit.proofs.Calls.{next, once_called}
use Rattle.edit.proofs.Samples.{states_from, last_from, Ran, ran-none, ran-more}
use Rattle.apply.proofs.Demand3.{calls_exist, with_call}
use Rattle.joins.specs.Turns.{gap_len}
use Rattle.after.specs.After.{after_insert, after_delete_char, after_delete_lines, after_delete_block, start_cols, after_join, after_insert_block, after_delete_block_chunks}
use Rattle.shift.specs.Answers.{to}
use Rattle.shift.specs.Kinds.{after_delete, shifted}
use Rattle.shift.specs.Examples.{abcd}
use Rattle.origins.specs.Origins.{Traced, traced, opening, payload, padding, lf_at, opened, opened_at, numbered, traced_run}
use Rattle.letters.specs.Keeps.{Keeps, KeepsRun, shifted_over}
use Rattle.letters.specs.Theorems.{Letter}
use Rattle.letters.specs.Calls.{KeepingCall, FollowedTo}
use Rattle.letters.specs.Examples.{sample_edits, sample_texts, SampleRun, SampleCalls, Needed, MarksNeeded}
use Rattle.letters.proofs.Called.{code_letters_stay, code_marks_meet}

-- pads of 0, and one behind the last width
pads : (k : ℕ) → k < 3 → get_or {A = ℕ} (0 ∷ 0 ∷ 0 ∷ 7 ∷ []) k 0 ≡ 0
pads zero l = refl
pads (suc zero) l = refl
pads (suc (suc zero)) l = refl
pads (suc (suc (suc k))) l = absurd (omega arith)

pub sample-run : SampleRun
unfolding KeepsRun shifted_over shifted after_delete after_insert after_delete_char after_delete_lines after_delete_block start_cols after_join after_insert_block after_delete_block_chunks gap_len opened_at numbered traced_run ◌⊕◌ onto lines unlines row_count last_row row_len row_start clamp offset end_of admissible all scalar flatten inserted chars_deleted line_from line_to lines_deleted replaced gap join_row join_cols join_flags put put_all pads_of pieces cut_all chunks_of joined block_inserted chunks_deleted range_deleted edited_by sum payload_ok
sample-run = record {
  keeps = ((refl, refl), ((refl, refl), ((tt, refl), ((tt, refl), ((tt, refl), ((pads, refl), ((λ k l. refl, refl), ((tt, refl), (((refl, refl, refl), refl), (((refl, refl, refl), refl), ((refl, refl), ((omega arith, refl), ((refl, refl), ((omega arith, refl), tt))))))))))))));
  origins = refl;
  letter_a = record { stands = refl; from = refl; other = refl };
  letter_c = record { stands = refl; from = refl; other = refl };
  a = refl;
  b = refl;
  c = refl;
  d = refl;
}

pub needed : Needed
unfolding shifted after_delete after_insert after_delete_char after_delete_lines after_delete_block start_cols after_join after_insert_block after_delete_block_chunks gap_len opened_at numbered traced_run ◌⊕◌ onto lines unlines row_count last_row row_len row_start clamp offset end_of flatten inserted chars_deleted line_from line_to lines_deleted replaced gap join_row join_cols join_flags put put_all pads_of pieces cut_all chunks_of joined block_inserted chunks_deleted range_deleted edited_by any_flag unspace split_first split_row split
needed = record {
  split = record { before = []; behind = []; c = traced 97 (opening (at 0 0)); stands = refl; from = refl; there = refl; shift = refl };
  pad = record { before = []; behind = []; c = traced 98 (opening (at 0 1)); stands = refl; from = refl; there = refl; shift = refl };
  chars_back = record { before = []; behind = []; c = traced 97 (opening (at 1 0)); stands = refl; from = refl; there = refl; shift = refl };
  replace_back = record { before = []; behind = []; c = traced 97 (opening (at 1 0)); stands = refl; from = refl; there = refl; shift = refl };
  lines_back = record { before = []; behind = []; c = traced 99 (opening (at 2 0)); stands = refl; from = refl; there = refl; shift = refl };
  chars_start = record { before = []; behind = []; c = traced 97 (opening (at 1 0)); stands = refl; from = refl; there = refl; shift = refl };
  chars_end = record { before = traced 97 (opening (at 0 0)) ∷ []; behind = []; c = traced 98 (opening (at 0 1)); stands = refl; from = refl; there = refl; shift = refl };
  replace_start = record { before = []; behind = []; c = traced 97 (opening (at 1 0)); stands = refl; from = refl; there = refl; shift = refl };
  replace_end = record { before = traced 97 (opening (at 0 0)) ∷ []; behind = []; c = traced 98 (opening (at 0 1)); stands = refl; from = refl; there = refl; shift = refl };
  insert_past = record { before = traced 88 (payload 0 0) ∷ []; behind = []; c = traced 97 (opening (at 0 0)); stands = refl; from = refl; there = refl; shift = refl };
  char_past = record { before = traced 88 (payload 0 0) ∷ []; behind = []; c = traced 97 (opening (at 0 0)); stands = refl; from = refl; there = refl; shift = refl };
  chunk_break = record { before = traced 10 (payload 0 0) ∷ []; behind = []; c = traced 97 (opening (at 0 0)); stands = refl; from = refl; there = refl; shift = refl };
  chunk_short = record { before = []; behind = []; c = traced 97 (opening (at 0 0)); stands = refl; from = refl; there = refl; shift = refl };
  break = record { before = traced 32 (padding 0) ∷ []; behind = []; c = traced 10 (opening (at 0 0)); stands = refl; from = refl; there = refl; shift = refl };
}

in_order-not : (m n : Position) → to (at 0 9) ≡ to m → to (at 0 1) ≡ to n → upto m n ≡ true → ⊥
in_order-not m n e f u =
    let i : at 0 9 ≡ m = cc in
    let j : at 0 1 ≡ n = cc in
    true≢false (sym (rw (← i, ← j) at u))

pub marks_needed : MarksNeeded
unfolding shifted_over shifted after_delete after_insert after_delete_char after_delete_lines after_delete_block start_cols after_join after_insert_block after_delete_block_chunks gap_len onto lines unlines row_count last_row row_len row_start clamp offset end_of flatten inserted chars_deleted line_from line_to lines_deleted replaced gap join_row join_cols join_flags put put_all pads_of pieces cut_all chunks_of joined block_inserted chunks_deleted range_deleted edited_by
marks_needed = record { meet_first = refl; meet_second = refl; left_text = refl; left = refl; left_out = refl; past_order = refl; past_first = refl; past_second = refl; passed = refl; not_landed = λ l. in_order-not l.p' l.q' l.lands_p l.lands_q l.order; not_landed_run = λ l. in_order-not l.p' l.q' l.lands_p l.lands_q l.order }

-- ---- the calls: each edit's answer is computed at the state that the edits before it leave

-- all are accepted, and marks stay
unfoldable Passes : State → List (Whole ℕ) → Type 0
Passes s [] = Unit {0}
Passes s (w ∷ ws) = ((called s w beside).answer ≡ done (applied_as (view_at s beside) (doing w (text s)))) × Keeps (text s) w.edit w.first w.second × Passes (next s w) ws

ran : (s : State) (ws : List (Whole ℕ)) → Passes s ws → Ran KeepingCall s ws
unfolding Passes
ran s [] p = ran-none s
ran s (w ∷ ws) p =
    let a : Applied = applied_as (view_at s beside) (doing w (text s)) in
    let c = once_called s w beside a p.0 in
    let d = calls_exist s w beside in
    let i = (doing w (text s)).inverse in
    ran-more i (record { beside = beside; call = d; accepted = with_call d (next s w) i (a, p.0, c.state, c.inverse); keeps = p.1 }) (ran (next s w) ws p.2)

passes : Passes (edit.opened abcd) sample_edits
unfolding Passes onto lines unlines row_count last_row row_len row_start clamp offset end_of flatten inserted chars_deleted line_from line_to lines_deleted replaced gap join_row join_cols join_flags put put_all pads_of pieces cut_all chunks_of joined block_inserted chunks_deleted range_deleted edited_by admissible all scalar sum payload_ok text_ok renewed small_range small_ok few_rows few_ok within_first within_all within_ok room_ok record_ok first_of result_of leaves applied
passes = (refl, refl, (refl, refl, (refl, tt, (refl, tt, (refl, tt, (refl, pads, (refl, λ k l. refl, (refl, tt, (refl, (refl, refl, refl), (refl, (refl, refl, refl), (refl, refl, (refl, omega arith, (refl, refl, (refl, omega arith, tt))))))))))))))

sample-texts : map text (states_from (edit.opened abcd) sample_edits) ≡ sample_texts
unfolding states_from renewed onto lines unlines row_count last_row row_len row_start clamp offset end_of flatten inserted chars_deleted line_from line_to lines_deleted replaced gap join_row join_cols join_flags put put_all pads_of pieces cut_all chunks_of joined block_inserted chunks_deleted range_deleted edited_by
sample-texts = refl

-- d, and what stands before it
abbrev front : List Traced
front = traced 97 (opening (at 0 0)) ∷ traced 98 (opening (at 0 1)) ∷ traced 81 (payload 8 0) ∷ traced 99 (opening (at 1 0)) ∷ []

letter : Letter (traced_run 0 (opened abcd) sample_edits) front [] (traced 100 (opening (at 1 1))) (at 1 1)
unfolding opened_at numbered traced_run ◌⊕◌ onto lines unlines row_count last_row row_len row_start clamp offset end_of flatten inserted chars_deleted line_from line_to lines_deleted replaced gap join_row join_cols join_flags put put_all pads_of pieces cut_all chunks_of joined block_inserted chunks_deleted range_deleted edited_by
letter = record { stands = refl; from = refl; other = refl }

front-end : end_of lf_at front ≡ at 0 4
unfolding onto lines row_count last_row row_len end_of
front-end = refl

-- the marks' places
stands_b : Stands abcd (at 0 1)
unfolding onto lines row_count last_row row_len clamp
stands_b = refl

stands_c : Stands abcd (at 1 0)
unfolding onto lines row_count last_row row_len clamp
stands_c = refl

pub sample-calls : SampleCalls
sample-calls =
    let s : State = edit.opened abcd in
    let r = ran s sample_edits passes in
    let e : edits r.run ≡ sample_edits = r.its_edits in
    let l = subst (λ (ws : List (Whole ℕ)). Letter (traced_run 0 (opened abcd) ws) front [] (traced 100 (opening (at 1 1))) (at 1 1)) (sym e) letter in
    record {
      last = last_from s sample_edits;
      run = r.run;
      its_edits = e;
      its_texts = ap (map text) r.its_states ∙ sample-texts;
      led = subst (FollowedTo r.run (at 1 1)) front-end ((code_letters_stay s (last_from s sample_edits) r.run).letters front [] (traced 100 (opening (at 1 1))) (at 1 1) l);
      apart = code_marks_meet s (last_from s sample_edits) r.run (at 0 1) (at 1 0) stands_b stands_c refl;
    }
