-- The statements of calls.
use mathlib.Core.Path.{◌≡◌, refl, sym, ◌∙◌, ap, subst}
use mathlib.Core.Bool.{true, false}
use mathlib.Core.Logic.{inl, ⊎_elim}
use mathlib.Core.List.{List, ◌∷◌, ◌++◌, map}
use Prim.Native.Nat.{ℕ, suc, ◌≤◌}
use native.Mathlib.Omega.{arith}
use borrow.Author.Tests.{le-leb}
use lib.ListN.{length, length-append}
use lib.Seq.{length-take-le}
use Rattle.promise.specs.Paper.{done, refused}
use Rattle.promise.proofs.Bools.{T_true, both_true, known}
use Rattle.text.specs.declared.Position.{Position}
use Rattle.text.specs.Rows.{at, upto, end_of}
use Rattle.text.specs.Text.{text_ok}
use Rattle.text.proofs.Laws.{add-origin}
use Rattle.text.proofs.Spots.{end_row, end-col}
use Rattle.text.proofs.Texts.{text-true}
use Rattle.text.proofs.Holds.{Holds, holds_moved, holds_one}
use Rattle.edit.specs.declared.MotionKind.TheVariants.{Char, Line as Lines, Block}
use Rattle.edit.specs.declared.Edit.{Edit}
use Rattle.edit.specs.declared.Edit.TheVariants.{InsertChar, InsertStr, DeleteRange, JoinLines, SplitLines, Replace, InsertBlock, DeleteBlockChunks}
use Rattle.edit.specs.Edits.{Whole, whole}
use Rattle.edit.specs.Refusals.{small_position, small_ok, few_ok, payload_ok}
use Rattle.edit.specs.Call.{first_of}
use Rattle.edit.specs.Runs.{Run, stop, step, edits}
use Rattle.edit.specs.Demand3.{State, text, Beside, view_at, lent_at, called, after, returned}
use Rattle.edit.proofs.Maps.{map-length}
use Rattle.edit.proofs.Workers.{Passed, accepted}
use Rattle.edit.proofs.Calls.{first_answered, next_text, with_called}
use Rattle.apply.proofs.Demand3.{calls_exist, called-with, with_call}
use Rattle.shift.specs.Answers.{Followed, to, dropped, paper_shifted}
use Rattle.shift.specs.Kinds.{shifted}
use Rattle.shift.specs.Call.{ordered_range, ordered_ok, shift_tests, position_shifted}
use Rattle.shift.proofs.Theorems.{promises_settle}
use Rattle.origins.specs.Origins.{Traced, value, lf_at, opened, traced_by, traced_run}
use Rattle.origins.specs.Theorems.{edited_text, text_run}
use Rattle.origins.proofs.Values.{opened-value, traced-value}
use Rattle.origins.proofs.Theorems.{origins_keep_text}
use Rattle.letters.specs.Keeps.{Keeps, KeepsWhole}
use Rattle.letters.specs.Theorems.{Markable}
use Rattle.letters.specs.Calls.{LettersStayCall, ShiftCall, ShiftCallsExist, KeepingCall, FollowedTo, CodeLettersStay, NeverPass, CodeMarksMeet, LedOnce, LedInOrder}
use Rattle.letters.proofs.Theorems.{Known, opened-known, step-known, marks_meet}
use Rattle.std.specs.Prelude.{Result, Ok, Err, Option, Some, None}
use Rattle.edit.specs.declared.Refusal.{Refusal}

-- ---- calls of `shift_position`

answer_of : Followed Position → Result (Option Position) Refusal
answer_of (to p) = Ok (Some p)
answer_of dropped = Ok None

answer_is : (f : Followed Position) → paper_shifted (answer_of f) ≡ done f
unfolding answer_of
answer_is (to p) = refl
answer_is dropped = refl

pub shift_calls_exist : ShiftCallsExist
unfolding position_shifted
shift_calls_exist s w p =
    let f = shifted (text s) w.edit w.payload w.first p in
    let tests = shift_tests s.buffer s.used w.edit w.payload w.first w.second (small_position p) in
    let r = first_answered paper_shifted (λ r. Err r) (λ r. refl) tests (answer_of f) in
    record { answer = r.0; promise = r.1 ∙ ap (first_of tests) (answer_is f) }

was_at : (r : Result (Option Position) Refusal) (q : Position) → paper_shifted r ≡ done (to q) → r ≡ Ok (Some q)
was_at r q e = promises_settle.shift_position (done (to q)) r (Ok (Some q)) e refl

-- ---- what an accepted call says of shifts over its edit

in_order : (t : List ℕ) (e : Edit) (f s : List ℕ) → Keeps t e f s → ordered_ok e ≡ true
unfolding ordered_ok ordered_range
in_order t (InsertChar q) f s k = refl
in_order t (InsertStr q) f s k = refl
in_order t (DeleteRange a b Char) f s k = k.2
in_order t (DeleteRange a b Lines) f s k = le-leb a.row.0 b.row.0 k
in_order t (DeleteRange a b Block) f s k = refl
in_order t (JoinLines r n b) f s k = refl
in_order t (SplitLines r) f s k = absurd k
in_order t (Replace a b) f s k = k.2
in_order t (InsertBlock q) f s k = refl
in_order t (DeleteBlockChunks q) f s k = refl

module _ {s : State} {w : Whole ℕ} {u : State} {i : Whole ℕ} (h : KeepingCall s w u i) where
  abbrev o : Beside
  o = h.beside

  passed : Passed (view_at s o) w.edit (lent_at s w o)
  passed = let c = called-with h.call u i h.accepted in (accepted (view_at s o) w.edit (lent_at s w o) c.0 c.1).0

  textual : text_ok s.buffer s.used ≡ true
  textual = T_true (text_ok s.buffer s.used) passed.textual

  payloads : payload_ok w.edit w.payload w.first ≡ true
  payloads = T_true (payload_ok w.edit w.payload w.first) passed.payloads

  keeps_whole : KeepsWhole (text s) w
  keeps_whole = (h.keeps, payloads)

  text-after : edited_text w (text s) ≡ text u
  text-after = sym (ap text (with_called o s w u i (called-with h.call u i h.accepted)).state ∙ next_text s w)

  text-short : length (text s) ≤ 16384
  text-short = let b = text-true s.buffer s.used textual in omega (arith, length-take-le s.used s.buffer b.0)

  -- a position that row 2 admits is answered
  answers : (p q : Position) → small_position p ≡ true → shifted (text s) w.edit w.payload w.first p ≡ to q → (c : ShiftCall s w p) → c.answer ≡ Ok (Some q)
  unfolding position_shifted first_of
  answers p q small e c =
      was_at c.answer q
      (c.promise
      ∙ rw (textual, T_true (small_ok w.edit w.first w.second) passed.smalls, small, T_true (few_ok (text s) w.edit w.payload w.first w.second) passed.fews, payloads, in_order (text s) w.edit w.first w.second h.keeps, e))

  -- and so is a place of the text
  place-small : (t : List Traced) → map value t ≡ text s → (a : List Traced) (c : Traced) (b : List Traced) → t ≡ a ++ c ∷ b → small_position (end_of lf_at a) ≡ true
  place-small t v a c b e =
      let n : length t ≡ length (text s) = sym (map-length value t) ∙ ap length v in
      let m : length t ≡ length (a ++ c ∷ b) = ap length e in
      both_true
      (le-leb (end_of lf_at a).row.0 1000000 (omega (arith, end_row lf_at a, length-append a (c ∷ b), text-short)))
      (le-leb (end_of lf_at a).col.0 1000000 (omega (arith, end-col lf_at a, length-append a (c ∷ b), text-short)))

-- ---- letters

known_map : (K M : Position → Position → Type 0) (t : List Traced) → ((a : List Traced) (c : Traced) (b : List Traced) → t ≡ a ++ c ∷ b → (p : Position) → K p (end_of lf_at a) → M p (end_of lf_at a))
    → Holds lf_at (Known K) (at 0 0) t → Holds lf_at (Known M) (at 0 0) t
unfolding Known
known_map K M t f =
    holds_moved lf_at (Known K) (Known M) (at 0 0) (at 0 0) t
    (λ a c b i k p o n. rw (add-origin (end_of lf_at a)) (f a c b i p (rw (add-origin (end_of lf_at a)) at (k p o n))))

-- from K before a run to the calls made along it
run-led : {s z : State} (r : Run KeepingCall s z) (k : ℕ) (t : List Traced) → map value t ≡ text s → (K : Position → Position → Type 0)
    → Holds lf_at (Known K) (at 0 0) t → Holds lf_at (Known (λ p q. (m : Position) × K p m × FollowedTo r m q)) (at 0 0) (traced_run k t (edits r))
unfolding FollowedTo traced_run edits
run-led stop k t v K e = known_map K (λ p q. (m : Position) × K p m × (m ≡ q)) t (λ a c b i p h. (end_of lf_at a, h, refl)) e
run-led (step {s = s} {e = w} h r) k t v K e =
    let Answered : Position → Position → Type 0 = λ p q. (m : Position) × K p m × ((c : ShiftCall s w m) → c.answer ≡ Ok (Some q)) in
    let small = known_map K (λ p q. K p q × (small_position q ≡ true)) t (λ a c b i p l. (l, place-small h t v a c b i)) e in
    let one = step-known k t w (rw v (keeps_whole h)) (λ p q. K p q × (small_position q ≡ true)) Answered (λ p q m l i. (q, l.0, answers h q m l.1 (rw v at i))) small in
    let u = traced-value k w t ∙ ap (edited_text w) v ∙ text-after h in
    known_map (λ p q. (m : Position) × Answered p m × FollowedTo r m q) (λ p q. (m : Position) × K p m × ((c : ShiftCall s w m) → (n : Position) × (c.answer ≡ Ok (Some n)) × FollowedTo r n q)) (traced_run (suc k) (traced_by k w t).text (edits r))
    (λ a c b i p l. (l.1.0, l.1.1, λ d. (l.0, l.1.2 d, l.2))) (run-led r (suc k) (traced_by k w t).text u Answered one)

run-text : {s z : State} (r : Run KeepingCall s z) → text_run (text s) (edits r) ≡ text z
unfolding text_run edits
run-text stop = refl
run-text (step h r) = ap (λ (t : List ℕ). text_run t (edits r)) (text-after h) ∙ run-text r

pub code_letters_stay : CodeLettersStay
unfolding Known
code_letters_stay s z r = record {
  last = origins_keep_text (text s) (edits r) ∙ run-text r;
  letters = λ before behind c p l.
      let k = run-led r 0 (opened (text s)) (opened-value (at 0 0) (text s)) (λ p q. p ≡ q) (opened-known (λ p q. p ≡ q) (λ p. refl) (at 0 0) (text s)) in
      let m = holds_one lf_at (Known (λ p q. (m : Position) × (p ≡ m) × FollowedTo r m q)) (at 0 0) before c behind (rw l.stands at k) p l.from l.other in
      rw (m.1, ← add-origin (end_of lf_at before)) m.2;
}

-- ---- marks

never_pass : {s z : State} (r : Run KeepingCall s z) (p q : Position) → Markable (text s) p → Markable (text s) q → upto p q ≡ true → NeverPass r p q
unfolding NeverPass
never_pass stop p q mp mq u = u
never_pass (step {s = s} {u = v} {e = w} h r) p q mp mq u = (
  u,
  λ sp sq c d.
      let l = marks_meet (text s) w (keeps_whole h) p q mp mq u in
      let t = text-after h in (
        l.p',
        l.q',
        answers h p l.p' sp l.lands_p c,
        answers h q l.q' sq l.lands_q d,
        never_pass r l.p' l.q' (subst (λ (x : List ℕ). Markable x l.p') t l.kept_p) (subst (λ (x : List ℕ). Markable x l.q') t l.kept_q) l.order,
      ),
)

pub code_marks_meet : CodeMarksMeet
code_marks_meet s z r p q mp mq u = never_pass r p q (inl mp) (inl mq) u

-- ---- one call

pub letters_stay_call : LettersStayCall
unfolding traced_run edits FollowedTo
letters_stay_call v e l a h k before behind c p letter =
    let s : State = record { used = v.used; buffer = l.buffer } in
    let w : Whole ℕ = whole e l.payload l.first l.second in
    let o : Beside = record { cursor = v.cursor; changes = v.changes; payload = l.out_payload; first = l.out_first; second = l.out_second } in
    let d = calls_exist s w o in
    let u : State = after a (called s w o) in
    let i : Whole ℕ = returned a (called s w o) in
    let kc : KeepingCall s w u i = record { beside = o; call = d; accepted = with_call d u i (a, h, refl, refl); keeps = k } in
    let n = shift_calls_exist s w p in
    let f = (code_letters_stay s u (step kc stop)).letters before behind c p letter n in
    sym n.promise ∙ ap paper_shifted f.1 ∙ ap (λ (q : Position). done (to q)) f.2

-- ---- what they say is not empty

at_same : (r : Result (Option Position) Refusal) (m n : Position) → r ≡ Ok (Some m) → r ≡ Ok (Some n) → m ≡ n
at_same r m n e f = cc

pub led_once : LedOnce
unfolding FollowedTo
led_once s z stop p m n f g = sym f ∙ g
led_once s z (step {s = s₁} {u = u} {e = w} h r) p m n f g =
    let c = shift_calls_exist s w p in
    let a = f c in
    let b = g c in
    led_once u z r a.0 m n a.2 (subst (λ (q : Position). FollowedTo r q n) (at_same c.answer b.0 a.0 b.1 a.1) b.2)

was_small : {s : State} {w : Whole ℕ} {u : State} {i : Whole ℕ} → KeepingCall s w u i → (p q : Position) (c : ShiftCall s w p) → c.answer ≡ Ok (Some q) → small_position p ≡ true
unfolding position_shifted first_of
was_small {s} {w} h p q c e = ⊎_elim (λ k. k) (λ k. absurd (no k)) (known (small_position p))
  where
    no : small_position p ≡ false → ⊥
    no k =
        let i : done (to q) ≡ refused 2 0 =
        sym (ap paper_shifted e) ∙ c.promise ∙ rw (textual h, T_true (small_ok w.edit w.first w.second) (passed h).smalls, k) in
        let n : ◌≡◌ {A = ℕ} 0 1 = cc in
        omega arith

pub led_in_order : LedInOrder
unfolding FollowedTo NeverPass
led_in_order s z stop p q m n u f g = rw (← f, ← g) u
led_in_order s z (step {s = s₁} {u = v} {e = w} h r) p q m n u f g =
    let c = shift_calls_exist s w p in
    let d = shift_calls_exist s w q in
    let a = f c in
    let b = g d in
    let k = u.1 (was_small h p a.0 c a.1) (was_small h q b.0 d b.1) c d in
    led_in_order v z r k.0 k.1 m n k.4 (subst (λ (x : Position). FollowedTo r x m) (at_same c.answer a.0 k.0 a.1 k.2) a.2)
    (subst (λ (x : Position). FollowedTo r x n) (at_same d.answer b.0 k.1 b.1 k.3) b.2)
