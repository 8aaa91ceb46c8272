-- From texts to calls: what a call does with buffers and slices is what the edit does with the text.
use mathlib.Core.Path.{◌≡◌, refl, sym, ◌∙◌, ap, subst}
use mathlib.Core.Bool.{Bool, true, false, cond, not, ◌&&◌}
use mathlib.Core.List.{List, [], ◌∷◌, ◌++◌}
use Prim.Native.Nat.{ℕ, ◌≤◌, ◌<◌}
use native.Mathlib.Omega.{arith}
use lib.Dec.{T, leb, leb→le}
use lib.ListN.{length, take, drop, length-append, length-take, length-drop}
use lib.Seq.{take-append_seam, length-take-le}
use Rattle.promise.specs.Paper.{Paper, done, refused}
use Rattle.promise.specs.Slices.{over}
use Rattle.text.specs.Text.{admissible, text_ok, renewed, all}
use Rattle.text.proofs.Renewed.{renewed-text, renewed-length}
use Rattle.edit.specs.declared.View.{View}
use Rattle.edit.specs.declared.Edit.{Edit}
use Rattle.edit.specs.declared.Refusal.{Refusal}
use Rattle.edit.specs.declared.Refusal.TheVariants.{BadText, TooBig, TooMany, BadPayload, BadUtf8, Reversed, BeyondRow, NoRoom, NoRecord, BadFrame}
use Rattle.edit.specs.declared.Room.{Room}
use Rattle.edit.specs.declared.Applied.{Applied}
use Rattle.edit.specs.Edits.{Whole, whole, Edited}
use Rattle.edit.specs.Refusals.{short, small_ok, few_ok, payload_ok, within_ok, room_ok, record_ok}
use Rattle.edit.specs.Call.{paper, number_of, offset_of, first_of, Lent, Outcome, outcome, text_of, result_of, room_of, given_tests, result_tests, applied_as, leaves, applied, Promised, is_undoable, undoable}
use Rattle.edit.specs.Demand3.{State, text, Beside, view_at, lent_at, called, after, returned, AcceptedWith, Accepted, AcceptedOnce}
use Rattle.edit.specs.Theorems.{SameLengths, LengthsKept, InverseFits, NamedRoomSuffices}
use Rattle.promise.proofs.Bools.{T_true, T-left}
use Rattle.edit.proofs.Accepted.{doing, full, holds, Fine, Step, record_room, record_fits}
use Rattle.edit.proofs.Fits.{inverse_fits}
use Rattle.std.specs.Prelude.{Result, Ok, Err}

-- ---- a list of tests

-- what is not refused passed the first test, and then the others
pub passed : {A : Type 0} (b : Bool) (r : Refusal) (xs : List (Bool × Refusal)) (z : Paper A) (a : A) → first_of ((not b, r) ∷ xs) z ≡ done a → T b × (first_of xs z ≡ done a)
unfolding first_of
passed true r xs z a e = (tt, e)
passed false r xs z a e =
    let w : refused (number_of r) (offset_of r) ≡ done a = e in
    let z : true ≡ false = cc in
    (subst T z tt, cc)

-- so it did where the refusal is another's
passed-by : {A : Type 0} (b : Bool) (r : Refusal) (xs : List (Bool × Refusal)) (z : Paper A) (n k : ℕ) → (number_of r ≡ n → ⊥) → first_of ((not b, r) ∷ xs) z ≡ refused n k → T b × (first_of xs z ≡ refused n k)
unfolding first_of
passed-by true r xs z n k h e = (tt, e)
passed-by false r xs z n k h e = let q : number_of r ≡ n = cc in absurd (h q)

-- and where all passed, nothing refuses
all-passed : {A : Type 0} (b : Bool) (r : Refusal) (a : A) (n k : ℕ) → T b → first_of ((not b, r) ∷ []) (done a) ≡ refused n k → ⊥
unfolding first_of
all-passed true r a n k h e = let z : ◌≡◌ {A = ℕ} 0 1 = cc in omega arith
all-passed false r a n k h e = h

none_left : {A : Type 0} (z y : Paper A) → first_of [] z ≡ y → z ≡ y
unfolding first_of
none_left z y e = e

pub leaves-answer : (p : Paper Applied) (v : View) (l : Lent) (d : Edited ℕ) → (leaves p v l d).answer ≡ p
unfolding leaves
leaves-answer (done a) v l d = refl
leaves-answer (refused n k) v l d = refl

-- what is done or refused on paper is so in an answer of any kind: the promise can be met, whatever the call
module _ {A R : Type 0} (paper : R → Paper A) (refuses : Refusal → R) (same : (r : Refusal) → paper (refuses r) ≡ refused (number_of r) (offset_of r)) where
  pub first_answered : (xs : List (Bool × Refusal)) (a : R) → (r : R) × (paper r ≡ first_of xs (paper a))
  unfolding first_of
  first_answered [] a = (a, refl)
  first_answered (x ∷ xs) a = go x.0 (first_answered xs a)
    where
      go : (b : Bool) → (r : R) × (paper r ≡ first_of xs (paper a))
          → (r : R) × (paper r ≡ cond {A = Paper A} b (refused (number_of x.1) (offset_of x.1)) (first_of xs (paper a)))
      go true h = (refuses x.1, same x.1)
      go false h = h

pub promise_met : (v : View) (e : Edit) (l : Lent)
    → (r : Result Applied Refusal) × Promised r (applied v e l).text (applied v e l).payload (applied v e l).first (applied v e l).second v e l
unfolding applied
promise_met v e l =
    let d = result_of v e l in
    let c = applied v e l in
    let f = first_answered paper (λ r. Err r) (λ r. refl) (given_tests v e l ++ result_tests (within_ok (text_of v l) e l.first l.second) (room_of l) d) (Ok (applied_as v d)) in
    (f.0, ap (λ (p : Paper Applied). outcome p c.text c.payload c.first c.second) (f.1 ∙ sym (leaves-answer _ v l d)))

-- a refusal has a number, and it is not 0
numbered : (r : Refusal) → 0 < number_of r
numbered BadText = omega arith
numbered TooBig = omega arith
numbered TooMany = omega arith
numbered BadPayload = omega arith
numbered (BadUtf8 at) = omega arith
numbered Reversed = omega arith
numbered BeyondRow = omega arith
numbered NoRoom = omega arith
numbered NoRecord = omega arith
numbered BadFrame = omega arith

first_number : {A : Type 0} (xs : List (Bool × Refusal)) (a : A) (n k : ℕ) → first_of xs (done a) ≡ refused n k → 0 < n
unfolding first_of
first_number [] a n k e = let z : ◌≡◌ {A = ℕ} 0 1 = cc in absurd (omega arith)
first_number {A} (x ∷ xs) a n k e = go x.0 e (first_number xs a n k)
  where
    go : (b : Bool) → cond {A = Paper A} b (refused (number_of x.1) (offset_of x.1)) (first_of xs (done a)) ≡ refused n k → (first_of xs (done a) ≡ refused n k → 0 < n) → 0 < n
    go true e h = let q : number_of x.1 ≡ n = cc in omega (arith, numbered x.1)
    go false e h = h e

-- ---- room

text-holds : (b : List ℕ) (used : ℕ) → used ≤ length b → holds (length b) (take used b) ≡ text_ok b used
unfolding holds text_ok
text-holds b used h = rw (length-take-le used b h)

text-used : (b : List ℕ) (used : ℕ) → T (text_ok b used) → used ≤ length b
unfolding text_ok
text-used b used h = leb→le used (length b) (T-left (leb used (length b)) (leb used 16384) (T-left (leb used (length b) && leb used 16384) (all admissible (take used b)) h))

room_same : (n : ℕ) (R : Room) (u : List ℕ) → R.buffer ≡ n → T (room_ok (full n) u) → T (room_ok R u)
unfolding room_ok
room_same n R u e h = rw e h

-- ---- one call

-- a state whose used length is within its buffer of n places
pub record Held (n : ℕ) (s : State) : Type 0 where
  pub long : length s.buffer ≡ n
  pub within : s.used ≤ n

abbrev pub next : State → Whole ℕ → State
next s w = record { used = length (doing w (text s)).text; buffer = renewed s.buffer s.used (doing w (text s)).text }

module _ (s : State) (w : Whole ℕ) (o : Beside) where
  abbrev d : Edited ℕ
  d = doing w (text s)

  abbrev l : Lent
  l = lent_at s w o

  abbrev Recorded : Type 0
  Recorded = T (record_ok (room_of l) d.inverse)

  result_same : result_of (view_at s o) w.edit l ≡ d
  unfolding result_of
  result_same = refl

  answered : s.used ≤ length s.buffer → Fine (length s.buffer) (text s) w → Recorded
      → first_of (given_tests (view_at s o) w.edit l ++ result_tests (within_ok (text s) w.edit w.first w.second) (room_of l) (result_of (view_at s o) w.edit l)) (done (applied_as (view_at s o) (result_of (view_at s o) w.edit l))) ≡ done (applied_as (view_at s o) d)
  unfolding result_of first_of
  answered h f r = rw (
    T_true (text_ok s.buffer s.used) (subst T (text-holds s.buffer s.used h) f.textual),
    T_true (small_ok w.edit w.first w.second) f.smalls,
    T_true (few_ok (text s) w.edit w.payload w.first w.second) f.fews,
    T_true (payload_ok w.edit w.payload w.first) f.payloads,
    T_true (within_ok (text s) w.edit w.first w.second) f.withins,
    T_true (room_ok (room_of l) d.text) (room_same (length s.buffer) (room_of l) d.text refl f.rooms),
    T_true (record_ok (room_of l) d.inverse) r,
  )

  fine_called : s.used ≤ length s.buffer → Fine (length s.buffer) (text s) w → Recorded
      → called s w o
      ≡ outcome (done (applied_as (view_at s o) d)) (renewed s.buffer s.used d.text) (over d.inverse.payload o.payload) (over d.inverse.first o.first) (over d.inverse.second o.second)
  unfolding applied leaves
  fine_called h f r = rw (answered h f r, result_same)

  -- what the caller then has
  fine_leaves : s.used ≤ length s.buffer → Fine (length s.buffer) (text s) w → Recorded
      → (after (applied_as (view_at s o) d) (called s w o) ≡ next s w) × (returned (applied_as (view_at s o) d) (called s w o) ≡ d.inverse)
  fine_leaves h f r =
      let c = fine_called h f r in (
        rw c,
        rw (
          c,
          take-append_seam d.inverse.payload (drop (length d.inverse.payload) o.payload),
          take-append_seam d.inverse.first (drop (length d.inverse.first) o.first),
          take-append_seam d.inverse.second (drop (length d.inverse.second) o.second),
        ),
      )

  first_answer : (p : Paper Applied) → (called s w o).answer ≡ p
      → first_of (given_tests (view_at s o) w.edit l ++ result_tests (within_ok (text s) w.edit w.first w.second) (room_of l) (result_of (view_at s o) w.edit l)) (done (applied_as (view_at s o) (result_of (view_at s o) w.edit l))) ≡ p
  unfolding applied
  first_answer p e =
      sym (leaves-answer (first_of (given_tests (view_at s o) w.edit l ++ result_tests (within_ok (text s) w.edit w.first w.second) (room_of l) (result_of (view_at s o) w.edit l)) (done (applied_as (view_at s o) (result_of (view_at s o) w.edit l)))) (view_at s o) l (result_of (view_at s o) w.edit l)) ∙ e

  -- the named room holds every inverse, and so does more
  recorded : T (few_ok (text s) w.edit w.payload w.first w.second) → length s.buffer ≤ length o.payload → 256 ≤ length o.first → 256 ≤ length o.second → Recorded
  recorded h x f g =
      let i = inverse_fits (text s) w.edit w.payload w.first w.second h in
      record_room (room_of l) d.inverse (omega (arith, i.0, length-take s.used s.buffer)) (omega (arith, i.1)) (omega (arith, i.2))

  -- what an accepted call shows
  record Tested (a : Applied) : Type 0 where
    within : s.used ≤ length s.buffer
    recorded : Recorded
    fine : Fine (length s.buffer) (text s) w
    answer : a ≡ applied_as (view_at s o) d
    fits : length d.text ≤ length s.buffer
    call : called s w o ≡ leaves (done a) (view_at s o) l d

  tested : (a : Applied) → (called s w o).answer ≡ done a → Tested a
  unfolding applied result_of room_ok
  tested a e =
      let z = first_answer (done a) e in
      let t1 = passed (text_ok s.buffer s.used) _ _ _ _ z in
      let t2 = passed (small_ok w.edit w.first w.second) _ _ _ _ t1.1 in
      let t3 = passed (few_ok (text s) w.edit w.payload w.first w.second) _ _ _ _ t2.1 in
      let t4 = passed (payload_ok w.edit w.payload w.first) _ _ _ _ t3.1 in
      let t7 = passed (within_ok (text s) w.edit w.first w.second) _ _ _ _ t4.1 in
      let t8 = passed (room_ok (room_of l) d.text) _ _ _ _ t7.1 in
      let t9 = passed (record_ok (room_of l) d.inverse) _ _ _ _ t8.1 in
      let q : done (applied_as (view_at s o) d) ≡ done a = none_left _ _ t9.1 in
      let h = text-used s.buffer s.used t1.0 in
      record {
        within = h;
        recorded = t9.0;
        fine = record {
          textual = subst T (sym (text-holds s.buffer s.used h)) t1.0;
          smalls = t2.0;
          fews = t3.0;
          payloads = t4.0;
          withins = t7.0;
          rooms = t8.0;
        };
        answer = cc;
        fits = leb→le (length d.text) (length s.buffer) (T-left (leb (length d.text) (length s.buffer)) (short d.text) t8.0);
        call = rw z;
      }

-- ---- lengths

over-length : (xs out : List ℕ) → length xs ≤ length out → length (over xs out) ≡ length out
over-length xs out h = simp (length-append, length-drop) (omega arith)

kept : (s : State) (w : Whole ℕ) (o : Beside) (p : Paper Applied) → (called s w o).answer ≡ p → SameLengths (lent_at s w o) (called s w o)
unfolding applied leaves
kept s w o (done a) e =
    let x = tested s w o a e in
    let d : Edited ℕ = doing w (text s) in
    let f = record_fits (room_of (lent_at s w o)) d.inverse x.recorded in
    rw x.call (record {
      text = renewed-length s.buffer s.used d.text x.within x.fits;
      payload = over-length d.inverse.payload o.payload f.0;
      first = over-length d.inverse.first o.first f.1;
      second = over-length d.inverse.second o.second f.2;
    })
kept s w o (refused n k) e =
    rw (first_answer s w o (refused n k) e) (record { text = refl; payload = refl; first = refl; second = refl })

pub lengths_kept : LengthsKept
lengths_kept v e l =
    let s : State = record { used = v.used; buffer = l.buffer } in
    let w : Whole ℕ = whole e l.payload l.first l.second in
    let o : Beside = record { cursor = v.cursor; changes = v.changes; payload = l.out_payload; first = l.out_first; second = l.out_second } in
    kept s w o (called s w o).answer refl

pub inverse_fits_room : InverseFits
inverse_fits_room v e l a h =
    let s : State = record { used = v.used; buffer = l.buffer } in
    let w : Whole ℕ = whole e l.payload l.first l.second in
    let o : Beside = record { cursor = v.cursor; changes = v.changes; payload = l.out_payload; first = l.out_first; second = l.out_second } in
    let x = tested s w o a h in
    let f = inverse_fits (text s) e l.payload l.first l.second x.fine.fews in
    rw x.answer (record { payload = omega (arith, f.0, length-take v.used l.buffer); used = x.within; first = f.1; second = f.2 })

pub named_room_suffices : NamedRoomSuffices
unfolding result_of
named_room_suffices v e l k x f g h =
    let s : State = record { used = v.used; buffer = l.buffer } in
    let w : Whole ℕ = whole e l.payload l.first l.second in
    let o : Beside = record { cursor = v.cursor; changes = v.changes; payload = l.out_payload; first = l.out_first; second = l.out_second } in
    let d : Edited ℕ = doing w (text s) in
    let t1 = passed-by (text_ok s.buffer s.used) BadText _ _ 9 k (λ q. omega arith) (first_answer s w o (refused 9 k) h) in
    let t2 = passed-by (small_ok e l.first l.second) TooBig _ _ 9 k (λ q. omega arith) t1.1 in
    let t3 = passed-by (few_ok (text s) e l.payload l.first l.second) TooMany _ _ 9 k (λ q. omega arith) t2.1 in
    let t4 = passed-by (payload_ok e l.payload l.first) BadPayload _ _ 9 k (λ q. omega arith) t3.1 in
    let t7 = passed-by (within_ok (text s) e l.first l.second) BeyondRow _ _ 9 k (λ q. omega arith) t4.1 in
    let t8 = passed-by (room_ok (room_of l) d.text) NoRoom _ _ 9 k (λ q. omega arith) t7.1 in
    all-passed (record_ok (room_of l) d.inverse) NoRecord _ 9 k (recorded s w o t3.0 x f g) t8.1

-- an edit of the text is an edit by call, whatever the slices hold
pub step-accepted : (n : ℕ) (s : State) (w : Whole ℕ) (u : List ℕ) (i : Whole ℕ) → Held n s → Step n (text s) w u i → Accepted s w (next s w) i
step-accepted n s w u i k h o room =
    let d : Edited ℕ = doing w (text s) in
    let e : length s.buffer ≡ n = k.long in
    let f : Fine (length s.buffer) (text s) w = rw e h.fine in
    let b : s.used ≤ length s.buffer = omega (arith, k.within) in
    let r = recorded s w o f.fews room.payload room.first room.second in
    let x = fine_leaves s w o b f r in
    (applied_as (view_at s o) d, ap (λ (r : Outcome). r.answer) (fine_called s w o b f r), x.0, x.1 ∙ h.inverse)

-- what such a call leaves
pub next_text : (s : State) (w : Whole ℕ) → text (next s w) ≡ (doing w (text s)).text
next_text s w = renewed-text s.buffer s.used (doing w (text s)).text

pub next_held : (n : ℕ) (s : State) (w : Whole ℕ) → Held n s → Fine n (text s) w → Held n (next s w)
unfolding room_ok
next_held n s w k f =
    let u : List ℕ = (doing w (text s)).text in
    let h : length u ≤ n = leb→le (length u) n (T-left (leb (length u) n) (short u) f.rooms) in
    record { long = renewed-length s.buffer s.used u (omega (arith, k.long, k.within)) (omega (arith, k.long)) ∙ k.long; within = h }

-- and an edit accepted by call is one of the text
pub record Called (s : State) (w : Whole ℕ) (u : State) (i : Whole ℕ) : Type 0 where
  pub before : Held (length s.buffer) s
  pub fine : Fine (length s.buffer) (text s) w
  pub state : u ≡ next s w
  pub inverse : i ≡ (doing w (text s)).inverse

called-accepted : (s : State) (w : Whole ℕ) (u : State) (i : Whole ℕ) → Called s w u i → Accepted s w u i
called-accepted s w u i c =
    let n = length s.buffer in
    let d : Edited ℕ = doing w (text s) in
    let h : Accepted s w (next s w) d.inverse = step-accepted n s w d.text d.inverse c.before (record { fine = c.fine; text = refl; inverse = refl }) in
    subst (λ (v : State). Accepted s w v i) (sym c.state) (subst (λ (j : Whole ℕ). Accepted s w (next s w) j) (sym c.inverse) h)

pub once_called : (s : State) (w : Whole ℕ) (o : Beside) (a : Applied) → (called s w o).answer ≡ done a → Called s w (after a (called s w o)) (returned a (called s w o))
once_called s w o a e =
    let x = tested s w o a e in
    let y = fine_leaves s w o x.within x.fine x.recorded in
    record {
      before = record { long = refl; within = x.within };
      fine = x.fine;
      state = ap (λ (b : Applied). after b (called s w o)) x.answer ∙ y.0;
      inverse = ap (λ (b : Applied). returned b (called s w o)) x.answer ∙ y.1;
    }

pub with_called : (o : Beside) (s : State) (w : Whole ℕ) (u : State) (i : Whole ℕ) → AcceptedWith o s w u i → Called s w u i
with_called o s w u i h =
    subst (λ (v : State). Called s w v i) h.2 (subst (λ (j : Whole ℕ). Called s w (after h.0 (called s w o)) j) h.3 (once_called s w o h.0 h.1))

pub accepted-once : AcceptedOnce
accepted-once o s w u i h = called-accepted s w u i (with_called o s w u i h)

pub refused_number : (s : State) (w : Whole ℕ) (o : Beside) (n k : ℕ) → (called s w o).answer ≡ refused n k → 0 < n
refused_number s w o n k e = first_number _ _ n k (first_answer s w o (refused n k) e)

-- `undoable` says yes only where the kind and its conditions are those of demand 3
pub said_undoable : (s : State) (w : Whole ℕ) (o : Beside) → undoable (view_at s o) w.edit (lent_at s w o) ≡ done true → T (is_undoable (text s) w.edit)
unfolding undoable
said_undoable s w o e =
    let t1 = passed (text_ok s.buffer s.used) _ _ _ _ e in
    let t2 = passed (small_ok w.edit w.first w.second) _ _ _ _ t1.1 in
    let t3 = passed (few_ok (text s) w.edit w.payload w.first w.second) _ _ _ _ t2.1 in
    let t4 = passed (payload_ok w.edit w.payload w.first) _ _ _ _ t3.1 in
    let z : done (is_undoable (text s) w.edit) ≡ done true = none_left _ _ t4.1 in
    let b : true ≡ is_undoable (text s) w.edit = cc in
    subst T b tt
