-- One string of a frame, decoded to the payload.
use mathlib.Core.Path.{◌≡◌, refl, sym, ap, ◌∙◌}
use mathlib.Core.Bool.{Bool, true, false, cond}
use mathlib.Core.List.{List, [], ◌∷◌, flatten, append-nil}
use Prim.Native.Nat.{ℕ, ◌+◌, ◌-◌, ◌≤◌, ◌<◌}
use native.Mathlib.Decide.{dec_le}
use native.Mathlib.Omega.{arith}
use borrow.Author.Tests.{le-leb, lt-leb, lt-ltb}
use lib.Dec.{ltb}
use lib.ListN.{length, take, drop, length-append, length-drop}
use Rattle.std.specs.Prelude.{Err}
use Rattle.utf8.specs.declared.DecodeError.{DecodeError}
use Rattle.utf8.specs.declared.DecodeError.TheVariants as decode_error
use Rattle.utf8.specs.Answers.{paper_decoded}
use Rattle.edit.specs.Errors.{decode_refusal}
use Rattle.promise.specs.Paper.{Paper, done, refused}
use Rattle.promise.specs.Slices.{over}
use Rattle.promise.proofs.Lists.{tail_whole}
use Rattle.utf8.specs.Reading.{Reading, scalars, bad_at, reading}
use Rattle.utf8.specs.Calls.{Outcome, outcome, stored, decoded}
use Rattle.utf8.proofs.Theorems.{bad_places, stored-room}
use Rattle.edit.specs.declared.Edit.{Edit}
use Rattle.frame.specs.Reads.{Contents, chars, bad_from, ahead, contents, first_list, text_of, edit_of}
use Rattle.reader.specs.Calls.{paper_read, Read, text, edit, filled, frame_into, read_into, chars_into}
use Rattle.reader.proofs.Rooms.{edit_fits, payload_short}

-- a bad sequence starts within the string
pub bad_within : (s : List ℕ) (k : ℕ) → reading s ≡ bad_at k → k < length s
bad_within s k e = let b = bad_places s k e in let l = simp length-append at (ap length b.2) in omega arith

-- what decoding answers, with the offset of a bad sequence counted from the frame's start
abbrev pub from_start : ℕ → Reading → List ℕ → Outcome
from_start from (scalars cs) x = stored cs x
from_start from (bad_at k) x = outcome (refused 5 (from + k)) x

from_start_lem : (from : ℕ) (k x : List ℕ) → from_start from (reading k) x ≡ chars_into (contents from (k ∷ [])) x
unfolding chars_into contents ahead flatten
from_start_lem from k x = go (reading k)
  where
    go : (r : Reading) → from_start from r x ≡ chars_into (elim r [ scalars cs ↦ ahead cs (chars []) | bad_at j ↦ bad_from (from + j) ]) x
    go (scalars cs) = rw append-nil
    go (bad_at j) = refl

stored-good : (cs x t : List ℕ) (k : ℕ) → outcome (refused 5 k) t ≡ stored cs x → ⊥
unfolding stored
stored-good cs x t k e = go (ltb (length x) (length cs)) (ap (λ (o : Outcome). o.answer) e)
  where
    go : (b : Bool) → refused 5 k ≡ (cond b (outcome (refused 8 0) x) (outcome (done (length cs)) (over cs x))).answer → ⊥
    go true e = let z : ◌≡◌ {A = ℕ} 5 8 = cc in omega arith
    go false e = let z : ◌≡◌ {A = ℕ} 0 1 = cc in omega arith

decoded-bad : (r : Reading) (x t : List ℕ) (k : ℕ) → outcome (refused 5 k) t ≡ decoded r x → (r ≡ bad_at k) × (t ≡ x)
unfolding decoded
decoded-bad (scalars cs) x t k e = absurd (stored-good cs x t k e)
decoded-bad (bad_at j) x t k e =
    let a : ◌≡◌ {A = Paper ℕ} (refused 5 k) (refused 5 j) = ap (λ (o : Outcome). o.answer) e in
    let i : k ≡ j = cc in
    (ap bad_at (sym i), ap (λ (o : Outcome). o.out) e)

decoded-done : (r : Reading) (from n : ℕ) (x t : List ℕ) → outcome (done n) t ≡ decoded r x → outcome (done n) t ≡ from_start from r x
unfolding decoded
decoded-done (scalars cs) from n x t e = e
decoded-done (bad_at j) from n x t e =
    let a : done n ≡ refused 5 j = ap (λ (o : Outcome). o.answer) e in
    let z : ◌≡◌ {A = ℕ} 0 1 = cc in absurd (omega arith)

decoded-full : (r : Reading) (from : ℕ) (x t : List ℕ) → outcome (refused 8 0) t ≡ decoded r x → outcome (refused 8 0) t ≡ from_start from r x
unfolding decoded
decoded-full (scalars cs) from x t e = e
decoded-full (bad_at j) from x t e =
    let a : ◌≡◌ {A = Paper ℕ} (refused 8 0) (refused 5 j) = ap (λ (o : Outcome). o.answer) e in
    let z : ◌≡◌ {A = ℕ} 8 5 = cc in absurd (omega arith)

-- the bytes from `from` on, as they are lent, decoded from x to t
module _ (b : List ℕ) (from : ℕ) (x t : List ℕ) where
  abbrev pub Decoded : Paper ℕ → Type 0
  Decoded a = outcome a t ≡ decoded (reading (take (length b - from) (drop from b))) x

  abbrev pub FromStart : Paper ℕ → Type 0
  FromStart a = outcome a t ≡ chars_into (contents from (drop from b ∷ [])) x

  whole : decoded (reading (take (length b - from) (drop from b))) x ≡ decoded (reading (drop from b)) x
  whole = ap (λ (s : List ℕ). decoded (reading s) x) (tail_whole b from)

  pub from_done : (n : ℕ) → Decoded (done n) → FromStart (done n)
  from_done n e = decoded-done (reading (drop from b)) from n x t (e ∙ whole) ∙ from_start_lem from (drop from b) x

  pub from_full : Decoded (refused 8 0) → FromStart (refused 8 0)
  from_full e = decoded-full (reading (drop from b)) from x t (e ∙ whole) ∙ from_start_lem from (drop from b) x

  pub from_bad : (k : ℕ) → Decoded (refused 5 k) → FromStart (refused 5 (from + k))
  from_bad k e =
      let d = decoded-bad (reading (drop from b)) x t k (e ∙ whole) in
      rw d.1 (ap (λ (r : Reading). from_start from r x) (sym d.0) ∙ from_start_lem from (drop from b) x)

  pub from_within : (k : ℕ) → Decoded (refused 5 k) → from + k ≤ length b
  from_within k e =
      let d = decoded-bad (reading (drop from b)) x t k (e ∙ whole) in
      let w = simp length-drop at (bad_within (drop from b) k d.0) in omega arith

-- characters that are refused by 8
stored_short : (cs x : List ℕ) → length x < length cs → stored cs x ≡ outcome (refused 8 0) x
unfolding stored
stored_short cs x h = rw (lt-ltb _ _ h)

-- a text
abbrev pub as_text : Paper ℕ → Paper Read
as_text (done n) = done (text n)
as_text (refused n k) = refused n k

pub text-read : (c : Contents) (a : Paper ℕ) (x t f s : List ℕ) → outcome a t ≡ chars_into c x → filled (as_text a) t f s ≡ read_into (text_of c) x f s
unfolding chars_into text_of read_into frame_into
text-read (bad_from k) a x t f s e = ap (λ (o : Outcome). filled (as_text o.answer) o.out f s) e
text-read (chars xs) a x t f s e =
    elim (dec_le (length (flatten xs)) (length x)) [
      | yes h ↦ ap (λ (o : Outcome). filled (as_text o.answer) o.out f s) (e ∙ stored-room (flatten xs) x h) ∙ rw (le-leb _ _ h)
      | no h ↦
          (let k : length x < length (flatten xs) = omega arith in
          ap (λ (o : Outcome). filled (as_text o.answer) o.out f s) (e ∙ stored_short (flatten xs) x k) ∙ rw (lt-leb _ _ k))
    ]

-- an edit with a payload and no lists
abbrev pub as_edit : Edit → Paper ℕ → Paper Read
as_edit e (done n) = done (edit e n 0 0)
as_edit e (refused n k) = refused n k

pub string_read : (e : Edit) (c : Contents) (a : Paper ℕ) (x t f s : List ℕ) → ((xs : List (List ℕ)) → first_list e xs [] ≡ []) → outcome a t ≡ chars_into c x
    → filled (as_edit e a) t f s ≡ read_into (edit_of e [] [] c) x f s
unfolding chars_into edit_of read_into
string_read e (bad_from k) a x t f s l q = ap (λ (o : Outcome). filled (as_edit e o.answer) o.out f s) q
string_read e (chars xs) a x t f s l q =
    elim (dec_le (length (flatten xs)) (length x)) [
      | yes h ↦
          ap (λ (o : Outcome). filled (as_edit e o.answer) o.out f s) (q ∙ stored-room (flatten xs) x h)
          ∙ rw (l xs) (edit_fits e (flatten xs) [] [] x f s h (omega arith) (omega arith))
      | no h ↦
          (let k : length x < length (flatten xs) = omega arith in
          ap (λ (o : Outcome). filled (as_edit e o.answer) o.out f s) (q ∙ stored_short (flatten xs) x k)
          ∙ rw (l xs) (payload_short e (flatten xs) [] [] x f s k))
    ]

-- what is not decoded is no frame
pub text_refused : (e : DecodeError) (c : Contents) (x t f s : List ℕ) → outcome (paper_decoded (Err e)) t ≡ chars_into c x → filled (paper_read (Err (decode_refusal e))) t f s ≡ read_into (text_of c) x f s
text_refused (decode_error.BadUtf8 at) c x t f s q = text-read c (refused 5 at.0) x t f s q
text_refused decode_error.NoRoom c x t f s q = text-read c (refused 8 0) x t f s q

pub string_refused : (d : DecodeError) (e : Edit) (c : Contents) (x t f s : List ℕ) → ((xs : List (List ℕ)) → first_list e xs [] ≡ []) → outcome (paper_decoded (Err d)) t ≡ chars_into c x
    → filled (paper_read (Err (decode_refusal d))) t f s ≡ read_into (edit_of e [] [] c) x f s
string_refused (decode_error.BadUtf8 at) e c x t f s l q = string_read e c (refused 5 at.0) x t f s l q
string_refused decode_error.NoRoom e c x t f s l q = string_read e c (refused 8 0) x t f s l q
