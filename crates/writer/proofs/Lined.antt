-- A frame's bytes as a line, or the refusal.
use mathlib.Core.Path.{◌≡◌, refl, sym, ap, ◌∙◌}
use mathlib.Core.Bool.{Bool, true, false, cond, not}
use mathlib.Core.List.{List, [], ◌∷◌, ◌++◌}
use Prim.Native.Nat.{ℕ, ◌+◌, ◌-◌, ◌≤◌, ◌<◌, min}
use native.Mathlib.Nat.{sub-zero}
use native.Mathlib.Omega.{arith}
use borrow.Author.Tests.{ltb-true, ltb-false, not-true, not-false, le-leb, lt-leb}
use lib.Dec.{ltb}
use lib.ListN.{length, take, drop, set, length-set, length-append, length-take, length-drop, drop_of_length-le}
use lib.Seq.{paste, take_at}
use Rattle.std.specs.Prelude.{Err}
use Rattle.utf8.specs.declared.EncodeError.{EncodeError}
use Rattle.utf8.specs.declared.EncodeError.TheVariants as encode_error
use Rattle.utf8.specs.Answers.{paper_encoded}
use Rattle.edit.specs.Call.{paper}
use Rattle.edit.specs.Errors.{encode_refusal}
use Rattle.promise.specs.Paper.{Paper, done, refused}
use Rattle.promise.specs.Slices.{over}
use Rattle.promise.proofs.Lists.{part-pasted}
use Rattle.utf8.specs.Reading.{all_scalar, writing}
use Rattle.utf8.specs.Calls.{Outcome, outcome, stored, encoded, octet_count}
use Rattle.utf8.proofs.Writings.{counted-done}
use Rattle.edit.specs.declared.Edit.{Edit}
use Rattle.edit.specs.Edits.{whole}
use Rattle.select.specs.declared.Sel.{Sel}
use Rattle.hexline.specs.Digits.{hexed}
use Rattle.hexline.specs.Calls.{digits_into}
use Rattle.hexline.proofs.Pairs.{hexed-length}
use Rattle.frame.specs.Format.{Frame, text, mark, edit, edit_bytes, frame_bytes, has_bytes, has_frame, edit_chars, frame_chars}
use Rattle.frame.specs.Numbers.{position}
use Rattle.frame.specs.Writes.{line_of}
use Rattle.writer.specs.Calls.{line_into, written_into}
use Rattle.frame.specs.Sizes.{size_of}
use Rattle.frame_bytes.proofs.Pasted.{first_put, behind}
use Rattle.frame_bytes.proofs.Listed.{counted-bad}
use Rattle.writer.proofs.Measured.{edit_length}

-- what the digits of a frame's bytes leave
pub digits_stored : (bs out : List ℕ) (a : Paper ℕ) (t : List ℕ) → length bs ≤ 18_432 → outcome a t ≡ digits_into bs out → outcome a t ≡ stored (hexed bs) out
unfolding digits_into
digits_stored bs out a t h e = let m : length (hexed bs) ≤ 36_864 = omega (arith, hexed-length bs) in e ∙ rw (le-leb (length (hexed bs)) 36_864 m)

-- what an answer of `encode` says
module _ (cs out y : List ℕ) where
  pub encode_done : (n : ℕ) → outcome (done n) y ≡ encoded cs out
      → (all_scalar cs ≡ true) × (length (writing cs) ≡ n) × (n ≤ length out) × (y ≡ over (writing cs) out)
  unfolding encoded stored
  encode_done n e = go (all_scalar cs) e
    where
      fits : (b : Bool) → ltb (length out) (length (writing cs)) ≡ b
          → outcome (done n) y ≡ cond b (outcome (refused 8 0) out) (outcome (done (length (writing cs))) (over (writing cs) out))
          → (length (writing cs) ≡ n) × (n ≤ length out) × (y ≡ over (writing cs) out)
      fits true r e = let z : ◌≡◌ {A = ℕ} 0 1 = cc (ap (λ (o : Outcome). o.answer) e) in absurd (omega arith)
      fits false r e =
          let a : done n ≡ done (length (writing cs)) = ap (λ (o : Outcome). o.answer) e in
          let l : length (writing cs) ≡ n = cc in
          (l, omega (arith, ltb-false (length out) (length (writing cs)) r), ap (λ (o : Outcome). o.out) e)

      go : (b : Bool) → outcome (done n) y ≡ cond b (stored (writing cs) out) (outcome (refused 1 0) out)
          → (b ≡ true) × (length (writing cs) ≡ n) × (n ≤ length out) × (y ≡ over (writing cs) out)
      go true e = let f = fits (ltb (length out) (length (writing cs))) refl e in (refl, f.0, f.1, f.2)
      go false e = let z : ◌≡◌ {A = ℕ} 0 1 = cc (ap (λ (o : Outcome). o.answer) e) in absurd (omega arith)

  pub encode_bad : outcome (refused 1 0) y ≡ encoded cs out → all_scalar cs ≡ false
  unfolding encoded stored
  encode_bad e = go (all_scalar cs) (ltb (length out) (length (writing cs))) e
    where
      go : (b c : Bool) → outcome (refused 1 0) y ≡ cond b (cond c (outcome (refused 8 0) out) (outcome (done (length (writing cs))) (over (writing cs) out))) (outcome (refused 1 0) out) → b ≡ false
      go true true e = let z : ◌≡◌ {A = Paper ℕ} (refused 1 0) (refused 8 0) = ap (λ (o : Outcome). o.answer) e in let q : ◌≡◌ {A = ℕ} 1 8 = cc in absurd (omega arith)
      go true false e = let z : ◌≡◌ {A = ℕ} 0 1 = cc (ap (λ (o : Outcome). o.answer) e) in absurd (omega arith)
      go false c e = refl

  pub encode_long : outcome (refused 8 0) y ≡ encoded cs out → (all_scalar cs ≡ true) × (length out < length (writing cs))
  unfolding encoded stored
  encode_long e = go (all_scalar cs) (ltb (length out) (length (writing cs))) refl e
    where
      go : (b c : Bool) → ltb (length out) (length (writing cs)) ≡ c
          → outcome (refused 8 0) y ≡ cond b (cond c (outcome (refused 8 0) out) (outcome (done (length (writing cs))) (over (writing cs) out))) (outcome (refused 1 0) out)
          → (b ≡ true) × (length out < length (writing cs))
      go true true r e = (refl, ltb-true (length out) (length (writing cs)) r)
      go true false r e = let z : ◌≡◌ {A = ℕ} 0 1 = cc (ap (λ (o : Outcome). o.answer) e) in absurd (omega arith)
      go false c r e = let z : ◌≡◌ {A = Paper ℕ} (refused 8 0) (refused 1 0) = ap (λ (o : Outcome). o.answer) e in let q : ◌≡◌ {A = ℕ} 8 1 = cc in absurd (omega arith)

-- the front of a slice, as it is lent
pub front : (xs b t : List ℕ) (n : ℕ) → t ≡ over xs b → length xs ≡ n → take (n - 0) (drop 0 t) ≡ xs
front xs b t n e l = rw (sub-zero, e) (take_at xs (drop (length xs) b) n l)

module _ (f : Frame) (out : List ℕ) where
  pub no_frame : has_frame f ≡ false → outcome (refused 10 0) out ≡ written_into f out
  unfolding line_into line_of
  no_frame h = rw h

  module _ (h : has_frame f ≡ true) where
    pub no_text : all_scalar (frame_chars f) ≡ false → outcome (refused 1 0) out ≡ written_into f out
    unfolding line_into line_of
    no_text a = rw (h, a)

    module _ (a : all_scalar (frame_chars f) ≡ true) where
      pub no_line : 18_432 < length (frame_bytes f) → outcome (refused 8 0) out ≡ written_into f out
      unfolding line_into line_of
      no_line l = rw (h, a, lt-leb (length (hexed (frame_bytes f))) 36_864 (omega (arith, hexed-length (frame_bytes f))))

      pub a_line : (bs : List ℕ) (w : Outcome) → bs ≡ frame_bytes f → length bs ≤ 18_432 → w ≡ stored (hexed bs) out → w ≡ written_into f out
      unfolding line_into line_of
      a_line bs w e l q =
          let m : length (hexed (frame_bytes f)) ≤ 36_864 = omega (arith, hexed-length (frame_bytes f), ap length e) in
          rw (h, a, le-leb (length (hexed (frame_bytes f))) 36_864 m) (q ∙ rw e)

-- ---- a text, from what `encode` left behind the first byte

module _ (cs out b t y : List ℕ) (l : length b ≡ 18_432) (p : t ≡ set b 0 0x01) where
  rest_length : length (take (length t - 1) (drop 1 t)) ≡ 18_431
  rest_length =
      let m : length t ≡ 18_432 = ap length p ∙ simp length-set l in
      simp (length-take, length-drop) (omega arith)

  pub text-room : (n : ℕ) → outcome (done n) y ≡ encoded cs (take (length t - 1) (drop 1 t)) → n + 1 ≤ 18_432
  text-room n e = omega (arith, (encode_done cs (take (length t - 1) (drop 1 t)) y n e).2, rest_length)

  text-over : (n : ℕ) → outcome (done n) y ≡ encoded cs (take (length t - 1) (drop 1 t)) → take 1 t ++ (y ++ drop (length t - 1) (drop 1 t)) ≡ over (0x01 ∷ writing cs) b
  text-over n e =
      behind (0x01 ∷ []) (writing cs) b t (take 1 t ++ (y ++ drop (length t - 1) (drop 1 t))) 1 (length (writing cs)) refl refl
      (p ∙ first_put b 0x01 (omega arith)) (part-pasted t (writing cs) y 1 (encode_done cs (take (length t - 1) (drop 1 t)) y n e).3)

  pub text-end : (n : ℕ) → outcome (done n) y ≡ encoded cs (take (length t - 1) (drop 1 t)) → n + 1 ≤ length (take 1 t ++ (y ++ drop (length t - 1) (drop 1 t)))
  text-end n e =
      let r : List ℕ = drop (length (0x01 ∷ writing cs)) b in
      omega (arith, ap length (text-over n e), length-append (0x01 ∷ writing cs) r, (encode_done cs (take (length t - 1) (drop 1 t)) y n e).1)

  pub text-line : (n : ℕ) (w : Outcome) → outcome (done n) y ≡ encoded cs (take (length t - 1) (drop 1 t))
      → w ≡ stored (hexed (take (n + 1 - 0) (drop 0 (take 1 t ++ (y ++ drop (length t - 1) (drop 1 t)))))) out → w ≡ written_into (text cs) out
  unfolding has_frame frame_chars frame_bytes
  text-line n w e q =
      let d = encode_done cs (take (length t - 1) (drop 1 t)) y n e in
      let u : List ℕ = take 1 t ++ (y ++ drop (length t - 1) (drop 1 t)) in
      let g : take (n + 1 - 0) (drop 0 u) ≡ 0x01 ∷ writing cs = front (0x01 ∷ writing cs) b u (n + 1) (text-over n e) (omega arith) in
      a_line (text cs) out refl d.0 (take (n + 1 - 0) (drop 0 u)) w g (omega (arith, ap length g, text-room n e)) q

  pub text-bad : outcome (refused 1 0) y ≡ encoded cs (take (length t - 1) (drop 1 t)) → outcome (refused 1 0) out ≡ written_into (text cs) out
  unfolding has_frame frame_chars
  text-bad e = no_text (text cs) out refl (encode_bad cs (take (length t - 1) (drop 1 t)) y e)

  pub text-long : outcome (refused 8 0) y ≡ encoded cs (take (length t - 1) (drop 1 t)) → outcome (refused 8 0) out ≡ written_into (text cs) out
  unfolding has_frame frame_chars frame_bytes
  text-long e =
      let d = encode_long cs (take (length t - 1) (drop 1 t)) y e in
      no_line (text cs) out refl d.0 (omega (arith, d.1, rest_length))

  pub text_refused : (e : EncodeError) → outcome (paper_encoded (Err e)) y ≡ encoded cs (take (length t - 1) (drop 1 t)) → outcome (paper (Err (encode_refusal e))) out ≡ written_into (text cs) out
  text_refused encode_error.BadText e = text-bad e
  text_refused encode_error.NoRoom e = text-long e

-- ---- a mark

pub mark_line_lem : (s : Sel) (out b t u : List ℕ) (w : Outcome) → length b ≡ 17 → t ≡ paste (set b 0 0x02) 1 (position s.anchor) 8
    → u ≡ paste t 9 (position s.head) 8 → w ≡ stored (hexed u) out → w ≡ written_into (mark s) out
unfolding has_frame frame_chars frame_bytes all_scalar
mark_line_lem s out b t u w l e f q =
    let o : u ≡ over (0x02 ∷ (position s.anchor ++ position s.head)) b =
    behind (0x02 ∷ position s.anchor) (position s.head) b t u 9 8 refl refl
    (behind (0x02 ∷ []) (position s.anchor) b (set b 0 0x02) t 1 8 refl refl (first_put b 0x02 (omega arith)) e) f in
    let h : length b ≤ 17 = omega arith in
    let z : drop 17 b ≡ [] = drop_of_length-le b h in
    let g : u ≡ 0x02 ∷ (position s.anchor ++ position s.head) = o ∙ ap (λ (r : List ℕ). (0x02 ∷ (position s.anchor ++ position s.head)) ++ r) z in
    a_line (mark s) out refl refl u w g (omega (arith, ap length g)) q

-- ---- an edit

module _ (e : Edit) (x f s out : List ℕ) where
  pub edit_none : (r : Bool) → r ≡ has_bytes e x f s → not r ≡ true → outcome (refused 10 0) out ≡ written_into (edit (whole e x f s)) out
  unfolding has_frame
  edit_none r q n = no_frame (edit (whole e x f s)) out (sym q ∙ not-true r n)

  module _ (r : Bool) (q : r ≡ has_bytes e x f s) (n : not r ≡ false) where
    has : has_bytes e x f s ≡ true
    has = sym q ∙ not-false r n

    pub edit_bad : refused 1 0 ≡ octet_count (edit_chars e x) → outcome (refused 1 0) out ≡ written_into (edit (whole e x f s)) out
    unfolding has_frame frame_chars
    edit_bad c = no_text (edit (whole e x f s)) out has (counted-bad (edit_chars e x) c)

    -- o octets counted, and k bytes
    module _ (o k : ℕ) (c : done o ≡ octet_count (edit_chars e x)) (m : k ≡ min (size_of e (length f) o) 18_433) where
      size : length (edit_bytes e x f s) ≡ size_of e (length f) o
      size = edit_length e x f s has ∙ ap (λ (i : ℕ). size_of e (length f) i) (counted-done (edit_chars e x) o c).1

      pub edit_long : 18_432 < k → outcome (refused 8 0) out ≡ written_into (edit (whole e x f s)) out
      unfolding has_frame frame_chars frame_bytes
      edit_long l = no_line (edit (whole e x f s)) out has (counted-done (edit_chars e x) o c).0 (omega (arith, size))

      pub edit_asked : k ≤ 18_432 → (has_bytes e x f s ≡ true) × (all_scalar (edit_chars e x) ≡ true) × (size_of e (length f) (length (writing (edit_chars e x))) ≤ 18_432)
      edit_asked l =
          let d = counted-done (edit_chars e x) o c in
          let z : size_of e (length f) o ≤ 18_432 = omega arith in
          (has, d.0, rw d.1 z)

      pub edit_line : (b t : List ℕ) (w : Outcome) → k ≤ 18_432 → t ≡ over (edit_bytes e x f s) b → w ≡ stored (hexed (take (k - 0) (drop 0 t))) out
          → w ≡ written_into (edit (whole e x f s)) out
      unfolding has_frame frame_chars frame_bytes
      edit_line b t w l p q =
          let g : take (k - 0) (drop 0 t) ≡ edit_bytes e x f s = front (edit_bytes e x f s) b t k p (omega (arith, size)) in
          a_line (edit (whole e x f s)) out has (counted-done (edit_chars e x) o c).0 (take (k - 0) (drop 0 t)) w g (omega (arith, ap length g, size)) q
