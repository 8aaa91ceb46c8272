-- A line whose head is Text, as the reader answers it.
use mathlib.Core.Path.{◌≡◌, refl, sym, ap, ◌∙◌}
use mathlib.Core.Bool.{Bool, true, false, cond}
use mathlib.Core.List.{List, [], ◌∷◌, append-nil, flatten}
use Prim.Native.Nat.{ℕ, ◌+◌, ◌-◌, ◌≤◌}
use native.Mathlib.Nat.{sub-zero}
use native.Mathlib.Omega.{arith}
use borrow.Author.Tests.{leb-true, le-leb}
use lib.Dec.{leb}
use lib.ListN.{length, take, drop, length-append, length-drop}
use lib.Seq.{take-append_seam}
use Rattle.std.specs.Prelude.{Result}
use Rattle.edit.specs.declared.Refusal.{Refusal}
use Rattle.promise.specs.Paper.{Paper, done, refused}
use Rattle.promise.specs.Slices.{over}
use Rattle.promise.proofs.Bools.{both}
use Rattle.utf8.specs.Reading.{Reading, scalars, bad_at, reading}
use Rattle.utf8.specs.Calls.{scalars_of}
use Rattle.hexline.specs.Digits.{digit_limit, unhexed, paired, line_ok}
use Rattle.hexline.proofs.Pairs.{unhexed-length}
use Rattle.frame.specs.declared.Head.TheVariants as as_head
use Rattle.frame.specs.Format.{Frame}
use Rattle.frame.specs.Format as format
use Rattle.frame.specs.Forms.{malformed, text, form_of, line_form, head_of}
use Rattle.frame.specs.Reads.{ahead, contents, text_of, chars, bad_from, read_form, frame_read}
use Rattle.frame.proofs.Heads.{form_by-head}
use Rattle.reader.specs.declared.FrameRead.{FrameRead}
use Rattle.reader.specs.Calls.{Read, Filled, paper_read, filled, frame_into, read_into}
use Rattle.reader.specs.Calls as reads
use Rattle.reader.proofs.Behinds.{scalars_fewer}

-- a text's form has its UTF-8 behind the first of at most 18,432 bytes
text-form : (l : List ℕ) → head_of (line_form l) ≡ as_head.Text → (s : List ℕ) × (line_form l ≡ text s) × (length s ≤ 18_431)
unfolding line_form head_of
text-form l h = go (line_ok l) refl h
  where
    go : (b : Bool) → line_ok l ≡ b → head_of (cond b (form_of (unhexed l)) malformed) ≡ as_head.Text → (s : List ℕ) × (cond b (form_of (unhexed l)) malformed ≡ text s) × (length s ≤ 18_431)
    go true e h =
        let w = form_by-head (unhexed l) as_head.Text h in
        let k : length l ≤ digit_limit = leb-true (length l) digit_limit (both (leb (length l) digit_limit) (paired l) e).0 in
        (drop 1 (unhexed l), w.1, simp length-drop (omega (arith, unhexed-length l)))
    go false e h = let z : ◌≡◌ {A = ℕ} 0 1 = cc in absurd (omega arith)

-- a text of no more characters than a line has bytes, or 5
pub data TextRead : Paper Frame → Type 0 where
  whole : (cs : List ℕ) → length cs ≤ 18_431 → TextRead (done (format.text cs))
  broken : (k : ℕ) → TextRead (refused 5 k)

one-string : (s : List ℕ) → length s ≤ 18_431 → TextRead (text_of (contents 1 (s ∷ [])))
unfolding text_of contents ahead flatten scalars_of
one-string s h = go (reading s) refl
  where
    go : (r : Reading) → reading s ≡ r → TextRead (text_of (elim r [ scalars cs ↦ ahead cs (chars []) | bad_at j ↦ bad_from (1 + j) ]))
    go (scalars cs) e =
        let f : length cs ≤ length s = rw e at (scalars_fewer s (rw e refl)) in
        rw append-nil (whole cs (omega arith))
    go (bad_at j) e = broken (1 + j)

text-read : (l : List ℕ) → head_of (line_form l) ≡ as_head.Text → TextRead (frame_read l)
unfolding read_form
text-read l h = let w = text-form l h in rw w.1 (one-string w.0 w.2)

-- what the answer a tells of a line that is read as p, with y then in the payload's slice
abbrev pub Tells : Paper Frame → List ℕ → Paper Read → Type 0
Tells p y (done (reads.text n)) = (n ≤ length y) × (p ≡ done (format.text (take (n - 0) (drop 0 y))))
Tells p y (done (reads.mark m)) = ⊥
Tells p y (done (reads.edit e x f s)) = ⊥
Tells p y (refused n k) = p ≡ refused n k

module _ (x f s : List ℕ) (n : 18_431 ≤ length x) where
  tells : (p : Paper Frame) → TextRead p → (z : Filled) → z ≡ read_into p x f s → Tells p z.payload z.answer
  unfolding read_into frame_into
  tells p (whole cs h) z e =
      let q : z ≡ filled (done (reads.text (length cs))) (over cs x) f s = e ∙ rw (le-leb (length cs) (length x) (omega arith)) in
      let l : length cs ≤ length (over cs x) = rw length-append (omega arith) in
      let t : take (length cs - 0) (over cs x) ≡ cs = rw sub-zero (take-append_seam cs (drop (length cs) x)) in
      rw q (l, ap (λ (c : List ℕ). done (format.text c)) (sym t))
  tells p (broken k) z e = rw e refl

  -- r is the reader's answer, and y, g and u what is then in the slices
  pub told : (l y g u : List ℕ) (r v : Result FrameRead Refusal) → head_of (line_form l) ≡ as_head.Text → filled (paper_read r) y g u ≡ read_into (frame_read l) x f s → r ≡ v
      → Tells (frame_read l) y (paper_read v)
  told l y g u r v h e q =
      tells (frame_read l) (text-read l h) (filled (paper_read v) y g u) (ap {B = Filled} (λ (w : Result FrameRead Refusal). filled (paper_read w) y g u) (sym q) ∙ e)
