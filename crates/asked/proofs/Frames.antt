-- What the reader answered, for whoever asks for one frame.
use mathlib.Core.Path.{◌≡◌, refl, ap, ◌∙◌}
use mathlib.Core.Bool.{Bool, true, false, cond, ◌&&◌}
use mathlib.Core.List.{List, [], ◌∷◌, flatten}
use Prim.Native.Nat.{ℕ}
use native.Mathlib.Decide.{dec_lt}
use native.Mathlib.Omega.{arith}
use borrow.Author.Tests.{le-leb, lt-leb, lt-ltb, le-ltb}
use lib.Dec.{leb}
use lib.ListN.{length}
use Rattle.promise.specs.Paper.{Paper, done, refused}
use Rattle.promise.specs.Slices.{over}
use Rattle.utf8.specs.Calls.{outcome, stored}
use Rattle.edit.specs.declared.Edit.{Edit}
use Rattle.frame.specs.declared.Head.{Head}
use Rattle.frame.specs.declared.Head.TheVariants as as_head
use Rattle.frame.specs.Forms.{Form, malformed, text, mark, edit, head_of}
use Rattle.frame.specs.Reads.{Contents, chars, bad_from, contents, first_list, text_of, edit_of, read_form}
use Rattle.reader.specs.Calls.{Read, Filled, filled, frame_into, read_into, chars_into}
use Rattle.reader.specs.Calls as as_read
use Rattle.asked.specs.Calls.{chars_only, edit_only, text_into, edit_into}

abbrev pub is_text : Head → Bool
is_text as_head.Malformed = false
is_text as_head.Text = true
is_text (as_head.Mark m) = false
is_text (as_head.Edit e) = false

abbrev pub is_edit : Head → Bool
is_edit as_head.Malformed = false
is_edit as_head.Text = false
is_edit (as_head.Mark m) = false
is_edit (as_head.Edit e) = true

-- ---- a line that is another frame

pub text-else : (g : Form) (h : Head) → head_of g ≡ h → is_text h ≡ false → (x : List ℕ) → outcome (refused 10 0) x ≡ text_into g x
unfolding head_of text_into
text-else malformed h e n x = refl
text-else (text k) h e n x = let t : true ≡ false = ap is_text e ∙ n in let z : ◌≡◌ {A = ℕ} 0 1 = cc in absurd (omega arith)
text-else (mark m) h e n x = refl
text-else (edit d at ks u v) h e n x = refl

pub edit_else : (g : Form) (h : Head) → head_of g ≡ h → is_edit h ≡ false → (x f s : List ℕ) → filled (refused 10 0) x f s ≡ edit_into g x f s
unfolding head_of edit_into
edit_else malformed h e n x f s = refl
edit_else (text k) h e n x f s = refl
edit_else (mark m) h e n x f s = refl
edit_else (edit d at ks u v) h e n x f s = let t : true ≡ false = ap is_edit e ∙ n in let z : ◌≡◌ {A = ℕ} 0 1 = cc in absurd (omega arith)

-- ---- what is read of the frame that is asked for

chars_only_lem : (c : Contents) (x f s : List ℕ) → outcome (chars_only (read_into (text_of c) x f s).answer) (read_into (text_of c) x f s).payload ≡ chars_into c x
unfolding text_of read_into frame_into chars_into stored
chars_only_lem (chars xs) x f s =
    elim (dec_lt (length x) (length (flatten xs))) [
      | yes l ↦ rw (lt-leb (length (flatten xs)) (length x) l, lt-ltb (length x) (length (flatten xs)) l)
      | no n ↦ rw (le-leb (length (flatten xs)) (length x) (omega (arith, n)), le-ltb (length x) (length (flatten xs)) (omega (arith, n)))
    ]
chars_only_lem (bad_from k) x f s = refl

edit_kept : (b : Bool) (d : Edit) (n m k : ℕ) (x f s y i j : List ℕ)
    → edit_only (cond b (filled (done (as_read.edit d n m k)) y i j) (filled (refused 8 0) x f s)).answer ≡ (cond b (filled (done (as_read.edit d n m k)) y i j) (filled (refused 8 0) x f s)).answer
edit_kept true d n m k x f s y i j = refl
edit_kept false d n m k x f s y i j = refl

edit_only_lem : (d : Edit) (u v : List ℕ) (c : Contents) (x f s : List ℕ) → edit_only (read_into (edit_of d u v c) x f s).answer ≡ (read_into (edit_of d u v c) x f s).answer
unfolding edit_of read_into frame_into
edit_only_lem d u v (chars xs) x f s =
    let p = flatten xs in
    let q = first_list d xs u in
    edit_kept (leb (length p) (length x) && leb (length q) (length f) && leb (length v) (length s)) d (length p) (length q) (length v) x f s (over p x) (over q f) (over v s)
edit_only_lem d u v (bad_from k) x f s = refl

-- the slices x, f and s are y, i and j at exit
module _ (a : Paper Read) (x f s y i j : List ℕ) where
  pub text-asked : (g : Form) → head_of g ≡ as_head.Text → filled a y i j ≡ read_into (read_form g) x f s → outcome (chars_only a) y ≡ text_into g x
  unfolding head_of read_form text_into
  text-asked malformed h r = let z : ◌≡◌ {A = ℕ} 0 1 = cc in absurd (omega arith)
  text-asked (text k) h r = ap (λ (o : Filled). outcome (chars_only o.answer) o.payload) r ∙ chars_only_lem (contents 1 (k ∷ [])) x f s
  text-asked (mark m) h r = let z : ◌≡◌ {A = ℕ} 0 1 = cc in absurd (omega arith)
  text-asked (edit d at ks u v) h r = let z : ◌≡◌ {A = ℕ} 0 1 = cc in absurd (omega arith)

  pub edit_asked : (g : Form) (e : Edit) → head_of g ≡ as_head.Edit e → filled a y i j ≡ read_into (read_form g) x f s → filled (edit_only a) y i j ≡ edit_into g x f s
  unfolding head_of read_form edit_into
  edit_asked malformed e h r = let z : ◌≡◌ {A = ℕ} 0 1 = cc in absurd (omega arith)
  edit_asked (text k) e h r = let z : ◌≡◌ {A = ℕ} 0 1 = cc in absurd (omega arith)
  edit_asked (mark m) e h r = let z : ◌≡◌ {A = ℕ} 0 1 = cc in absurd (omega arith)
  edit_asked (edit d at ks u v) e h r =
      ap (λ (o : Filled). filled (edit_only o.answer) o.payload o.first o.second) r
      ∙ ap (λ (p : Paper Read). let o = read_into (edit_of d u v (contents at ks)) x f s in filled p o.payload o.first o.second) (edit_only_lem d u v (contents at ks) x f s)
