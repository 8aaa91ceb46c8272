-- The ways a line can go.
use mathlib.Core.Path.{◌≡◌, refl, ◌∙◌, ap}
use mathlib.Core.Bool.{Bool, true, false, cond}
use mathlib.Core.List.{List, [], ◌∷◌, flatten}
use Prim.Native.Nat.{ℕ, ◌≤◌, ◌<◌}
use native.Mathlib.Omega.{arith}
use borrow.Author.Tests.{ltb-false}
use lib.Dec.{ltb}
use lib.ListN.{length}
use Rattle.promise.specs.Paper.{Paper, done, refused}
use Rattle.promise.proofs.Bools.{clash}
use Rattle.text.specs.Text.{all_admissible}
use Rattle.edit.specs.declared.Applied.{Applied}
use Rattle.edit.specs.Edits.{Whole, whole}
use Rattle.edit.specs.Demand3.{called, after, returned, Accepted}
use Rattle.edit.proofs.Calls.{refused_number}
use Rattle.frame.specs.Format as format
use Rattle.frame.specs.Format.{frame_bytes}
use Rattle.frame.specs.Forms.{Form, malformed, text, mark, edit, line_form}
use Rattle.frame.specs.Reads.{Contents, chars, bad_from, contents, first_list, text_of, edit_of, read_form, frame_read}
use Rattle.place.specs.declared.Place.{Place}
use Rattle.place.specs.Places.{mark_ok, placed, seen}
use Rattle.printing.specs.Prints.{printed_as}
use Rattle.loading.specs.States.{State, text_in}
use Rattle.loading.specs.Loads.{Stepped, refuses, loaded, framed_by}
use Rattle.step.specs.Steps.{answered, edited, framed, sees, step}
use Rattle.step.proofs.Framing.{core}
use Rattle.step.proofs.Callings.{beside, edited-called, once, accepted-leaves}
use Rattle.step.proofs.TextLines.{Loaded, load}

-- the text's part is as it was, and a sound line that was seen is not forgotten
pub record Same (s u : State) : Type 0 where
  pub same_core : core u ≡ core s
  pub still_sound : s.place.sound ≡ true → u.place.sound ≡ true

-- an accepted edit
pub record Edits (s : State) (l : List ℕ) (x : Stepped) : Type 0 where
  pub edit_read_lem : Whole ℕ
  pub inverse : Whole ℕ
  pub reads : frame_read l ≡ done (format.edit edit_read_lem)
  pub takes : Accepted (core s) edit_read_lem (core x.state) inverse
  pub prints : x.printed ≡ printed_as (0 ∷ frame_bytes (format.edit inverse))
  pub sound : x.state.place.sound ≡ true

-- an accepted text
pub record Loads (s : State) (l : List ℕ) (x : Stepped) : Type 0 where
  pub chars_read : List ℕ
  pub reads : frame_read l ≡ done (format.text chars_read)
  pub first : s.place.sound ≡ false
  pub admitted : all_admissible chars_read ≡ true
  pub fits : length chars_read ≤ length s.buffer
  pub leaves : Loaded (length s.buffer) chars_read s.marks x

-- an edit or a text is accepted; or the text stays as it is, and nothing is printed, as for a mark, or a refusal
pub data Goes (s : State) (l : List ℕ) (x : Stepped) : Type 0 where
  edits : Edits s l x → Goes s l x
  loads : Loads s l x → Goes s l x
  keeps : Same s x.state → x.printed ≡ [] → Goes s l x
  refuses-by : Same s x.state → (n : ℕ) → 0 < n → x.printed ≡ printed_as (n ∷ []) → Goes s l x

module _ (s : State) (l : List ℕ) where
  refused_by : (p : Place) → (s.place.sound ≡ true → p.sound ≡ true) → (n : ℕ) → 0 < n → Goes s l (refuses (sees s p) n)
  refused_by p h n k = refuses-by (record { same_core = refl; still_sound = h }) n k refl

  text-goes : (p : Place) → s.place.sound ≡ false → (cs : List ℕ) → frame_read l ≡ done (format.text cs) → Goes s l (loaded (sees s p) cs)
  unfolding loaded
  text-goes p f cs r = go (all_admissible cs) (ltb (length s.buffer) (length cs)) refl refl
    where
      stays : s.place.sound ≡ true → p.sound ≡ true
      stays e = absurd (clash e f)

      go : (a b : Bool) → all_admissible cs ≡ a → ltb (length s.buffer) (length cs) ≡ b → Goes s l (loaded (sees s p) cs)
      go false b e k = rw e (refused_by p stays 1 (omega arith))
      go true true e k = rw (e, k) (refused_by p stays 8 (omega arith))
      go true false e k =
          let h : length cs ≤ length s.buffer = ltb-false (length s.buffer) (length cs) k in
          loads (record { chars_read = cs; reads = r; first = f; admitted = e; fits = h; leaves = load (length s.buffer) (sees s p) cs refl e h })

  edit_goes : (p : Place) → p.sound ≡ true → (w : Whole ℕ) → frame_read l ≡ done (format.edit w) → Goes s l (edited (sees s p) w)
  unfolding answered
  edit_goes p h w r = go (called (core s) w (beside (sees s p))).answer refl
    where
      go : (a : Paper Applied) → (called (core s) w (beside (sees s p))).answer ≡ a → Goes s l (edited (sees s p) w)
      go (done a) e =
          let o = called (core s) w (beside (sees s p)) in
          let k = once (sees s p) w a e in
          let x = accepted-leaves (sees s p) w (after a o) (returned a o) k in
          edits (record { edit_read_lem = w; inverse = returned a o; reads = r; takes = rw x.state k; prints = x.prints; sound = rw (edited-called (sees s p) w (done a) e) h })
      go (refused n k) e = rw (edited-called (sees s p) w (refused n k) e) (refused_by p (λ q. h) n (refused_number (core s) w (beside (sees s p)) n k e))

  form_goes : (g : Form) → line_form l ≡ g → Goes s l (framed (sees s (seen s.place (placed s.place (text_in s) g))) (read_form (placed s.place (text_in s) g)))
  unfolding placed seen read_form framed_by text_of edit_of
  form_goes malformed e = refused_by s.place (λ h. h) 10 (omega arith)
  form_goes (text u) e = go s.place.sound refl (contents 1 (u ∷ [])) refl
    where
      go : (b : Bool) → s.place.sound ≡ b → (c : Contents) → contents 1 (u ∷ []) ≡ c
          → Goes s l (framed (sees s (seen s.place (cond b malformed (text u)))) (read_form (cond b malformed (text u))))
      go true f c k = refused_by s.place (λ h. h) 10 (omega arith)
      go false f (chars xs) k = rw k (text-goes (seen s.place (text u)) f (flatten xs) (ap read_form e ∙ ap text_of k))
      go false f (bad_from j) k = rw k (refused_by (seen s.place (text u)) (λ h. refl) 5 (omega arith))
  form_goes (mark m) e = go (mark_ok s.place (text_in s) m)
    where
      go : (b : Bool) → Goes s l (framed (sees s (seen s.place (cond b (mark m) malformed))) (read_form (cond b (mark m) malformed)))
      go true = keeps (record { same_core = refl; still_sound = λ h. refl }) refl
      go false = refused_by s.place (λ h. h) 10 (omega arith)
  form_goes (edit d at ks f q) e = go (contents at ks) refl
    where
      go : (c : Contents) → contents at ks ≡ c → Goes s l (framed (sees s (seen s.place (edit d at ks f q))) (edit_of d f q (contents at ks)))
      go (chars xs) k = rw k (edit_goes (seen s.place (edit d at ks f q)) refl (whole d (flatten xs) (first_list d xs f) q) (ap read_form e ∙ ap (edit_of d f q) k))
      go (bad_from j) k = rw k (refused_by (seen s.place (edit d at ks f q)) (λ h. refl) 5 (omega arith))

  pub line-goes : Goes s l (step s l)
  unfolding step
  line-goes = form_goes (line_form l) refl
