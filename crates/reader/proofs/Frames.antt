-- What a frame of each kind is read as, by its head.
use mathlib.Core.Path.{◌≡◌, sym, ap, ◌∙◌}
use mathlib.Core.Bool.{Bool, true}
use mathlib.Core.List.{List, [], ◌∷◌, map, flatten}
use Prim.Native.Nat.{ℕ, ◌-◌, ◌≤◌}
use lib.ListN.{length, take, drop}
use Rattle.promise.specs.Paper.{Paper, done, refused}
use Rattle.promise.proofs.Lists.{tail_whole}
use Rattle.text.specs.declared.Position.{Position}
use Rattle.text.specs.declared.Row.{Row}
use Rattle.edit.specs.declared.MotionKind.{MotionKind}
use Rattle.edit.specs.declared.Edit.{Edit}
use Rattle.edit.specs.declared.Edit.TheVariants.{InsertChar, InsertStr, DeleteRange, JoinLines, SplitLines, Replace, InsertBlock, DeleteBlockChunks}
use Rattle.edit.specs.Edits.{whole}
use Rattle.select.specs.declared.Sel.{Sel}
use Rattle.frame.specs.declared.Head.TheVariants as as_head
use Rattle.frame.specs.Format.{Frame}
use Rattle.frame.specs.Format as format
use Rattle.frame.specs.Forms.{edit, columns_in, flags_in, cut, is_cut, strings_in, widths_in, pads_in, form_of, head_of}
use Rattle.frame.specs.Reads.{contents, first_list, text_of, edit_of, read_form}
use Rattle.frame.proofs.Heads.{form_by-head}
use Rattle.reader.specs.Calls.{Filled, read_into, strings_of}

-- the bytes from a on, as they are lent
abbrev pub lent : List ℕ → ℕ → List ℕ
lent b a = take (length b - a) (drop a b)

-- an edit with one string, which starts at byte a
abbrev pub StringFrame : List ℕ → Edit → ℕ → Type 0
StringFrame b e a = (a ≤ length b) × ((xs : List (List ℕ)) → first_list e xs [] ≡ []) × (edit_of e [] [] (contents a (drop a b ∷ [])) ≡ read_form (form_of b))

-- an edit with the lists f and s, which are found in the bytes from a on
abbrev pub ListFrame : List ℕ → Edit → ℕ → (List ℕ → List ℕ) → (List ℕ → List ℕ) → Type 0
ListFrame b e a f s = (a ≤ length b) × (done (format.edit (whole e [] (f (lent b a)) (s (lent b a)))) ≡ read_form (form_of b))

abbrev pub BlockFrame : List ℕ → Edit → Type 0
BlockFrame b e =
    (9 ≤ length b)
    × (is_cut (strings_in (lent b 9)) ≡ true)
    × ((xs : List (List ℕ)) → first_list e xs [] ≡ map length xs)
    × (edit_of e [] [] (contents 13 (strings_of (strings_in (lent b 9)))) ≡ read_form (form_of b))

-- a frame that is read as q goes to the slices as q does
pub read_by : (z : Filled) (r q : Paper Frame) (x f s : List ℕ) → z ≡ read_into r x f s → r ≡ q → z ≡ read_into q x f s
read_by z r q x f s e w = e ∙ ap (λ (p : Paper Frame). read_into p x f s) w

module _ (b : List ℕ) where
  pub read_malformed : as_head.Malformed ≡ head_of (form_of b) → refused 10 0 ≡ read_form (form_of b)
  unfolding read_form
  read_malformed h = rw (form_by-head b as_head.Malformed (sym h))

  pub read_as_text : as_head.Text ≡ head_of (form_of b) → (1 ≤ length b) × (text_of (contents 1 (drop 1 b ∷ [])) ≡ read_form (form_of b))
  unfolding read_form
  read_as_text h = let w = form_by-head b as_head.Text (sym h) in (w.0, rw w.1)

  pub read_as_mark : (m : Sel) → as_head.Mark m ≡ head_of (form_of b) → done (format.mark m) ≡ read_form (form_of b)
  unfolding read_form
  read_as_mark m h = rw (form_by-head b (as_head.Mark m) (sym h))

block_of : (b : List ℕ) (p : Position) (ks : List (List ℕ)) → strings_in (lent b 9) ≡ cut ks → form_of b ≡ edit (InsertBlock p) 13 ks [] []
    → edit_of (InsertBlock p) [] [] (contents 13 (strings_of (strings_in (lent b 9)))) ≡ read_form (form_of b)
unfolding read_form strings_of
block_of b p ks c f = rw (c, f)

module _ (b : List ℕ) (e : Edit) (h : head_of (form_of b) ≡ as_head.Edit e) where
  pub no_insert-char : (p : Position) → e ≡ InsertChar p → ⊥
  no_insert-char p q = form_by-head b (as_head.Edit (InsertChar p)) (h ∙ ap as_head.Edit q)

  pub read_insert : (p : Position) → e ≡ InsertStr p → StringFrame b e 9
  unfolding read_form first_list
  read_insert p q = let w = form_by-head b (as_head.Edit (InsertStr p)) (h ∙ ap as_head.Edit q) in (w.0, λ xs. rw q, rw (q, w.1))

  pub read_delete : (p r : Position) (k : MotionKind) → e ≡ DeleteRange p r k → done (format.edit (whole e [] [] [])) ≡ read_form (form_of b)
  unfolding read_form edit_of contents first_list flatten
  read_delete p r k q = let w = form_by-head b (as_head.Edit (DeleteRange p r k)) (h ∙ ap as_head.Edit q) in rw (q, w)

  pub read_join : (r : Row) (n : ℕ) (t : Bool) → e ≡ JoinLines r n t → done (format.edit (whole e [] [] [])) ≡ read_form (form_of b)
  unfolding read_form edit_of contents first_list flatten
  read_join r n t q = let w = form_by-head b (as_head.Edit (JoinLines r n t)) (h ∙ ap as_head.Edit q) in rw (q, w)

  pub read_replace : (p r : Position) → e ≡ Replace p r → StringFrame b e 17
  unfolding read_form first_list
  read_replace p r q = let w = form_by-head b (as_head.Edit (Replace p r)) (h ∙ ap as_head.Edit q) in (w.0, λ xs. rw q, rw (q, w.1))

  pub read_split : (r : Row) → e ≡ SplitLines r → ListFrame b e 5 columns_in flags_in
  unfolding read_form edit_of contents first_list flatten
  read_split r q = let w = form_by-head b (as_head.Edit (SplitLines r)) (h ∙ ap as_head.Edit q) in (w.0, rw (tail_whole b 5, q, w.2))

  pub read_block : (p : Position) → e ≡ InsertBlock p → BlockFrame b e
  unfolding first_list is_cut
  read_block p q =
      let w = form_by-head b (as_head.Edit (InsertBlock p)) (h ∙ ap as_head.Edit q) in
      let c : strings_in (lent b 9) ≡ cut w.1 = ap strings_in (tail_whole b 9) ∙ w.2 in
      (w.0, rw c, λ xs. rw q, rw q (block_of b p w.1 c w.3))

  pub read_chunked : (p : Position) → e ≡ DeleteBlockChunks p → ListFrame b e 9 widths_in pads_in
  unfolding read_form edit_of contents first_list flatten
  read_chunked p q = let w = form_by-head b (as_head.Edit (DeleteBlockChunks p)) (h ∙ ap as_head.Edit q) in (w.0, rw (tail_whole b 9, q, w.2))
