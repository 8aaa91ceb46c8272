-- An edit line has at most as many characters as bytes, a quarter as many chunks or a fifth as many columns, and is not refused where the
-- slices have room for those.
use mathlib.Core.Path.{◌≡◌, refl, sym, ap, ◌∙◌}
use mathlib.Core.Bool.{Bool, true, false, cond}
use mathlib.Core.List.{List, [], ◌∷◌, map, flatten}
use Prim.Native.Nat.{ℕ, zero, suc, ◌+◌, ◌*◌, ◌≤◌}
use native.Mathlib.Omega.{arith}
use borrow.Author.Tests.{leb-true}
use lib.Dec.{leb, eqb}
use lib.ListN.{length, take, drop, length-append, length-take, length-drop, length-map, replicate, length-replicate}
use lib.Seq.{take_at}
use Rattle.promise.specs.Paper.{Paper, done, refused}
use Rattle.promise.specs.Slices.{over}
use Rattle.promise.proofs.Bools.{both}
use Rattle.utf8.specs.Reading.{writing}
use Rattle.edit.specs.declared.Edit.{Edit}
use Rattle.edit.specs.declared.Edit.TheVariants.{InsertChar, InsertStr, DeleteRange, JoinLines, SplitLines, Replace, InsertBlock, DeleteBlockChunks}
use Rattle.edit.specs.Edits.{Whole, whole}
use Rattle.select.specs.declared.Sel.{Sel}
use Rattle.hexline.specs.Digits.{digit_limit, unhexed, paired, line_ok}
use Rattle.hexline.proofs.Pairs.{unhexed-length}
use Rattle.frame.specs.declared.Head.TheVariants as as_head
use Rattle.frame.specs.Numbers.{number_in}
use Rattle.frame.specs.Format.{Frame}
use Rattle.frame.specs.Format as format
use Rattle.frame.specs.Forms.{Form, malformed, edit, broken, cut, before, strings_from, columns_in, flags_in, widths_in, pads_in, form_of, head_of, line_form}
use Rattle.frame.specs.Reads.{Contents, chars, bad_from, contents, first_list, edit_of, read_form, frame_read}
use Rattle.frame.proofs.Items.{length-columns, length-flags, length-widths, length-pads}
use Rattle.frame.proofs.Heads.{Said, form_by-head}
use Rattle.frame.proofs.RoundStrings.{one-flat, before-cut, contents-written}
use Rattle.reader.specs.Calls.{Filled, Read, text, mark, edit as edit_read, filled, read_into}
use Rattle.reader.proofs.Behinds.{written-more}
use Rattle.reader.proofs.Rooms.{edit_fits}

-- ---- strings behind their lengths

cut_none : (ks : List (List ℕ)) → cut [] ≡ cut ks → ks ≡ []
cut_none ks e = cc

strings_short : (n : ℕ) (s : List ℕ) (ks : List (List ℕ)) → strings_from n s ≡ cut ks → 4 * length ks + length (flatten ks) ≤ length s
unfolding strings_from flatten
strings_short zero s ks e = rw (cut_none ks e) (omega arith)
strings_short (suc n) s ks e = go (eqb (length s) 0) (leb (4 + k) (length s)) refl e (strings_short n (drop (4 + k) s))
  where
    k : ℕ
    k = number_in s 0

    go : (a b : Bool) → leb (4 + k) (length s) ≡ b → cond a (cut []) (cond b (before (take k (drop 4 s)) (strings_from n (drop (4 + k) s))) broken) ≡ cut ks
        → ((js : List (List ℕ)) → strings_from n (drop (4 + k) s) ≡ cut js → 4 * length js + length (flatten js) ≤ length (drop (4 + k) s))
        → 4 * length ks + length (flatten ks) ≤ length s
    go true b q e h = rw (cut_none ks e) (omega arith)
    go false true q e h =
        let f = before-cut (take k (drop 4 s)) (strings_from n (drop (4 + k) s)) ks e in
        let r = h f.0 f.1 in
        rw (← f.2, length-append) (omega (arith, r, length-take k (drop 4 s), length-drop (4 + k) s, leb-true (4 + k) (length s) q))
    go false false q e h = let z : ◌≡◌ {A = ℕ} 0 1 = cc in absurd (omega arith)

flat-more : (xs : List (List ℕ)) → length (flatten xs) ≤ length (flatten (map writing xs))
unfolding flatten
flat-more [] = omega arith
flat-more (x ∷ xs) = let h = flat-more xs in simp length-append (omega (arith, written-more x))

-- ---- what is read of an edit line

-- x, f and s have room for an edit's payload and lists
abbrev pub Fits : List ℕ → List ℕ → List ℕ → Paper Frame → Type 0
Fits x f s (done (format.text cs)) = ⊥
Fits x f s (done (format.mark m)) = ⊥
Fits x f s (done (format.edit w)) = (length w.payload ≤ length x) × (length w.first ≤ length f) × (length w.second ≤ length s)
Fits x f s (refused n k) = Unit {0}

module _ (x f s : List ℕ) where
  fits_form : (g : Form) (e : Edit) (at : ℕ) (ks : List (List ℕ)) (i j : List ℕ) → g ≡ edit e at ks i j → length (flatten ks) ≤ length x
      → ((xs : List (List ℕ)) → length xs ≡ length ks → length (first_list e xs i) ≤ length f) → length j ≤ length s → Fits x f s (read_form g)
  unfolding read_form edit_of
  fits_form g e at ks i j q h k l = rw q (go (contents at ks) refl)
    where
      go : (c : Contents) → contents at ks ≡ c → Fits x f s (edit_of e i j c)
      go (chars xs) r =
          let w = (contents-written at ks xs r).0 in
          (omega (arith, flat-more xs, ap (λ (i : List (List ℕ)). length (flatten i)) w), k xs (sym (length-map xs writing) ∙ ap length w), l)
      go (bad_from k) r = tt

  module _ (b : List ℕ) (lx : length b ≤ length x) (lf : length b ≤ 4 * length f) (ls : length b ≤ 5 * length s) where
    fits : (e : Edit) → Said b (form_of b) (as_head.Edit e) → Fits x f s (read_form (form_of b))
    unfolding first_list flatten
    fits (InsertChar p) w = absurd w
    fits (InsertStr p) w =
        fits_form (form_of b) (InsertStr p) 9 (drop 9 b ∷ []) [] [] w.1 (omega (arith, ap length (one-flat (drop 9 b)), length-drop 9 b)) (λ xs q. omega arith) (omega arith)
    fits (DeleteRange p q k) w = fits_form (form_of b) (DeleteRange p q k) 0 [] [] [] w (omega arith) (λ xs q. omega arith) (omega arith)
    fits (JoinLines r n t) w = fits_form (form_of b) (JoinLines r n t) 0 [] [] [] w (omega arith) (λ xs q. omega arith) (omega arith)
    fits (SplitLines r) w =
        let c : List ℕ = drop 5 b in
        fits_form (form_of b) (SplitLines r) 0 [] (columns_in c) (flags_in c) w.2 (omega arith) (λ xs q. omega (arith, length-columns c, length-drop 5 b)) (omega (arith, length-flags c, length-drop 5 b))
    fits (Replace p q) w =
        fits_form (form_of b) (Replace p q) 17 (drop 17 b ∷ []) [] [] w.1 (omega (arith, ap length (one-flat (drop 17 b)), length-drop 17 b)) (λ xs q. omega arith) (omega arith)
    fits (InsertBlock p) w =
        let k = strings_short (length (drop 9 b)) (drop 9 b) w.1 w.2 in
        let d = length-drop 9 b in
        fits_form (form_of b) (InsertBlock p) 13 w.1 [] [] w.3 (omega arith) (λ xs q. omega (arith, length-map xs (length {A = ℕ}))) (omega arith)
    fits (DeleteBlockChunks p) w =
        let c : List ℕ = drop 9 b in
        fits_form (form_of b) (DeleteBlockChunks p) 0 [] (widths_in c) (pads_in c) w.2 (omega arith) (λ xs q. omega (arith, length-widths c, length-drop 9 b)) (omega (arith, length-pads c, length-drop 9 b))

-- slices with room for every edit line that is as long as l
abbrev pub Roomy : List ℕ → List ℕ → List ℕ → List ℕ → Type 0
Roomy l x f s = (length l ≤ 2 * length x) × (length l ≤ 8 * length f) × (length l ≤ 10 * length s)

module _ (l : List ℕ) (e : Edit) (h : head_of (line_form l) ≡ as_head.Edit e) where
  edit_ok : line_ok l ≡ true
  unfolding line_form head_of
  edit_ok = go (line_ok l) refl h
    where
      go : (b : Bool) → line_ok l ≡ b → head_of (cond b (form_of (unhexed l)) malformed) ≡ as_head.Edit e → line_ok l ≡ true
      go true q h = q
      go false q h = let z : ◌≡◌ {A = ℕ} 0 1 = cc in absurd (omega arith)

  pub line-fits : (x f s : List ℕ) → Roomy l x f s → Fits x f s (frame_read l)
  unfolding line_form
  line-fits x f s r =
      let n = unhexed-length l in
      rw edit_ok (fits x f s (unhexed l) (omega (arith, n, r.0)) (omega (arith, n, r.1)) (omega (arith, n, r.2)) e (form_by-head (unhexed l) (as_head.Edit e) (rw edit_ok at h)))

  edit_short : length l ≤ digit_limit
  edit_short = leb-true (length l) digit_limit (both (leb (length l) digit_limit) (paired l) edit_ok).0

  -- arrays of zeros with room for every edit line
  pub zeros_roomy : Roomy l (replicate 18_432 0) (replicate 4_608 0) (replicate 3_687 0)
  zeros_roomy = (
    omega (arith, edit_short, length-replicate {A = ℕ} 18_432 0),
    omega (arith, edit_short, length-replicate {A = ℕ} 4_608 0),
    omega (arith, edit_short, length-replicate {A = ℕ} 3_687 0),
  )

-- ---- what the reader answered

-- the front of a slice that w was stored to
over-front : (w b y : List ℕ) (n : ℕ) → y ≡ over w b → n ≡ length w → (n ≤ length y) × (take n y ≡ w)
over-front w b y n e q =
    (omega (arith, ap length e, length-append w (drop (length w) b)), rw e (take_at w (drop (length w) b) n (sym q)))

-- the fronts of the slices are what an edit line holds
abbrev pub Held : Paper Frame → Edit → List ℕ → ℕ → List ℕ → ℕ → List ℕ → ℕ → Type 0
Held p e x n f i s j =
    (n ≤ length x) × (i ≤ length f) × (j ≤ length s) × (p ≡ done (format.edit (whole e (take n x) (take i f) (take j s))))

-- from x, f and s to x', f' and s'
module _ (x f s x' f' s' : List ℕ) where
  abbrev pub Answers : Paper Frame → Paper Read → Type 0
  Answers p a = filled a x' f' s' ≡ read_into p x f s

  module _ (w : Whole ℕ) (m : Fits x f s (done (format.edit w))) (a : Paper Read) (q : Answers (done (format.edit w)) a) where
    whole-read : filled a x' f' s'
        ≡ filled (done (edit_read w.edit (length w.payload) (length w.first) (length w.second))) (over w.payload x) (over w.first f) (over w.second s)
    whole-read =
        q ∙ sym (edit_fits w.edit w.payload w.first w.second x f s m.0 m.1 m.2)

    answer : a ≡ done (edit_read w.edit (length w.payload) (length w.first) (length w.second))
    answer = ap (λ (r : Filled). r.answer) whole-read

  edit_held : (w : Whole ℕ) → Fits x f s (done (format.edit w)) → (e : Edit) (n i j : ℕ) → Answers (done (format.edit w)) (done (edit_read e n i j))
      → Held (done (format.edit w)) e x' n f' i s' j
  edit_held w m e n i j q =
      let a = answer w m (done (edit_read e n i j)) q in
      let r = whole-read w m (done (edit_read e n i j)) q in
      let k : e ≡ w.edit = cc in
      let X = over-front w.payload x x' n (ap (λ (z : Filled). z.payload) r) cc in
      let F = over-front w.first f f' i (ap (λ (z : Filled). z.first) r) cc in
      let S = over-front w.second s s' j (ap (λ (z : Filled). z.second) r) cc in
      (X.0, F.0, S.0, rw (k, X.1, F.1, S.1))

  not_done : (n k : ℕ) (r : Read) → refused n k ≡ done r → ⊥
  not_done n k r e = let z : ◌≡◌ {A = ℕ} 0 1 = cc in omega arith

  pub read_edit : (p : Paper Frame) → Fits x f s p → (e : Edit) (n i j : ℕ) → Answers p (done (edit_read e n i j)) → Held p e x' n f' i s' j
  unfolding read_into
  read_edit (done (format.text cs)) m e n i j q = absurd m
  read_edit (done (format.mark k)) m e n i j q = absurd m
  read_edit (done (format.edit w)) m e n i j q = edit_held w m e n i j q
  read_edit (refused a b) m e n i j q = absurd (not_done a b (edit_read e n i j) (ap (λ (r : Filled). r.answer) (sym q)))

  pub read_refused : (p : Paper Frame) → Fits x f s p → (n k : ℕ) → Answers p (refused n k) → p ≡ refused n k
  unfolding read_into
  read_refused (done (format.text cs)) m n k q = absurd m
  read_refused (done (format.mark c)) m n k q = absurd m
  read_refused (done (format.edit w)) m n k q = absurd (not_done n k (edit_read w.edit (length w.payload) (length w.first) (length w.second)) (answer w m (refused n k) q))
  read_refused (refused a b) m n k q =
      let e : refused n k ≡ refused a b = ap (λ (r : Filled). r.answer) q in
      let u : n ≡ a = cc in
      let v : k ≡ b = cc in
      rw (u, v)

  pub no_text : (p : Paper Frame) → Fits x f s p → (n : ℕ) → Answers p (done (text n)) → ⊥
  unfolding read_into
  no_text (done (format.text cs)) m n q = m
  no_text (done (format.mark c)) m n q = m
  no_text (done (format.edit w)) m n q = let a = answer w m (done (text n)) q in let z : ◌≡◌ {A = ℕ} 0 1 = cc in omega arith
  no_text (refused a b) m n q = not_done a b (text n) (ap (λ (r : Filled). r.answer) (sym q))

  pub no_mark : (p : Paper Frame) → Fits x f s p → (k : Sel) → Answers p (done (mark k)) → ⊥
  unfolding read_into
  no_mark (done (format.text cs)) m k q = m
  no_mark (done (format.mark c)) m k q = m
  no_mark (done (format.edit w)) m k q = let a = answer w m (done (mark k)) q in let z : ◌≡◌ {A = ℕ} 0 1 = cc in omega arith
  no_mark (refused a b) m k q = not_done a b (mark k) (ap (λ (r : Filled). r.answer) (sym q))
