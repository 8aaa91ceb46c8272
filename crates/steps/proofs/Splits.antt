-- A split row is what its steps weave.
use mathlib.Core.Path.{◌≡◌, refl, sym, ap, ◌∙◌}
use mathlib.Core.Bool.{Bool, true, false, cond}
use mathlib.Core.List.{List, [], ◌∷◌, ◌++◌, append_assoc, append-nil}
use Prim.Native.Nat.{ℕ, zero, suc, ◌+◌, ◌-◌, ◌≤◌, min}
use native.Mathlib.Nat.{sub-zero, min-eq_left, min-eq_right}
use native.Mathlib.Decide.{dec_le}
use native.Mathlib.Omega.{arith}
use lib.ListN.{length, take, drop, get_or, length-append, length-drop, length-take, drop_of_length-le}
use lib.Seq.{take-append-le, drop-append-le, drop-drop, drop_at, take-length}
use Rattle.text.specs.Rows.{Line, line, lines, unlines, last_row}
use Rattle.edit.specs.Edits.{Made, unspace, split_first, split_row, split}
use Rattle.steps.specs.Steps.{Step, woven, passed}
use Rattle.steps.specs.Kinds.{first_at, behind, split_steps, split_at}
use Rattle.promise.proofs.Lists.{drop-take, take-both}
use Rattle.text.proofs.Broken.{unlines-append}
use Rattle.steps.proofs.Laws.{from_row_lem, row_cons, back}

module _ {A : Type 0} (lf sp : A → Bool) (made : Made A) where
  -- what is left of z is z without its first g
  pub unspace-drop : (f : ℕ) (z : List A) → (unspace lf sp made f z ≡ drop (length z - length (unspace lf sp made f z)) z) × (length z - length (unspace lf sp made f z) ≤ length z)
  unfolding unspace
  unspace-drop zero z = let e : length z - length z ≡ 0 = omega arith in (rw e, omega arith)
  unspace-drop (suc f) [] = (refl, omega arith)
  unspace-drop (suc f) (x ∷ s) = go (sp x)
    where
      go : (b : Bool) → (cond b s (x ∷ s) ≡ drop (length (x ∷ s) - length (cond b s (x ∷ s))) (x ∷ s)) × (length (x ∷ s) - length (cond b s (x ∷ s)) ≤ length (x ∷ s))
      go true = let e : suc (length s) - length s ≡ 1 = omega arith in (rw e, omega arith)
      go false = let e : suc (length s) - suc (length s) ≡ 0 = omega arith in (rw e, omega arith)

  drop-two : (c n : ℕ) (s : List A) → drop c (take n s) ≡ drop (min c n) (take n s)
  drop-two c n s = elim (dec_le c n) [ yes h ↦ rw (min-eq_left h) | no h ↦ (let k : n ≤ c = omega arith in rw (min-eq_right k, drop_of_length-le (take n s) {i = c} (omega (arith, length-take n s)), drop_of_length-le (take n s) {i = n} (omega (arith, length-take n s)))) ]

  -- the steps from j on are those from the first step on, behind what stands between
  from_first : (v : A) (b z : List A) (j n : ℕ) (R : List (Step A)) → n ≡ first_at (length b) R → j ≤ n → n ≤ length b
      → woven v (behind j R) (drop j (b ++ z)) ≡ drop j (take n b) ++ woven v (behind n R) (drop n (b ++ z))
  unfolding first_at behind woven
  from_first v b z j n [] e h k = rw (e, take-length b, drop-append-le j b z (omega arith), drop_at b z (length b) refl)
  from_first v b z j n (s ∷ ss) e h k =
      let X : List A = b ++ z in
      let m : s.keep - j ≡ n - j = omega arith in
      let o : s.keep - n ≡ 0 = omega arith in
      let q : take (n - j) (drop j X) ≡ drop j (take n b) = sym (drop-take j n X) ∙ ap (drop j) (take-append-le n b z k) in
      let u : j + (n - j + s.gone) ≡ n + s.gone = omega arith in
      let q₂ : n + (0 + s.gone) ≡ n + s.gone = omega arith in
      let w₁ : drop (n - j + s.gone) (drop j X) ≡ drop (n + s.gone) X = drop-drop (n - j + s.gone) j X ∙ ap (λ (i : ℕ). drop i X) u in
      let w₂ : drop (0 + s.gone) (drop n X) ≡ drop (n + s.gone) X = drop-drop (0 + s.gone) n X ∙ ap (λ (i : ℕ). drop i X) q₂ in
      rw (m, o, q, w₁, w₂)

  -- the rows of a split row: the first is the body's front, up to n, and what follows is what the steps weave from there
  pub record Split (b z : List A) (cs fs : List ℕ) : Type 0 where
    pub n_le : first_at (length b) (split_steps lf sp made b cs fs) ≤ length b
    pub after : List A
    pub rows : List (Line A)
    pub is : split_row lf sp made (line b z) cs fs ≡ line (take (first_at (length b) (split_steps lf sp made b cs fs)) b) after ∷ rows
    pub text : after ++ unlines rows ≡ woven made.break (behind (first_at (length b) (split_steps lf sp made b cs fs)) (split_steps lf sp made b cs fs)) (drop (first_at (length b) (split_steps lf sp made b cs fs)) (b ++ z))

  pub split-is : (b z : List A) (cs fs : List ℕ) → Split b z cs fs
  unfolding split_row split_first split_steps first_at behind woven unlines
  split-is b z [] fs = record { n_le = omega arith; after = z; rows = []; is = ap (λ (l : List A). line l z ∷ []) (sym (take-length b)); text = append-nil z ∙ sym (drop_at b z (length b) refl) }
  split-is b z (c ∷ cs) fs =
      let I = split-is b z cs (drop 1 fs) in
      let R : List (Step A) = split_steps lf sp made b cs (drop 1 fs) in
      let n : ℕ = first_at (length b) R in
      let f : ℕ = get_or fs 0 0 in
      let y : List A = drop c (take n b) in
      let a : ℕ = min c n in
      let g : ℕ = length y - length (unspace lf sp made f y) in
      let ly : length y ≡ n - c = omega (arith, length-drop c (take n b), length-take n b, I.n_le) in
      let gle : a + g ≤ n = omega (arith, (unspace-drop f y).1, ly) in
      let un : unspace lf sp made f y ≡ drop (a + g) (take n b) = (unspace-drop f y).0 ∙ ap (drop g) (drop-two c n b) ∙ drop-drop g a (take n b) in
      let z₀ : a - a ≡ 0 = omega arith in
      let z₁ : drop (0 + g) (drop a (b ++ z)) ≡ drop (a + g) (b ++ z) = let e : a + (0 + g) ≡ a + g = omega arith in drop-drop (0 + g) a (b ++ z) ∙ ap (λ (i : ℕ). drop i (b ++ z)) e in
      let w : unspace lf sp made f y ++ (I.after ++ unlines I.rows) ≡ woven made.break (behind (a + g) R) (drop (a + g) (b ++ z)) =
      ap (λ (l : List A). l ++ (I.after ++ unlines I.rows)) un ∙ ap (λ (l : List A). drop (a + g) (take n b) ++ l) I.text ∙ sym (from_first made.break b z (a + g) n R refl gle I.n_le) in
      record {
        n_le = omega (arith, I.n_le);
        after = made.break ∷ [];
        rows = line (unspace lf sp made f y) I.after ∷ I.rows;
        is = ap (split_first lf sp made c f) I.is ∙ ap (λ (l : List A). line l (made.break ∷ []) ∷ line (unspace lf sp made f y) I.after ∷ I.rows) (take-both c n b);
        text = ap (λ (l : List A). made.break ∷ l) w ∙ sym (rw (z₀, z₁));
      }

  behind-none : (R : List (Step A)) → behind 0 R ≡ R
  unfolding behind
  behind-none [] = refl
  behind-none (s ∷ ss) = rw (sub-zero s.keep)

  split-woven : (b z : List A) (cs fs : List ℕ) → unlines (split_row lf sp made (line b z) cs fs) ≡ woven made.break (split_steps lf sp made b cs fs) (b ++ z)
  unfolding unlines
  split-woven b z cs fs =
      let I = split-is b z cs fs in
      let R : List (Step A) = split_steps lf sp made b cs fs in
      let n : ℕ = first_at (length b) R in
      ap unlines I.is ∙ ap (λ (l : List A). take n b ++ l) I.text ∙ sym (from_first made.break b z 0 n R refl (omega arith) I.n_le) ∙ ap (λ (r : List (Step A)). woven made.break r (b ++ z)) (behind-none R)

  -- what stands behind the last step stays as it is
  woven-front : (v : A) (ss : List (Step A)) (s t : List A) → passed ss ≤ length s → woven v ss (s ++ t) ≡ woven v ss s ++ t
  unfolding woven passed
  woven-front v [] s t h = refl
  woven-front v (x ∷ ss) s t h =
      let k : ℕ = x.keep + x.gone in
      let i = woven-front v ss (drop k s) t (omega (arith, length-drop k s)) in
      rw (take-append-le x.keep s t (omega arith), drop-append-le k s t (omega arith), i) (simp append_assoc)

  passed-behind : (j : ℕ) (d : ℕ) (R : List (Step A)) → j ≤ first_at d R → passed R ≤ d → j + passed (behind j R) ≤ d
  unfolding passed behind first_at
  passed-behind j d [] h k = omega arith
  passed-behind j d (s ∷ ss) h k = omega arith

  pub split-passed : (b : List A) (cs fs : List ℕ) → passed (split_steps lf sp made b cs fs) ≤ length b
  unfolding passed split_steps
  split-passed b [] fs = omega arith
  split-passed b (c ∷ cs) fs =
      let I = split-is b [] cs (drop 1 fs) in
      let R : List (Step A) = split_steps lf sp made b cs (drop 1 fs) in
      let n : ℕ = first_at (length b) R in
      let y : List A = drop c (take n b) in
      let g : ℕ = length y - length (unspace lf sp made (get_or fs 0 0) y) in
      let ly : length y ≡ n - c = omega (arith, length-drop c (take n b), length-take n b, I.n_le) in
      passed-behind (min c n + g) (length b) R (omega (arith, (unspace-drop (get_or fs 0 0) y).1, ly)) (split-passed b cs (drop 1 fs))

  pub split_text : (t : List A) (row : ℕ) (cs fs : List ℕ) → (split lf sp made t row cs fs).text ≡ woven made.break (split_at lf sp made t row cs fs) t
  unfolding split
  split_text t row cs fs =
      let L = lines lf t in
      let r = min row (last_row lf t) in
      let x = get_or L r (line [] []) in
      let below = drop (suc r) L in
      let R : List (Step A) = split_steps lf sp made x.body cs fs in
      let e : drop r L ≡ x ∷ below = row_cons lf sp made t row in
      let w : unlines (split_row lf sp made x cs fs) ≡ woven made.break R (x.body ++ x.after) = split-woven x.body x.after cs fs in
      let l : passed R ≤ length (x.body ++ x.after) = omega (arith, split-passed x.body cs fs, length-append x.body x.after) in
      from_row_lem lf made.break t r _ _ (unlines-append (split_row lf sp made x cs fs) below ∙ ap (λ (l : List A). l ++ unlines below) w ∙ sym (woven-front made.break R (x.body ++ x.after) (unlines below) l) ∙ ap (woven made.break R) (append_assoc x.body x.after (unlines below) ∙ back lf sp made x below (drop r L) e))
