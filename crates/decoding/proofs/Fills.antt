-- The scalars stored: the first k of cs stand in the slice that was b, and the others are still to come.
use mathlib.Core.Path.{◌≡◌, refl, sym, ap, ◌∙◌}
use mathlib.Core.Bool.{true}
use mathlib.Core.List.{List, [], ◌∷◌, ◌++◌}
use Prim.Native.Nat.{ℕ, zero, suc, ◌+◌, ◌-◌, ◌≤◌, ◌<◌}
use native.Mathlib.Numerals.{add-one}
use native.Mathlib.Omega.{arith}
use lib.Count.{count_leading_zeros}
use lib.ListN.{length, take, drop, get_or, set, length-drop}
use lib.Seq.{drop-cons}
use Rattle.promise.specs.Paper.{done}
use Rattle.promise.specs.Slices.{over}
use Rattle.promise.proofs.Lists.{next, next-2, next-3, next-4}
use Rattle.utf8.specs.Rfc3629.{UTF8-char, taken, number}
use Rattle.utf8.specs.Reading.{scalars, bad_at, read_from}
use Rattle.utf8.specs.Calls.{step_by}
use Rattle.utf8.proofs.Taken.{taken-le}
use Rattle.utf8.proofs.Lead.{lead_one, lead_two, lead_three, lead_four}
use Rattle.utf8.proofs.Readings.{read_lost, prepended}
use Rattle.utf8.proofs.Stores.{stored_more, stored-end}
use Rattle.sequences.proofs.Steps.{found, step-done, read_end}

-- a turn that stored v and went on to j
abbrev pub Filled : List ℕ → List ℕ → List ℕ → List ℕ → ℕ → ℕ → ℕ → ℕ → Type 0
Filled s cs b t i k v j =
    (j ≤ length s) × (k < length cs) × (i < j) × (read_from j 0 (drop j s) ≡ scalars (drop (k + 1) cs)) × (set t k v ≡ take (k + 1) cs ++ drop (k + 1) b)

-- the n octets p stand at i, and are a sequence
abbrev pub Stands : List ℕ → ℕ → List ℕ → ℕ → Type 0
Stands s i p n = (i + n ≤ length s) × ((v : ℕ) → v ≡ number p → done (v, i + n) ≡ step_by UTF8-char s i)

module _ (s cs : List ℕ) (i k : ℕ) (inv : read_from i 0 (drop i s) ≡ scalars (drop k cs)) where
  pub fill_again : (b t : List ℕ) (v j : ℕ) → done (v, j) ≡ step_by UTF8-char s i → i ≤ length s → length cs ≤ length b → t ≡ take k cs ++ drop k b
      → Filled s cs b t i k v j
  fill_again b t v j e h room f =
      let d = step-done s i v j e h in
      let m = prepended v (read_from j 0 (drop j s)) (drop k cs) (sym d.0 ∙ inv) in
      let n : k < length cs = omega (arith, simp length-drop at (ap length m.2)) in
      let w : get_or cs k 0 ∷ drop (k + 1) cs ≡ v ∷ m.0 = rw (add-one, ← drop-cons cs k 0 n) m.2 in
      let r : m.0 ≡ drop (k + 1) cs = cc in
      let p : drop k cs ≡ (v ∷ []) ++ drop (k + 1) cs = m.2 ∙ ap (◌∷◌ v) r in
      (d.2, n, d.1, m.1 ∙ ap scalars r, stored_more cs b t (v ∷ []) (drop (k + 1) cs) k f p (omega arith) (omega arith))

  -- some sequence stands at i, and its lead tells which
  fill_taken : (n : ℕ) → i < length s → ((m : ℕ) → taken UTF8-char (get_or s i 0 ∷ drop (i + 1) s) ≡ suc m → taken UTF8-char (get_or s i 0 ∷ drop (i + 1) s) ≡ n) → taken UTF8-char (drop i s) ≡ n
  fill_taken n h f = go (taken UTF8-char (drop i s)) refl
    where
      go : (m : ℕ) → taken UTF8-char (drop i s) ≡ m → taken UTF8-char (drop i s) ≡ n
      go zero t =
          let c : bad_at i ≡ scalars (drop k cs) = sym (read_lost (drop i s) i t (simp length-drop (omega arith))) ∙ inv in
          let z : ◌≡◌ {A = ℕ} 0 1 = cc in absurd (omega arith)
      go (suc m) t = rw (next s i h) (f m (rw (next s i h) at t))

  fill_room : (n : ℕ) → taken UTF8-char (drop i s) ≡ n → 0 < n → i + n ≤ length s
  fill_room n t h = let l : n ≤ length s - i = simp length-drop at (rw t at (taken-le UTF8-char (drop i s))) in omega arith

  module _ (h : i < length s) (o : ℕ) (b : get_or s i 0 < 256) (c : o ≡ count_leading_zeros 8 (255 - get_or s i 0)) where
    pub fill_one : o ≤ 1 → (v : ℕ) → v ≡ get_or s i 0 → done (v, i + 1) ≡ step_by UTF8-char s i
    unfolding number
    fill_one u v f =
        let t = fill_taken 1 h (λ m e. lead_one (get_or s i 0) o (drop (i + 1) s) m b c e u) in
        let d = next s i h in
        found UTF8-char s (get_or s i 0 ∷ []) (drop (i + 1) s) i 0 true d refl (ap (taken UTF8-char) (sym d) ∙ t) v refl f

    pub fill_two : 1 < o → o ≤ 2 → Stands s i (get_or s i 0 ∷ get_or s (i + 1) 0 ∷ []) 2
    fill_two l u =
        let t = fill_taken 2 h (λ m e. lead_two (get_or s i 0) o (drop (i + 1) s) m b c e l u) in
        let r = fill_room 2 t (omega arith) in
        let d = next-2 s i (omega arith) in
        (r, λ v f. found UTF8-char s (get_or s i 0 ∷ get_or s (i + 1) 0 ∷ []) (drop (i + 2) s) i 1 true d refl (ap (taken UTF8-char) (sym d) ∙ t) v refl f)

    pub fill_three : 2 < o → o ≤ 3 → Stands s i (get_or s i 0 ∷ get_or s (i + 1) 0 ∷ get_or s (i + 2) 0 ∷ []) 3
    fill_three l u =
        let t = fill_taken 3 h (λ m e. lead_three (get_or s i 0) o (drop (i + 1) s) m b c e l u) in
        let r = fill_room 3 t (omega arith) in
        let d = next-3 s i (omega arith) in
        (r, λ v f. found UTF8-char s (get_or s i 0 ∷ get_or s (i + 1) 0 ∷ get_or s (i + 2) 0 ∷ []) (drop (i + 3) s) i 2 true d refl (ap (taken UTF8-char) (sym d) ∙ t) v refl f)

    pub fill_four : 3 < o → Stands s i (get_or s i 0 ∷ get_or s (i + 1) 0 ∷ get_or s (i + 2) 0 ∷ get_or s (i + 3) 0 ∷ []) 4
    fill_four l =
        let t = fill_taken 4 h (λ m e. lead_four (get_or s i 0) o (drop (i + 1) s) m b c e l) in
        let r = fill_room 4 t (omega arith) in
        let d = next-4 s i (omega arith) in
        (r, λ v f. found UTF8-char s (get_or s i 0 ∷ get_or s (i + 1) 0 ∷ get_or s (i + 2) 0 ∷ get_or s (i + 3) 0 ∷ []) (drop (i + 4) s) i 3 true d refl (ap (taken UTF8-char) (sym d) ∙ t) v refl f)

  pub fill_all : (b t : List ℕ) → length s ≤ i → k ≤ length cs → t ≡ take k cs ++ drop k b → t ≡ over cs b
  fill_all b t h l f =
      let d : scalars [] ≡ scalars (drop k cs) = sym (read_end s i h) ∙ inv in
      stored-end cs b t k f (cc) l
