-- Each kind's text is what its steps weave.
use mathlib.Core.Path.{◌≡◌, refl, sym, ap, ◌∙◌, subst}
use mathlib.Core.Bool.{Bool, true, false}
use mathlib.Core.List.{List, [], ◌∷◌, ◌++◌, append_assoc, append-nil}
use Prim.Native.Nat.{ℕ, zero, suc, ◌+◌, ◌-◌, ◌≤◌, ◌<◌, min, max}
use native.Mathlib.Nat.{add-zero, min-eq_left, min-eq_right}
use native.Mathlib.Decide.{dec_le}
use native.Mathlib.Omega.{arith}
use lib.ListN.{length, take, drop, get_or, replicate, length-append, length-replicate, drop_of_length-le, take-append-drop}
use lib.Seq.{drop-cons, take-append-add, drop-append-add, take-append-le, drop-append-le, take-append_seam, drop_at, take_all, take-length}
use Rattle.text.specs.declared.Position.{Position}
use Rattle.text.specs.Rows.{Line, line, lines, unlines, row_count, last_row, row_start, offset}
use Rattle.promise.proofs.Lists.{take_min}
use Rattle.text.proofs.Laws.{unlines-lines, count_last}
use Rattle.text.proofs.Broken.{Broken, final, next, unlines-append, lines-broken, broken_right}
use Rattle.edit.specs.Edits.{Made, put, put_all, pieces, cut_all, gap, join_next, join_row, from_row, cut_from, cut_to, inserted, chars_deleted, joined, block_inserted, chunks_deleted}
use Rattle.steps.specs.Steps.{Step, step, brought, woven, ahead}
use Rattle.steps.specs.Kinds.{insert_steps, char_steps, join_steps, put_steps, cut_steps, block_steps, chunk_steps, joined_steps}

module _ {A : Type 0} where
  pub woven-ahead : (v : A) (a t : List A) (n : ℕ) (ss : List (Step A)) → length a ≡ n → woven v (ahead n ss) (a ++ t) ≡ a ++ woven v ss t
  unfolding woven ahead
  woven-ahead v a t n [] e = refl
  woven-ahead v a t n (s ∷ ss) e =
      let p : take (n + s.keep) (a ++ t) ≡ a ++ take s.keep t = rw (← e) (take-append-add a t s.keep) in
      let m : n + s.keep + s.gone ≡ n + (s.keep + s.gone) = omega arith in
      let q : drop (n + s.keep + s.gone) (a ++ t) ≡ drop (s.keep + s.gone) t = rw (m, ← e) (drop-append-add a t (s.keep + s.gone)) in
      rw (p, q) (append_assoc a (take s.keep t) (brought v s ++ woven v ss (drop (s.keep + s.gone) t)))

  woven-none : (v : A) (t : List A) → t ≡ woven v [] t
  unfolding woven
  woven-none v t = refl

  -- each of these rows but the last has its break
  unfoldable pub Parted : List A → List (Line A) → Type 0
  Parted z [] = Unit {0}
  Parted z (s ∷ ss) = (length z ≡ 1) × Parted s.after ss

  beside : (P Q D Z : List A) → (P ++ (Q ++ D)) ++ Z ≡ P ++ (Q ++ (D ++ Z))
  beside P Q D Z = append_assoc P (Q ++ D) Z ∙ ap (λ (l : List A). P ++ l) (append_assoc Q D Z)

  break_step : (v : A) (m z t x : List A) (n o : ℕ) (ss : List (Step A)) → length z ≡ 1 → woven v (step (length m) 1 n o x ∷ ss) (m ++ (z ++ t)) ≡ m ++ ((replicate n v ++ x) ++ woven v ss t)
  unfolding woven
  break_step v m z t x n o ss e = rw (take-append_seam m (z ++ t), drop-append-add m (z ++ t) 1, drop_at z t 1 e)

  put_is : (pad : A) (c : ℕ) (k b : List A) → put pad c k b ≡ take (min c (length b)) b ++ ((replicate (c - length b) pad ++ k) ++ drop c b)
  unfolding put
  put_is pad c k b = elim (dec_le c (length b)) [ yes h ↦ short h | no h ↦ long (omega arith) ]
    where
      short : c ≤ length b → put pad c k b ≡ take (min c (length b)) b ++ ((replicate (c - length b) pad ++ k) ++ drop c b)
      short h = let z : c - length b ≡ 0 = omega arith in rw (z, min-eq_left h, append-nil b)

      long : length b ≤ c → put pad c k b ≡ take (min c (length b)) b ++ ((replicate (c - length b) pad ++ k) ++ drop c b)
      long h =
          let s = b ++ replicate (c - length b) pad in
          let l : length s ≡ c = omega (arith, length-append b (replicate (c - length b) pad), length-replicate (c - length b) pad) in
          rw (min-eq_right h, take-length b, take_all c s (omega arith), drop_of_length-le s {i = c} (omega arith), drop_of_length-le b {i = c} h) (simp (append_assoc, append-nil))

  -- a front cut at a column, clamped
  pub drop_min : (c : ℕ) (b : List A) → drop (min c (length b)) b ≡ drop c b
  drop_min c b = elim (dec_le c (length b)) [ yes h ↦ rw (min-eq_left h) | no h ↦ (let k : length b ≤ c = omega arith in rw (min-eq_right k, drop_of_length-le b {i = length b} (omega arith), drop_of_length-le b {i = c} k)) ]

  -- a step in a row's body, and steps behind the row
  row_step : (v : A) (b z t x : List A) (a e d o n : ℕ) (ss : List (Step A)) → a ≤ length b → a ≤ e → e ≤ length b → n ≡ length (drop e b ++ z)
      → woven v (step a (e - a) d o x ∷ ahead n ss) (b ++ (z ++ t)) ≡ take a b ++ ((replicate d v ++ x) ++ (drop e b ++ (z ++ woven v ss t)))
  unfolding woven
  row_step v b z t x a e d o n ss ha hae he hn =
      let p : take a (b ++ (z ++ t)) ≡ take a b = take-append-le a b (z ++ t) ha in
      let m : a + (e - a) ≡ e = omega arith in
      let q : drop e (b ++ (z ++ t)) ≡ (drop e b ++ z) ++ t = drop-append-le e b (z ++ t) he ∙ sym (append_assoc (drop e b) z t) in
      rw (m, p, q, woven-ahead v (drop e b ++ z) t n ss (sym hn), append_assoc (drop e b) z (woven v ss t))

  pub put-woven : (pad : A) (c : ℕ) (ks : List (List A)) (rs : List (Line A)) → unlines (put_all pad c ks rs) ≡ woven pad (put_steps c ks rs) (unlines rs)
  unfolding put_all put_steps unlines
  put-woven pad c [] rs = woven-none pad (unlines rs)
  put-woven pad c (k ∷ ks) [] = woven-none pad []
  put-woven pad c (k ∷ ks) (r ∷ rs) =
      let b = r.body in
      let m = min c (length b) in
      let d : ℕ = c - length b in
      let R = put_steps c ks rs in
      let z : m - m ≡ 0 = omega arith in
      let w : unlines (put_all pad c ks rs) ≡ woven pad R (unlines rs) = put-woven pad c ks rs in
      let s = row_step pad b r.after (unlines rs) k m m d 0 (length (drop c b ++ r.after)) R (omega arith) (omega arith) (omega arith) (rw (drop_min c b)) in
      let g : woven pad (step m 0 d 0 k ∷ ahead (length (drop c b ++ r.after)) R) (b ++ (r.after ++ unlines rs)) ≡ take m b ++ ((replicate d pad ++ k) ++ (drop c b ++ (r.after ++ woven pad R (unlines rs)))) = rw (z, drop_min c b) at s in
      rw (w, put_is pad c k b, g) (beside (take m b) (replicate d pad ++ k) (drop c b) (r.after ++ woven pad R (unlines rs)))

  pub cut_woven : (v : A) (c : ℕ) (ws ds : List ℕ) (rs : List (Line A)) → unlines (cut_all c ws ds rs) ≡ woven v (cut_steps c ws ds rs) (unlines rs)
  unfolding cut_all cut_steps unlines
  cut_woven v c [] ds rs = woven-none v (unlines rs)
  cut_woven v c (w ∷ ws) ds [] = woven-none v []
  cut_woven v c (w ∷ ws) ds (r ∷ rs) =
      let b = r.body in
      let n = length b in
      let d = get_or ds 0 0 in
      let R = cut_steps c ws (drop 1 ds) rs in
      let i : unlines (cut_all c ws (drop 1 ds) rs) ≡ woven v R (unlines rs) = cut_woven v c ws (drop 1 ds) rs in
      let s = row_step v b r.after (unlines rs) [] (min (c - d) n) (min (c + w) n) 0 (min c n - min (c - d) n) (length (drop (c + w) b ++ r.after)) R (omega arith) (omega arith) (omega arith) (rw (drop_min (c + w) b)) in
      rw (i, s, drop_min (c + w) b, ← take_min (c - d) b) (simp append_assoc)

  -- what a join puts between two rows is made
  pub gap-made : (space : A) (b : Bool) (r s : List A) → replicate (length (gap space b r s)) space ++ [] ≡ gap space b r s
  unfolding gap
  gap-made space true (x ∷ r) (y ∷ s) = refl
  gap-made space true (x ∷ r) [] = refl
  gap-made space true [] s = refl
  gap-made space false r s = refl

  -- the row so far ends with m, which is what the text still has of it
  pub join-woven : (space : A) (b : Bool) (p m : List A) (r : Line A) (ss rest : List (Line A)) → r.body ≡ p ++ m → Parted r.after ss
      → unlines (join_row space b r ss ∷ rest) ≡ p ++ woven space (join_steps space b r (length m) ss) (m ++ (r.after ++ unlines (ss ++ rest)))
  unfolding join_row join_steps unlines Parted
  join-woven space b p m r [] rest e h = rw (e, ← woven-none space (m ++ (r.after ++ unlines rest))) (append_assoc p m (r.after ++ unlines rest))
  join-woven space b p m r (s ∷ ss) rest e h =
      let g : List A = gap space b r.body s.body in
      let q : r.body ++ (g ++ s.body) ≡ (r.body ++ g) ++ s.body = sym (append_assoc r.body g s.body) in
      let J = join_steps space b (join_next space b r s) (length s.body) ss in
      let W : List A = woven space J (s.body ++ (s.after ++ unlines (ss ++ rest))) in
      let i = join-woven space b (r.body ++ g) s.body (join_next space b r s) ss rest q h.1 in
      let w = break_step space m r.after (s.body ++ (s.after ++ unlines (ss ++ rest))) [] (length g) 1 J h.0 ∙ ap (λ (l : List A). m ++ (l ++ W)) (gap-made space b r.body s.body) in
      let z : (r.body ++ g) ++ W ≡ p ++ (m ++ (g ++ W)) = append_assoc r.body g W ∙ ap (λ (l : List A). l ++ (g ++ W)) e ∙ append_assoc p m (g ++ W) in
      i ∙ z ∙ ap (λ (l : List A). p ++ l) (sym w)

  pub parted_take : (n : ℕ) (z : List A) (ss : List (Line A)) → Parted z ss → Parted z (take n ss)
  unfolding Parted
  parted_take zero z ss h = tt
  parted_take (suc n) z [] h = tt
  parted_take (suc n) z (s ∷ ss) h = (h.0, parted_take n s.after ss h.1)

module _ {A : Type 0} (lf : A → Bool) where
  each_parted : {r : Line A} {rs : List (Line A)} → Broken lf (r ∷ rs) → Parted r.after rs
  unfolding Parted
  each_parted (final b p) = tt
  each_parted (next b x p q (final c o)) = (refl, tt)
  each_parted (next b x p q (next c y o e h)) = (refl, each_parted (next c y o e h))

  -- the rows below row r
  pub below_parted : (t : List A) (r : ℕ) (x : Line A) (below : List (Line A)) → drop r (lines lf t) ≡ x ∷ below → Parted x.after below
  below_parted t r x below e =
      let L = lines lf t in
      let w : L ≡ take r L ++ x ∷ below = sym (take-append-drop r L) ∙ ap (λ (l : List (Line A)). take r L ++ l) e in
      each_parted (broken_right lf (take r L) x below (subst (Broken lf) w (lines-broken lf t)))

  -- a text is its rows before r and those from r on
  pub rows_whole : (t : List A) (r : ℕ) → unlines (take r (lines lf t)) ++ unlines (drop r (lines lf t)) ≡ t
  rows_whole t r = sym (unlines-append (take r (lines lf t)) (drop r (lines lf t))) ∙ ap unlines (take-append-drop r (lines lf t)) ∙ unlines-lines lf t

  -- rows from r on changed by steps
  pub from_row_lem : (v : A) (t : List A) (r : ℕ) (new : List (Line A)) (ss : List (Step A)) → unlines new ≡ woven v ss (unlines (drop r (lines lf t)))
      → from_row (lines lf t) r new ≡ woven v (ahead (row_start lf t r) ss) t
  unfolding row_start
  from_row_lem v t r new ss e =
      let L = lines lf t in
      unlines-append (take r L) new ∙ rw e (sym (woven-ahead v (unlines (take r L)) (unlines (drop r L)) (length (unlines (take r L))) ss refl) ∙ ap (woven v (ahead (length (unlines (take r L))) ss)) (rows_whole t r))

  pub inserted-woven : (v : A) (t : List A) (p : Position) (x : List A) → (inserted lf t p x).text ≡ woven v (insert_steps lf t p x) t
  unfolding inserted woven
  inserted-woven v t p x = rw (add-zero (offset lf t p))

  pub chars_woven : (v : A) (t : List A) (p q : Position) → (chars_deleted lf t p q).text ≡ woven v (char_steps lf t p q) t
  unfolding chars_deleted woven
  chars_woven v t p q = let m : cut_from lf t p q + (cut_to lf t p q - cut_from lf t p q) ≡ cut_to lf t p q = omega arith in rw m

module _ {A : Type 0} (lf sp : A → Bool) (made : Made A) where
  pub row_there : (t : List A) (row : ℕ) → min row (last_row lf t) < length (lines lf t)
  unfolding row_count
  row_there t row = omega (arith, count_last lf t)

  -- a row, and the rows from it on
  pub row_cons : (t : List A) (row : ℕ) → drop (min row (last_row lf t)) (lines lf t) ≡ get_or (lines lf t) (min row (last_row lf t)) (line [] []) ∷ drop (suc (min row (last_row lf t))) (lines lf t)
  row_cons t row = drop-cons (lines lf t) (min row (last_row lf t)) (line [] []) (row_there t row)

  pub back : (x : Line A) (below l : List (Line A)) → l ≡ x ∷ below → x.body ++ (x.after ++ unlines below) ≡ unlines l
  unfolding unlines
  back x below l e = rw e

  pub block_woven : (t : List A) (p : Position) (x : List A) (ns : List ℕ) → (block_inserted lf sp made t p x ns).text ≡ woven made.pad (block_steps lf t p x ns) t
  unfolding block_inserted
  block_woven t p x ns = from_row_lem lf made.pad t p.row.0 _ _ (put-woven made.pad p.col.0 (pieces ns x) (drop p.row.0 (lines lf t)))

  pub chunks_woven : (t : List A) (p : Position) (ws ds : List ℕ) → (chunks_deleted lf sp made t p ws ds).text ≡ woven made.pad (chunk_steps lf t p ws ds) t
  unfolding chunks_deleted
  chunks_woven t p ws ds = from_row_lem lf made.pad t p.row.0 _ _ (cut_woven made.pad p.col.0 ws ds (drop p.row.0 (lines lf t)))

  pub joined-woven : (t : List A) (row count : ℕ) (b : Bool) → (joined lf sp made t row count b).text ≡ woven made.space (joined_steps lf made.space t row count b) t
  unfolding joined
  joined-woven t row count b =
      let L = lines lf t in
      let r = min row (last_row lf t) in
      let x = get_or L r (line [] []) in
      let below = drop (suc r) L in
      let n = max count 1 in
      let e : drop r L ≡ x ∷ below = row_cons t row in
      let h : Parted x.after below = below_parted lf t r x below e in
      let j = join-woven made.space b [] x.body x (take n below) (drop n below) refl (parted_take n x.after below h) in
      from_row_lem lf made.space t r _ _ (j ∙ ap (λ (l : List (Line A)). woven made.space (join_steps made.space b x (length x.body) (take n below)) (x.body ++ (x.after ++ unlines l))) (take-append-drop n below) ∙ ap (woven made.space (join_steps made.space b x (length x.body) (take n below))) (back x below (drop r L) e))
