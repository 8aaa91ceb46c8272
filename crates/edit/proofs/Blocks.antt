-- Block edits: cutting undoes putting, and putting undoes cutting in rows that are wide enough; both are accepted.
use mathlib.Core.Path.{◌≡◌, refl, sym, ◌∙◌, ap, ap₂, subst}
use mathlib.Core.List.{List, [], ◌∷◌, ◌++◌, append_assoc, append-nil, map, flatten}
use mathlib.Core.Bool.{Bool, ◌&&◌}
use Prim.Native.Nat.{ℕ, zero, suc, ◌+◌, ◌-◌, ◌≤◌}
use native.Mathlib.Nat.{sub-zero, sub-eq-zero_of_le}
use native.Mathlib.Decide.{dec_le}
use native.Mathlib.Omega.{arith}
use borrow.Author.Tests.{le-leb, eq-eqb}
use lib.ListN.{length, take, drop, get_or, replicate, length-append, length-take, length-drop, length-map, length-replicate, drop_of_length-le, take-append-drop}
use lib.Seq.{take_all, take-append_seam, drop-append_seam, take-length, take_at, drop_at, take-append-le, take-take, take-add, length-take-le}
use lib.Dec.{T, leb, eqb, le→leb, leb→le, eqb→eq}
use Rattle.utf8.specs.Rfc3629.{scalar}
use Rattle.text.specs.declared.Position.{Position}
use Rattle.text.specs.Rows.{Line, line, lines, unlines, clamp}
use Rattle.text.specs.Text.{is_lf, admissible, all}
use Rattle.text.proofs.Laws.{unlines-lines}
use Rattle.edit.specs.declared.MotionKind.TheVariants.{Block}
use Rattle.edit.specs.declared.Edit.TheVariants.{DeleteRange, InsertBlock, DeleteBlockChunks}
use Rattle.edit.specs.Edits.{Whole, whole, Edited, edited, from_row, put, put_all, pads_of, pieces, cut_all, chunks_of, block_inserted, chunks_deleted, corner, height, breadth, range_deleted, edited_by}
use Rattle.edit.specs.Refusals.{is_space, spaces, sum, small, small_position, small_range, small_ok, few, short, few_rows, few_ok, payload_ok, within_ok, room_ok, wide}
use Rattle.edit.specs.Call.{range_undoable}
use Rattle.promise.proofs.Bools.{T_true, T-both, T-left, T-right}
use Rattle.text.proofs.Alls.{all_append, all_left, all_right, all_take, all_drop, all_replicate}
use Rattle.edit.proofs.Accepted.{full, Ok, Fine, Step, Back, ok_room, ok_short, ok_admissible, ok_both}
use Rattle.text.proofs.Broken.{final, next, lines-broken, lines-unlines}
use Rattle.text.proofs.Ended.{not_lf, Plain, Ended}

-- ---- one row

-- what stands before the column, the padding, the chunk, and what stands behind
pub put-parts : {A : Type 0} (pad : A) (c : ℕ) (k b : List A) → put pad c k b ≡ take c b ++ (replicate (c - length b) pad ++ (k ++ drop c b))
unfolding put
put-parts {A} pad c k b = elim (dec_le (length b) c) [ yes h ↦ short h | no h ↦ long (omega arith) ]
  where
    short : length b ≤ c → put pad c k b ≡ take c b ++ (replicate (c - length b) pad ++ (k ++ drop c b))
    short h =
        let n : length (b ++ replicate (c - length b) pad) ≤ c = omega (arith, length-append b (replicate (c - length b) pad), length-replicate (c - length b) pad) in
        rw (take_all c (b ++ replicate (c - length b) pad) n, drop_of_length-le (b ++ replicate (c - length b) pad) n, take_all c b h, drop_of_length-le b h) (append_assoc b (replicate (c - length b) pad) (k ++ []))

    long : c ≤ length b → put pad c k b ≡ take c b ++ (replicate (c - length b) pad ++ (k ++ drop c b))
    long h = let z : c - length b ≡ 0 = omega arith in rw (z, append-nil b)

module _ (c : ℕ) (k r : List ℕ) where
  abbrev padded : List ℕ
  padded = r ++ replicate (c - length r) 32

  padded-le : c ≤ length padded
  padded-le = omega (arith, length-append r (replicate (c - length r) 32), length-replicate {A = ℕ} (c - length r) 32)

  front : length (take c padded) ≡ c
  front = length-take-le c padded padded-le

  front-k : length (take c padded ++ k) ≡ c + length k
  front-k = omega (arith, length-append (take c padded) k, front)

  -- what is left of column c on
  rest : take (c - (c - length r)) r ++ drop c padded ≡ r
  rest = elim (dec_le c (length r)) [
    | yes h ↦ rw (sub-eq-zero_of_le h, sub-zero, append-nil) (take-append-drop c r)
    | no h ↦
        let e : c - (c - length r) ≡ length r = omega arith in
        rw (e, take-length, drop_of_length-le padded {i = c} (omega (arith, length-append r (replicate (c - length r) 32), length-replicate {A = ℕ} (c - length r) 32))) (append-nil r)
  ]

  cut_put-row : take (c - (c - length r)) (put 32 c k r) ++ drop (c + length k) (put 32 c k r) ≡ r
  unfolding put
  cut_put-row =
      let m = c - (c - length r) in
      let l : m ≤ length (take c padded) = omega (arith, front) in
      rw (← append_assoc (take c padded) k (drop c padded), drop_at (take c padded ++ k) (drop c padded) (c + length k) front-k, append_assoc (take c padded) k (drop c padded), take-append-le m (take c padded) (k ++ drop c padded) l, take-take m c padded (omega arith), take-append-le m r (replicate (c - length r) 32) (omega arith)) rest

  chunk_put-row : take (length k) (drop c (put 32 c k r)) ≡ k
  unfolding put
  chunk_put-row = rw (drop_at (take c padded) (k ++ drop c padded) c front, take-append_seam)

module _ (c w : ℕ) (r : List ℕ) (h : c ≤ length r) where
  abbrev rem : List ℕ
  rem = take (c - 0) r ++ drop (c + w) r

  rem_le : c ≤ length rem
  rem_le = omega (arith, length-append (take (c - 0) r) (drop (c + w) r), length-take (c - 0) r)

  put-cut_row : put 32 c (take w (drop c r)) rem ≡ r
  unfolding put
  put-cut_row =
      let a : length (take c r) ≡ c = length-take-le c r h in
      let e : take c r ++ take w (drop c r) ≡ take (c + w) r = sym (take-add c w r) in
      rw (sub-eq-zero_of_le rem_le, append-nil, sub-zero, take_at (take c r) (drop (c + w) r) c a, drop_at (take c r) (drop (c + w) r) c a, ← append_assoc (take c r) (take w (drop c r)) (drop (c + w) r), e) (take-append-drop (c + w) r)

  cut_again_row : take (c - (c - length rem)) r ++ drop (c + length (take w (drop c r))) r ≡ rem
  cut_again_row =
      let e : c - (c - length rem) ≡ c - 0 = omega (arith, rem_le) in
      let d : drop (c + length (take w (drop c r))) r ≡ drop (c + w) r = elim (dec_le (c + w) (length r)) [
        | yes k ↦ (let g : c + length (take w (drop c r)) ≡ c + w = omega (arith, length-take w (drop c r), length-drop c r) in ap (λ (j : ℕ). drop j r) g)
        | no k ↦ drop_of_length-le r {i = c + length (take w (drop c r))} (omega (arith, length-take w (drop c r), length-drop c r)) ∙ sym (drop_of_length-le r {i = c + w} (omega arith))
      ] in
      rw (e, d)

-- ---- all rows

abbrev Rows : Type 0
Rows = List (Line ℕ)

abbrev Chunks : Type 0
Chunks = List (List ℕ)

pub cut_put : (c : ℕ) (ks : Chunks) (rs : Rows) → cut_all c (map length ks) (pads_of c ks rs) (put_all 32 c ks rs) ≡ rs
unfolding cut_all pads_of put_all
cut_put c [] rs = refl
cut_put c (k ∷ ks) [] = refl
cut_put c (k ∷ ks) (r ∷ rs) = ap₂ {C = Rows} (λ a l. line a r.after ∷ l) (cut_put-row c k r.body) (cut_put c ks rs)

pub put-chunks : (c : ℕ) (ks : Chunks) (rs : Rows) → put_all 32 c (chunks_of c (map length ks) (put_all 32 c ks rs)) rs ≡ put_all 32 c ks rs
unfolding chunks_of put_all
put-chunks c [] rs = refl
put-chunks c (k ∷ ks) [] = refl
put-chunks c (k ∷ ks) (r ∷ rs) = ap₂ {C = Rows} (λ a l. line (put 32 c a r.body) r.after ∷ l) (chunk_put-row c k r.body) (put-chunks c ks rs)

pub put-cut : (c : ℕ) (ws : List ℕ) (rs : Rows) → T (wide c (take (length ws) rs)) → put_all 32 c (chunks_of c ws rs) (cut_all c ws [] rs) ≡ rs
unfolding chunks_of put_all cut_all wide
put-cut c [] rs h = refl
put-cut c (w ∷ ws) [] h = refl
put-cut c (w ∷ ws) (r ∷ rs) h =
    ap₂ {C = Rows} (λ a l. line a r.after ∷ l)
    (put-cut_row c w r.body (leb→le c (length r.body) (T-left (leb c (length r.body)) (wide c (take (length ws) rs)) h)))
    (put-cut c ws rs (T-right (leb c (length r.body)) (wide c (take (length ws) rs)) h))

pub cut_again : (c : ℕ) (ws : List ℕ) (rs : Rows) → T (wide c (take (length ws) rs))
    → cut_all c (map length (chunks_of c ws rs)) (pads_of c (chunks_of c ws rs) (cut_all c ws [] rs)) rs ≡ cut_all c ws [] rs
unfolding chunks_of pads_of cut_all wide
cut_again c [] rs h = refl
cut_again c (w ∷ ws) [] h = refl
cut_again c (w ∷ ws) (r ∷ rs) h =
    ap₂ {C = Rows} (λ a l. line a r.after ∷ l)
    (cut_again_row c w r.body (leb→le c (length r.body) (T-left (leb c (length r.body)) (wide c (take (length ws) rs)) h)))
    (cut_again c ws rs (T-right (leb c (length r.body)) (wide c (take (length ws) rs)) h))

-- ---- sizes

pub pads_of-length : (c : ℕ) (ks : Chunks) (rs : Rows) → length (pads_of c ks rs) ≡ length ks
unfolding pads_of
pads_of-length c [] rs = refl
pads_of-length c (k ∷ ks) [] = ap suc (pads_of-length c ks [])
pads_of-length c (k ∷ ks) (r ∷ rs) = ap suc (pads_of-length c ks rs)

pub pads_of-small : (c : ℕ) (ks : Chunks) (rs : Rows) → c ≤ 1_000_000 → T (all small (pads_of c ks rs))
unfolding pads_of all
pads_of-small c [] rs h = tt
pads_of-small c (k ∷ ks) [] h = pads_of-small c ks [] h
pads_of-small c (k ∷ ks) (r ∷ rs) h =
    T-both (small (c - length r.body)) (all small (pads_of c ks rs)) (le→leb (c - length r.body) 1_000_000 (omega arith)) (pads_of-small c ks rs h)

pub chunks_of-length : (c : ℕ) (ws : List ℕ) (rs : Rows) → length (chunks_of c ws rs) ≡ length ws
unfolding chunks_of
chunks_of-length c [] rs = refl
chunks_of-length c (w ∷ ws) [] = ap suc (chunks_of-length c ws [])
chunks_of-length c (w ∷ ws) (r ∷ rs) = ap suc (chunks_of-length c ws rs)

chunks_of-le : (c : ℕ) (ws : List ℕ) (rs : Rows) → length (flatten (chunks_of c ws rs)) ≤ length (unlines rs)
unfolding chunks_of flatten unlines
chunks_of-le c [] rs = omega arith
chunks_of-le c (w ∷ ws) [] = chunks_of-le c ws []
chunks_of-le c (w ∷ ws) (r ∷ rs) =
    let b = r.body in
    omega (arith, chunks_of-le c ws rs, length-append (take w (drop c b)) (flatten (chunks_of c ws rs)), length-append b (r.after ++ unlines rs), length-append r.after (unlines rs), length-take w (drop c b), length-drop c b)

unlines-drop : (j : ℕ) (rs : Rows) → length (unlines (drop j rs)) ≤ length (unlines rs)
unfolding unlines
unlines-drop zero rs = omega arith
unlines-drop (suc j) [] = omega arith
unlines-drop (suc j) (r ∷ rs) = omega (arith, unlines-drop j rs, length-append r.body (r.after ++ unlines rs), length-append r.after (unlines rs))

-- the chunks of a text are no longer than it
pub chunks_le : (t : List ℕ) (c j : ℕ) (ws : List ℕ) → length (flatten (chunks_of c ws (drop j (lines is_lf t)))) ≤ length t
chunks_le t c j ws = omega (arith, chunks_of-le c ws (drop j (lines is_lf t)), unlines-drop j (lines is_lf t), ap length (unlines-lines is_lf t))

-- ---- chunks and payload

pub pieces-flatten : (ks : Chunks) → pieces (map length ks) (flatten ks) ≡ ks
unfolding pieces flatten
pieces-flatten [] = refl
pieces-flatten (k ∷ ks) = rw (take-append_seam k (flatten ks), drop-append_seam k (flatten ks), pieces-flatten ks)

pub pieces-length : {A : Type 0} (ns : List ℕ) (x : List A) → length (pieces ns x) ≡ length ns
unfolding pieces
pieces-length [] x = refl
pieces-length (n ∷ ns) x = ap suc (pieces-length ns (drop n x))

pub pieces-lengths : {A : Type 0} (ns : List ℕ) (x : List A) → sum ns ≤ length x → map length (pieces ns x) ≡ ns
unfolding pieces sum
pieces-lengths [] x h = refl
pieces-lengths (n ∷ ns) x h = ap₂ {C = List ℕ} (λ a l. a ∷ l) (length-take n x ∙ omega arith) (pieces-lengths ns (drop n x) (omega (arith, length-drop n x)))

pub flatten_pieces : (ns x : List ℕ) → length x ≤ sum ns → flatten (pieces ns x) ≡ x
unfolding pieces flatten sum
flatten_pieces [] x h = sym (drop_of_length-le x {i = 0} h)
flatten_pieces (n ∷ ns) x h = rw (flatten_pieces ns (drop n x) (omega (arith, length-drop n x))) (take-append-drop n x)

pub sum-lengths : (ks : Chunks) → sum (map length ks) ≡ length (flatten ks)
unfolding sum flatten
sum-lengths [] = refl
sum-lengths (k ∷ ks) = rw (sum-lengths ks) (sym (length-append k (flatten ks)))

pub lengths_small : (ks : Chunks) → length (flatten ks) ≤ 1_000_000 → T (all small (map length ks))
unfolding flatten all
lengths_small [] h = tt
lengths_small (k ∷ ks) h =
    T-both (small (length k)) (all small (map length ks)) (le→leb (length k) 1_000_000 (omega (arith, length-append k (flatten ks)))) (lengths_small ks (omega (arith, length-append k (flatten ks))))

-- ---- characters

-- each character of each row's body
data Each (f : ℕ → Bool) : Rows → Type 0 where
  none : Each f []
  more : (b a : List ℕ) {rs : Rows} → T (all f b) → Each f rs → Each f (line b a ∷ rs)

module _ (f : ℕ → Bool) where
  pieces-all : (ns x : List ℕ) → T (all f x) → T (all f (flatten (pieces ns x)))
  unfolding pieces flatten all
  pieces-all [] x h = tt
  pieces-all (n ∷ ns) x h = all_append f (take n x) (flatten (pieces ns (drop n x))) (all_take f n x h) (pieces-all ns (drop n x) (all_drop f n x h))

  chunks_of-all : (c : ℕ) (ws : List ℕ) {rs : Rows} → Each f rs → T (all f (flatten (chunks_of c ws rs)))
  unfolding chunks_of flatten all
  chunks_of-all c [] h = tt
  chunks_of-all c (w ∷ ws) none = chunks_of-all c ws none
  chunks_of-all c (w ∷ ws) (more b a {rs} p h) =
      all_append f (take w (drop c b)) (flatten (chunks_of c ws rs)) (all_take f w (drop c b) (all_drop f c b p)) (chunks_of-all c ws h)

  each_drop : (j : ℕ) {rs : Rows} → Each f rs → Each f (drop j rs)
  each_drop zero h = h
  each_drop (suc j) none = none
  each_drop (suc j) (more b a p h) = each_drop j h

  each_unlines : (rs : Rows) → T (all f (unlines rs)) → Each f rs
  unfolding unlines
  each_unlines [] h = none
  each_unlines (r ∷ rs) h =
      more r.body r.after (all_left f r.body (r.after ++ unlines rs) h) (each_unlines rs (all_right f r.after (unlines rs) (all_right f r.body (r.after ++ unlines rs) h)))

-- the chunks of a text have its characters
pub chunks_all : (f : ℕ → Bool) (t : List ℕ) (c j : ℕ) (ws : List ℕ) → T (all f t) → T (all f (flatten (chunks_of c ws (drop j (lines is_lf t)))))
chunks_all f t c j ws h = chunks_of-all f c ws (each_drop f j (each_unlines f (lines is_lf t) (rw (unlines-lines is_lf t) h)))

-- rows with other bodies, each character of which passes: as many, ended alike
data Alike (f : ℕ → Bool) : Rows → Rows → Type 0 where
  none : Alike f [] []
  more : (b b' a : List ℕ) {rs ss : Rows} → T (all f b') → Alike f rs ss → Alike f (line b a ∷ rs) (line b' a ∷ ss)

module _ (f : ℕ → Bool) where
  alike_same : {rs : Rows} → Each f rs → Alike f rs rs
  alike_same none = none
  alike_same (more b a p h) = more b b a p (alike_same h)

  alike_each : {rs ss : Rows} → Alike f rs ss → Each f ss
  alike_each none = none
  alike_each (more b b' a p h) = more b' a p (alike_each h)

  alike_length : {rs ss : Rows} → Alike f rs ss → length ss ≡ length rs
  alike_length none = refl
  alike_length (more b b' a p h) = ap suc (alike_length h)

  alike_from : (j : ℕ) {R S : Rows} → Each f R → Alike f (drop j R) S → Alike f R (take j R ++ S)
  alike_from zero e h = h
  alike_from (suc j) none h = h
  alike_from (suc j) (more b a p e) h = more b b a p (alike_from j e h)

  alike_all : {rs ss : Rows} → Alike f rs ss → T (all f (unlines rs)) → T (all f (unlines ss))
  unfolding unlines
  alike_all none h = h
  alike_all (more b b' a {rs} {ss} p k) h =
      let g = all_right f b (a ++ unlines rs) h in
      all_append f b' (a ++ unlines ss) p (all_append f a (unlines ss) (all_left f a (unlines rs) g) (alike_all k (all_right f a (unlines rs) g)))

  alike_cut : (c : ℕ) (ws ds : List ℕ) {rs : Rows} → Each f rs → Alike f rs (cut_all c ws ds rs)
  unfolding cut_all
  alike_cut c [] ds h = alike_same h
  alike_cut c (w ∷ ws) ds none = none
  alike_cut c (w ∷ ws) ds (more b a p h) =
      more b (take (c - get_or ds 0 0) b ++ drop (c + w) b) a
      (all_append f (take (c - get_or ds 0 0) b) (drop (c + w) b) (all_take f (c - get_or ds 0 0) b p) (all_drop f (c + w) b p)) (alike_cut c ws (drop 1 ds) h)

  module _ (space : T (f 32)) where
    put-all : (c : ℕ) (k r : List ℕ) → T (all f k) → T (all f r) → T (all f (put 32 c k r))
    unfolding put
    put-all c k r p q =
        let s = r ++ replicate (c - length r) 32 in
        let a : T (all f s) = all_append f r (replicate (c - length r) 32) q (all_replicate f (c - length r) 32 space) in
        all_append f (take c s) (k ++ drop c s) (all_take f c s a) (all_append f k (drop c s) p (all_drop f c s a))

    alike_put : (c : ℕ) (ks : Chunks) {rs : Rows} → T (all f (flatten ks)) → Each f rs → Alike f rs (put_all 32 c ks rs)
    unfolding put_all flatten
    alike_put c [] g h = alike_same h
    alike_put c (k ∷ ks) g none = none
    alike_put c (k ∷ ks) g (more b a p h) =
        more b (put 32 c k b) a (put-all c k b (all_left f k (flatten ks) g) p) (alike_put c ks (all_right f k (flatten ks) g) h)

ended_each : {rs : Rows} → Ended rs → Each not_lf rs
ended_each (final b p) = more b [] p none
ended_each (next b x p q h) = more b (x ∷ []) p (ended_each h)

alike_ended : {rs ss : Rows} → Ended rs → Alike not_lf rs ss → Ended ss
alike_ended (final b p) (more c b' a q none) = final b' q
alike_ended (next b x p e h) (more c b' a q k) = next b' x q e (alike_ended h k)

-- ---- rows changed from row j on

pub take-changed : (j : ℕ) (R S : Rows) → length S ≡ length (drop j R) → take j (take j R ++ S) ≡ take j R
take-changed zero R S e = refl
take-changed (suc j) [] [] e = refl
take-changed (suc j) [] (s ∷ S) e = let z : ⊥ = omega arith in absurd z
take-changed (suc j) (r ∷ R) S e = ap {B = Rows} (λ l. r ∷ l) (take-changed j R S e)

pub drop-changed : (j : ℕ) (R S : Rows) → length S ≡ length (drop j R) → drop j (take j R ++ S) ≡ S
drop-changed zero R S e = refl
drop-changed (suc j) [] [] e = refl
drop-changed (suc j) [] (s ∷ S) e = let z : ⊥ = omega arith in absurd z
drop-changed (suc j) (r ∷ R) S e = drop-changed j R S e

module _ (n : ℕ) (t : List ℕ) (h : Ok n t) (j : ℕ) (S : Rows) where
  abbrev changed : List ℕ
  changed = from_row (lines is_lf t) j S

  plain-below : Each not_lf (drop j (lines is_lf t))
  plain-below = each_drop not_lf j (ended_each (lines-broken is_lf t))

  each_here : Each admissible (lines is_lf t)
  each_here = each_unlines admissible (lines is_lf t) (rw (unlines-lines is_lf t) (ok_admissible n t h))

  good_below : Each admissible (drop j (lines is_lf t))
  good_below = each_drop admissible j each_here

  lines-changed : Alike not_lf (drop j (lines is_lf t)) S → lines is_lf changed ≡ take j (lines is_lf t) ++ S
  lines-changed s = lines-unlines is_lf (alike_ended (lines-broken is_lf t) (alike_from not_lf j (ended_each (lines-broken is_lf t)) s))

  above_changed : Alike not_lf (drop j (lines is_lf t)) S → take j (lines is_lf changed) ≡ take j (lines is_lf t)
  above_changed s = rw (lines-changed s) (take-changed j (lines is_lf t) S (alike_length not_lf s))

  below_changed : Alike not_lf (drop j (lines is_lf t)) S → drop j (lines is_lf changed) ≡ S
  below_changed s = rw (lines-changed s) (drop-changed j (lines is_lf t) S (alike_length not_lf s))

  ok_changed : Alike admissible (drop j (lines is_lf t)) S → T (room_ok (full n) changed) → Ok n changed
  ok_changed s r = ok_both n changed r (alike_all admissible (alike_from admissible j each_here s) (rw (unlines-lines is_lf t) (ok_admissible n t h)))

good_space : T (admissible 32)
unfolding admissible scalar
good_space = tt

pub small-both : (p : Position) → T (small_position p) → (p.row.0 ≤ 1_000_000) × (p.col.0 ≤ 1_000_000)
small-both p h =
    (leb→le p.row.0 1_000_000 (T-left (small p.row.0) (small p.col.0) h), leb→le p.col.0 1_000_000 (T-right (small p.row.0) (small p.col.0) h))

-- ---- the two edits are accepted

module _ (n : ℕ) (t : List ℕ) (h : Ok n t) (p : Position) (at_small : T (small_position p)) where
  abbrev below : Rows
  below = drop p.row.0 (lines is_lf t)

  done_put : (ks : Chunks) (u : List ℕ) → from_row (lines is_lf t) p.row.0 (put_all 32 p.col.0 ks below) ≡ u
      → block_inserted is_lf is_space spaces t p (flatten ks) (map length ks) ≡ edited u (whole (DeleteBlockChunks p) [] (map length ks) (pads_of p.col.0 ks below)) (clamp is_lf u p)
  unfolding block_inserted
  done_put ks u e = rw (pieces-flatten ks, e)

  done_cut : (ws ds u : List ℕ) → from_row (lines is_lf t) p.row.0 (cut_all p.col.0 ws ds below) ≡ u
      → chunks_deleted is_lf is_space spaces t p ws ds
      ≡ edited u (whole (InsertBlock p) (flatten (chunks_of p.col.0 ws below)) (map length (chunks_of p.col.0 ws below)) []) (clamp is_lf u p)
  unfolding chunks_deleted
  done_cut ws ds u e = rw e

  -- with the payload that chunks make
  step-put : (ks : Chunks) → length ks ≤ 256 → length (flatten ks) ≤ 16384 → T (all admissible (flatten ks)) → Plain (flatten ks) → (u : List ℕ)
      → from_row (lines is_lf t) p.row.0 (put_all 32 p.col.0 ks below) ≡ u → T (room_ok (full n) u)
      → Step n t (whole (InsertBlock p) (flatten ks) (map length ks) []) u (whole (DeleteBlockChunks p) [] (map length ks) (pads_of p.col.0 ks below))
  unfolding edited_by small_ok few_ok payload_ok within_ok
  step-put ks a b c d u e r =
      let i : Whole ℕ = whole (DeleteBlockChunks p) [] (map length ks) (pads_of p.col.0 ks below) in
      let q : block_inserted is_lf is_space spaces t p (flatten ks) (map length ks) ≡ edited u i (clamp is_lf u p) = done_put ks u e in
      record {
        fine = record {
          textual = h;
          smalls = T-both (small_position p) (all small (map length ks)) at_small (lengths_small ks (omega arith));
          fews = rw (length-map ks length, le-leb (length ks) 256 a, le-leb (length (flatten ks)) 16384 b) tt;
          payloads = rw (T_true (all admissible (flatten ks)) c, T_true (all not_lf (flatten ks)) d, eq-eqb (sum (map length ks)) (length (flatten ks)) (sum-lengths ks)) tt;
          withins = tt;
          rooms = rw q r;
        };
        text = ap (λ (o : Edited ℕ). o.text) q;
        inverse = ap (λ (o : Edited ℕ). o.inverse) q;
      }

  step_cut : (ws ds : List ℕ) → T (all small ws) → T (all small ds) → length ws ≤ 256 → length ds ≤ 256 → (u : List ℕ)
      → from_row (lines is_lf t) p.row.0 (cut_all p.col.0 ws ds below) ≡ u → T (room_ok (full n) u)
      → Step n t (whole (DeleteBlockChunks p) [] ws ds) u (whole (InsertBlock p) (flatten (chunks_of p.col.0 ws below)) (map length (chunks_of p.col.0 ws below)) [])
  unfolding edited_by small_ok few_ok payload_ok within_ok
  step_cut ws ds a b c d u e r =
      let ks = chunks_of p.col.0 ws below in
      let i : Whole ℕ = whole (InsertBlock p) (flatten ks) (map length ks) [] in
      let q : chunks_deleted is_lf is_space spaces t p ws ds ≡ edited u i (clamp is_lf u p) = done_cut ws ds u e in
      record {
        fine = record {
          textual = h;
          smalls = T-both (small_position p && all small ws) (all small ds) (T-both (small_position p) (all small ws) at_small a) b;
          fews = rw (le-leb (length ws) 256 c, le-leb (length ds) 256 d) tt;
          payloads = tt;
          withins = tt;
          rooms = rw q r;
        };
        text = ap (λ (o : Edited ℕ). o.text) q;
        inverse = ap (λ (o : Edited ℕ). o.inverse) q;
      }

-- ---- a block insert

module _ (n : ℕ) (t : List ℕ) (h : Ok n t) (p : Position) (at_small : T (small_position p)) (ks : Chunks) (few : length ks ≤ 256)
    (ka : T (all admissible (flatten ks))) (kp : Plain (flatten ks)) (ksmall : T (all small (map length ks))) where
  abbrev j : ℕ
  j = p.row.0

  abbrev c : ℕ
  c = p.col.0

  abbrev B : Rows
  B = drop j (lines is_lf t)

  abbrev S : Rows
  S = put_all 32 c ks B

  abbrev u : List ℕ
  u = from_row (lines is_lf t) j S

  plain-S : Alike not_lf B S
  plain-S = alike_put not_lf tt c ks kp (plain-below n t h j S)

  good-S : Alike admissible B S
  good-S = alike_put admissible good_space c ks ka (good_below n t h j S)

  module _ (room : T (room_ok (full n) u)) where
    ok_u : Ok n u
    ok_u = ok_changed n t h j S good-S room

    above_u : take j (lines is_lf u) ≡ take j (lines is_lf t)
    above_u = above_changed n t h j S plain-S

    below_u : drop j (lines is_lf u) ≡ S
    below_u = below_changed n t h j S plain-S

    abbrev ks' : Chunks
    ks' = chunks_of c (map length ks) S

    cut_u : Step n u (whole (DeleteBlockChunks p) [] (map length ks) (pads_of c ks B)) t (whole (InsertBlock p) (flatten ks') (map length ks') [])
    cut_u =
        let e : from_row (lines is_lf u) j (cut_all c (map length ks) (pads_of c ks B) (drop j (lines is_lf u))) ≡ t = rw (above_u, below_u, cut_put c ks B, take-append-drop j (lines is_lf t)) (unlines-lines is_lf t) in
        rw below_u at (step_cut n u ok_u p at_small (map length ks) (pads_of c ks B) ksmall (pads_of-small c ks B (small-both p at_small).1) (rw (length-map ks length) few) (rw (pads_of-length c ks B) few) t e (ok_room n t h))

    put-t : Step n t (whole (InsertBlock p) (flatten ks') (map length ks') []) u (whole (DeleteBlockChunks p) [] (map length ks') (pads_of c ks' B))
    put-t =
        let e : from_row (lines is_lf t) j (put_all 32 c ks' B) ≡ u = rw (put-chunks c ks B) in
        let l : length (flatten ks') ≤ length u = rw below_u at (chunks_le u c j (map length ks)) in
        step-put n t h p at_small ks' (omega (arith, chunks_of-length c (map length ks) S, length-map ks length)) (omega (arith, l, ok_short n u ok_u))
        (chunks_of-all admissible c (map length ks) (alike_each admissible good-S)) (chunks_of-all not_lf c (map length ks) (alike_each not_lf plain-S)) u e room

    back_put : Back n t u (whole (DeleteBlockChunks p) [] (map length ks) (pads_of c ks B))
    back_put = (_, _, cut_u, put-t)

-- ---- a block delete

module _ (n : ℕ) (t : List ℕ) (h : Ok n t) (p : Position) (at_small : T (small_position p)) (ws : List ℕ) (few : length ws ≤ 256)
    (enough : T (wide p.col.0 (take (length ws) (drop p.row.0 (lines is_lf t))))) where
  abbrev i : ℕ
  i = p.row.0

  abbrev d : ℕ
  d = p.col.0

  abbrev D : Rows
  D = drop i (lines is_lf t)

  abbrev C : Rows
  C = cut_all d ws [] D

  abbrev qs : Chunks
  qs = chunks_of d ws D

  abbrev v : List ℕ
  v = from_row (lines is_lf t) i C

  plain-C : Alike not_lf D C
  plain-C = alike_cut not_lf d ws [] (plain-below n t h i C)

  module _ (room : T (room_ok (full n) v)) where
    ok_v : Ok n v
    ok_v = ok_changed n t h i C (alike_cut admissible d ws [] (good_below n t h i C)) room

    above_v : take i (lines is_lf v) ≡ take i (lines is_lf t)
    above_v = above_changed n t h i C plain-C

    below_v : drop i (lines is_lf v) ≡ C
    below_v = below_changed n t h i C plain-C

    qs_few : length qs ≤ 256
    qs_few = rw (chunks_of-length d ws D) few

    qs_short : length (flatten qs) ≤ 16384
    qs_short = omega (arith, chunks_le t d i ws, ok_short n t h)

    put-v : Step n v (whole (InsertBlock p) (flatten qs) (map length qs) []) t (whole (DeleteBlockChunks p) [] (map length qs) (pads_of d qs C))
    put-v =
        let e : from_row (lines is_lf v) i (put_all 32 d qs (drop i (lines is_lf v))) ≡ t = rw (above_v, below_v, put-cut d ws D enough, take-append-drop i (lines is_lf t)) (unlines-lines is_lf t) in
        rw below_v at (step-put n v ok_v p at_small qs qs_few qs_short (chunks_of-all admissible d ws (good_below n t h i C)) (chunks_of-all not_lf d ws (plain-below n t h i C)) t e (ok_room n t h))

    cut_t : Step n t (whole (DeleteBlockChunks p) [] (map length qs) (pads_of d qs C)) v (whole (InsertBlock p) (flatten (chunks_of d (map length qs) D)) (map length (chunks_of d (map length qs) D)) [])
    cut_t =
        let e : from_row (lines is_lf t) i (cut_all d (map length qs) (pads_of d qs C) D) ≡ v = rw (cut_again d ws D enough) in
        step_cut n t h p at_small (map length qs) (pads_of d qs C) (lengths_small qs (omega (arith, qs_short))) (pads_of-small d qs C (small-both p at_small).1) (rw (length-map qs length) qs_few) (rw (pads_of-length d qs C) qs_few) v e room

    back_cut : Back n t v (whole (InsertBlock p) (flatten qs) (map length qs) [])
    back_cut = (_, _, put-v, cut_t)

-- ---- the two kinds

pub back_block_insert : (n : ℕ) (t : List ℕ) (p : Position) (x ns s : List ℕ) → Fine n t (whole (InsertBlock p) x ns s)
    → Back n t (block_inserted is_lf is_space spaces t p x ns).text (block_inserted is_lf is_space spaces t p x ns).inverse
unfolding block_inserted small_ok few_ok payload_ok edited_by
back_block_insert n t p x ns s f =
    let ks = pieces ns x in
    let good : T (all admissible x && all not_lf x) = T-left (all admissible x && all not_lf x) (eqb (sum ns) (length x)) f.payloads in
    let m : sum ns ≡ length x = eqb→eq (sum ns) (length x) (T-right (all admissible x && all not_lf x) (eqb (sum ns) (length x)) f.payloads) in
    let e : map length ks ≡ ns = pieces-lengths ns x (omega arith) in
    let a : T (small_position p) = T-left (small_position p) (all small ns) f.smalls in
    let l : length ks ≤ 256 = omega (arith, length-map ks length, ap length e, leb→le (length ns) 256 (T-left (few ns) (short x) f.fews)) in
    subst (λ (ms : List ℕ). Back n t (block_inserted is_lf is_space spaces t p x ns).text (whole (DeleteBlockChunks p) [] ms (pads_of p.col.0 ks (drop p.row.0 (lines is_lf t))))) e
    (back_put n t f.textual p a ks l (pieces-all admissible ns x (T-left (all admissible x) (all not_lf x) good)) (pieces-all not_lf ns x (T-right (all admissible x) (all not_lf x) good))
    (rw e (T-right (small_position p) (all small ns) f.smalls)) f.rooms)

pub back_block_delete : (n : ℕ) (t : List ℕ) (p q : Position) (x g s : List ℕ) → Fine n t (whole (DeleteRange p q Block) x g s) → T (range_undoable t p q Block)
    → Back n t (range_deleted is_lf is_space spaces t p q Block).text (range_deleted is_lf is_space spaces t p q Block).inverse
unfolding range_deleted chunks_deleted small_ok small_range few_ok few_rows range_undoable edited_by
back_block_delete n t p q x g s f u =
    let a : (p.row.0 ≤ 1_000_000) × (p.col.0 ≤ 1_000_000) = small-both p (T-left (small_position p) (small_position q) f.smalls) in
    let ws = replicate (height p q) (breadth p q) in
    let l : length ws ≡ height p q = length-replicate (height p q) (breadth p q) in
    back_cut n t f.textual (corner p q) (rw (le-leb (corner p q).row.0 1_000_000 (omega arith), le-leb (corner p q).col.0 1_000_000 (omega arith)) tt) ws
    (omega (arith, leb→le (height p q) 256 f.fews)) (rw l u) f.rooms
