-- Demand 3 for joins: a split at the recorded columns undoes a join, and the join it returns does it again.
use mathlib.Core.Path.{◌≡◌, refl, sym, ◌∙◌, ap, subst}
use mathlib.Core.List.{List, [], ◌∷◌, ◌++◌}
use mathlib.Core.Bool.{Bool, true, false, not, ◌&&◌, ◌||◌, or-true}
use Prim.Native.Nat.{ℕ, zero, suc, ◌+◌, ◌-◌, ◌≤◌, min, max}
use native.Mathlib.Nat.{min-eq_left}
use native.Mathlib.Decide.{dec_le}
use native.Mathlib.Omega.{arith}
use lib.ListN.{length, take, drop, get_or, length-append, length-take, length-drop, take-append-drop, drop_of_length-le}
use lib.Seq.{take-length, drop-length, length-take-le, append_snoc, get_or-append_seam, take-append_seam, drop-append_seam, take_all, drop_at, split_at}
use lib.Dec.{eqb-suc-zero, T, leb, eqb, leb→le, le→leb}
use borrow.Author.Tests.{le-leb}
use Rattle.text.specs.declared.Row.{Row}
use Rattle.text.specs.Rows.{Line, line, lines, unlines, row_count, last_row, row_len, at}
use Rattle.text.specs.Text.{is_lf, admissible, all}
use Rattle.text.proofs.Laws.{unlines-lines, len_le, last_le, count_pos}
use Rattle.utf8.specs.Rfc3629.{scalar}
use Rattle.edit.specs.declared.Edit.TheVariants.{JoinLines, SplitLines}
use Rattle.edit.specs.Edits.{whole, Edited, edited, row_at, gap, join_next, join_row, join_cols, join_flags, joined, unspace, split_first, split_row, any_flag, split, edited_by}
use Rattle.edit.specs.Refusals.{is_space, spaces, small, small_ok, few_ok, payload_ok, within_first, within_all, within_ok, room_ok}
use Rattle.promise.proofs.Bools.{T-both}
use Rattle.text.proofs.Alls.{all_append, all_left, all_right}
use Rattle.edit.proofs.Accepted.{full, Ok, Step, Back, ok_room, ok_short, ok_admissible, ok_both}
use Rattle.text.proofs.Broken.{Broken, next, lines-broken, lines-unlines, unlines-append, first_unbroken, first_body, broken_right, broken_change}
use Rattle.text.proofs.Ended.{Ended, ended_lf}

-- ---- one split of a row undoes one join

-- each of these rows but the last ends in LF
pub data Chained : Line ℕ → List (Line ℕ) → Type 0 where
  one : (r : Line ℕ) → Chained r []
  link : (b : List ℕ) {s : Line ℕ} {ss : List (Line ℕ)} → Chained s ss → Chained (line b (10 ∷ [])) (s ∷ ss)

chained_take : (m : ℕ) {x : Line ℕ} {B : List (Line ℕ)} → Ended (x ∷ B) → Chained x (take m B)
chained_take zero {x} h = one x
chained_take (suc m) {x} {B = []} h = one x
chained_take (suc m) {x} {B = y ∷ B} h = let l = ended_lf h in subst (λ (a : List ℕ). Chained (line x.body a) (y ∷ take m B)) (sym l.0) (link x.body (chained_take m l.1))

chained_join : (b : Bool) (r : Line ℕ) {s : Line ℕ} {ss : List (Line ℕ)} → Chained s ss → Chained (join_next 32 b r s) ss
chained_join b r (one s) = one (join_next 32 b r s)
chained_join b r (link c h) = link (r.body ++ (gap 32 b r.body c ++ c)) h

unspace-gap : (b : Bool) (r s : List ℕ) → unspace is_lf is_space spaces (length (gap 32 b r s)) (gap 32 b r s ++ s) ≡ s
unfolding gap unspace
unspace-gap true (x ∷ r) (y ∷ s) = refl
unspace-gap true (x ∷ r) [] = refl
unspace-gap true [] s = refl
unspace-gap false r s = refl

-- splitting a joined row gives back its rows
pub split-join : (b : Bool) (r : Line ℕ) (rs : List (Line ℕ)) → Chained r rs → split_row is_lf is_space spaces (join_row 32 b r rs) (join_cols 32 b r rs) (join_flags 32 b r rs) ≡ r ∷ rs
unfolding split_row join_row join_cols join_flags split_first
split-join b r [] h = refl
split-join b r (s ∷ ss) (link c h) =
    let g = gap 32 b c s.body ++ s.body in
    rw (split-join b (join_next 32 b (line c (10 ∷ [])) s) ss (chained_join b (line c (10 ∷ [])) h), take-append_seam c g, drop-append_seam c g, unspace-gap b c s.body)

next_length : (b : Bool) (r s : List ℕ) → length (r ++ (gap 32 b r s ++ s)) ≡ length r + (length (gap 32 b r s) + length s)
next_length b r s = rw (length-append r (gap 32 b r s ++ s), length-append (gap 32 b r s) s)

-- and each column is within its row
pub split-join-within : (b : Bool) (r : Line ℕ) (rs : List (Line ℕ)) → Chained r rs → T (within_all (join_row 32 b r rs) (join_cols 32 b r rs) (join_flags 32 b r rs))
unfolding within_all within_first join_row join_cols join_flags
split-join-within b r [] h = tt
split-join-within b r (s ∷ ss) (link c h) =
    let q = join_next 32 b (line c (10 ∷ [])) s in
    let f = length (gap 32 b c s.body) in
    let l : leb (length c) (length q.body) ≡ true = le-leb (length c) (length q.body) (omega (arith, next_length b c s.body)) in
    let k = chained_join b (line c (10 ∷ [])) h in
    T-both (within_first (length c) f (split_row is_lf is_space spaces (join_row 32 b q ss) (join_cols 32 b q ss) (join_flags 32 b q ss)))
    (within_all (join_row 32 b q ss) (join_cols 32 b q ss) (join_flags 32 b q ss)) (rw (split-join b q ss k, l, or-true (eqb f 0)) tt) (split-join-within b q ss k)

-- ---- sizes

pub join_cols-length : (b : Bool) (r : Line ℕ) (rs : List (Line ℕ)) → length (join_cols 32 b r rs) ≡ length rs
unfolding join_cols
join_cols-length b r [] = refl
join_cols-length b r (s ∷ rs) = ap suc (join_cols-length b (join_next 32 b r s) rs)

pub join_flags-length : (b : Bool) (r : Line ℕ) (rs : List (Line ℕ)) → length (join_flags 32 b r rs) ≡ length rs
unfolding join_flags
join_flags-length b r [] = refl
join_flags-length b r (s ∷ rs) = ap suc (join_flags-length b (join_next 32 b r s) rs)

join_row-le : (b : Bool) (r : Line ℕ) (rs : List (Line ℕ)) → length r.body ≤ length (join_row 32 b r rs).body
unfolding join_row
join_row-le b r [] = omega arith
join_row-le b r (s ∷ rs) = omega (arith, join_row-le b (join_next 32 b r s) rs, next_length b r.body s.body)

pub join_cols-small : (b : Bool) (r : Line ℕ) (rs : List (Line ℕ)) → length (join_row 32 b r rs).body ≤ 1_000_000 → T (all small (join_cols 32 b r rs))
unfolding join_row join_cols all
join_cols-small b r [] h = tt
join_cols-small b r (s ∷ rs) h =
    let q = join_next 32 b r s in
    T-both (small (length r.body)) (all small (join_cols 32 b q rs)) (le→leb (length r.body) 1_000_000 (omega (arith, join_row-le b q rs, next_length b r.body s.body))) (join_cols-small b q rs h)

-- a flag is 0 or 1
module _ (f : ℕ → Bool) (none : T (f 0)) (some : T (f 1)) where
  gap-flag : (b : Bool) (r s : List ℕ) → T (f (length (gap 32 b r s)))
  unfolding gap
  gap-flag true (x ∷ r) (y ∷ s) = some
  gap-flag true (x ∷ r) [] = none
  gap-flag true [] s = none
  gap-flag false r s = none

  pub join_flags-all : (b : Bool) (r : Line ℕ) (rs : List (Line ℕ)) → T (all f (join_flags 32 b r rs))
  unfolding join_flags all
  join_flags-all b r [] = tt
  join_flags-all b r (s ∷ rs) =
      T-both (f (length (gap 32 b r.body s.body))) (all f (join_flags 32 b (join_next 32 b r s) rs)) (gap-flag b r.body s.body) (join_flags-all b (join_next 32 b r s) rs)

-- ---- a join more at the end

module _ (b : Bool) (y : Line ℕ) where
  pub join_row-snoc : (r : Line ℕ) (rs : List (Line ℕ)) → join_row 32 b r (rs ++ (y ∷ [])) ≡ join_next 32 b (join_row 32 b r rs) y
  unfolding join_row
  join_row-snoc r [] = refl
  join_row-snoc r (s ∷ rs) = join_row-snoc (join_next 32 b r s) rs

  pub join_cols-snoc : (r : Line ℕ) (rs : List (Line ℕ)) → join_cols 32 b r (rs ++ (y ∷ [])) ≡ join_cols 32 b r rs ++ (length (join_row 32 b r rs).body ∷ [])
  unfolding join_row join_cols
  join_cols-snoc r [] = refl
  join_cols-snoc r (s ∷ rs) = ap (◌∷◌ (length r.body)) (join_cols-snoc (join_next 32 b r s) rs)

  pub join_flags-snoc : (r : Line ℕ) (rs : List (Line ℕ)) → join_flags 32 b r (rs ++ (y ∷ [])) ≡ join_flags 32 b r rs ++ (length (gap 32 b (join_row 32 b r rs).body y.body) ∷ [])
  unfolding join_row join_flags
  join_flags-snoc r [] = refl
  join_flags-snoc r (s ∷ rs) = ap (◌∷◌ (length (gap 32 b r.body s.body))) (join_flags-snoc (join_next 32 b r s) rs)

-- ---- characters

module _ {A : Type 0} (f : A → Bool) (space : A) (passes : T (f space)) where
  pub gap-all : (b : Bool) (r s : List A) → T (all f (gap space b r s))
  unfolding gap all
  gap-all true (x ∷ r) (y ∷ s) = T-both (f space) true passes tt
  gap-all true (x ∷ r) [] = tt
  gap-all true [] s = tt
  gap-all false r s = tt

  next_all : (b : Bool) (r s : List A) → T (all f r) → T (all f s) → T (all f (r ++ (gap space b r s ++ s)))
  next_all b r s p q = all_append f r (gap space b r s ++ s) p (all_append f (gap space b r s) s (gap-all b r s) q)

module _ (f : ℕ → Bool) (space : T (f 32)) where
  one-all : (b : Bool) (x s : Line ℕ) (B : List (Line ℕ)) → T (all f (unlines (x ∷ s ∷ B))) → T (all f (unlines (join_next 32 b x s ∷ B)))
  unfolding unlines
  one-all b x s B p =
      let below = s.after ++ unlines B in
      let q = all_right f x.after (s.body ++ below) (all_right f x.body (x.after ++ (s.body ++ below)) p) in
      all_append f (join_next 32 b x s).body below
      (next_all f 32 space b x.body s.body (all_left f x.body (x.after ++ (s.body ++ below)) p) (all_left f s.body below q)) (all_right f s.body below q)

  -- the text after the join of x with the first m of B
  join-all : (b : Bool) (m : ℕ) (x : Line ℕ) (B : List (Line ℕ)) → T (all f (unlines (x ∷ B))) → T (all f (unlines (join_row 32 b x (take m B) ∷ drop m B)))
  unfolding join_row
  join-all b zero x B p = p
  join-all b (suc m) x [] p = p
  join-all b (suc m) x (s ∷ B) p = join-all b m (join_next 32 b x s) B (one-all b x s B p)

  joined-all : (b : Bool) (m : ℕ) (A : List (Line ℕ)) (x : Line ℕ) (B : List (Line ℕ)) → T (all f (unlines (A ++ x ∷ B))) → T (all f (unlines (A ++ join_row 32 b x (take m B) ∷ drop m B)))
  joined-all b m A x B p =
      let q = rw (unlines-append A (x ∷ B)) at p in
      rw (unlines-append A (join_row 32 b x (take m B) ∷ drop m B))
      (all_append f (unlines A) (unlines (join_row 32 b x (take m B) ∷ drop m B)) (all_left f (unlines A) (unlines (x ∷ B)) q) (join-all b m x B (all_right f (unlines A) (unlines (x ∷ B)) q)))

-- ---- the rows stay those of a text

module _ {A : Type 0} (lf : A → Bool) (space : A) (dull : T (not (lf space))) where
  pub next_broken : (b : Bool) {x s : Line A} {B : List (Line A)} → Broken lf (x ∷ s ∷ B) → Broken lf (join_next space b x s ∷ B)
  next_broken b {x} {s} (next c y p e h) = first_body lf (c ++ (gap space b c s.body ++ s.body)) (next_all (λ y. not (lf y)) space dull b c s.body p (first_unbroken lf h)) h

  pub join-broken : (b : Bool) (m : ℕ) (x : Line A) (B : List (Line A)) → Broken lf (x ∷ B) → Broken lf (join_row space b x (take m B) ∷ drop m B)
  unfolding join_row
  join-broken b zero x B h = h
  join-broken b (suc m) x [] h = h
  join-broken b (suc m) x (s ∷ B) h = join-broken b m (join_next space b x s) B (next_broken b h)

-- ---- the flag that a split returns joins as the first did

no_gap : (b : Bool) (r : Line ℕ) (rs : List (Line ℕ)) → any_flag (join_flags 32 b r rs) ≡ false → join_row 32 false r rs ≡ join_row 32 b r rs
unfolding join_row join_flags any_flag gap
no_gap b r [] e = refl
no_gap b r (s ∷ rs) e = go (gap 32 b r.body s.body) refl e (λ k. no_gap b (join_next 32 b r s) rs k)
  where
    go : (g : List ℕ) → gap 32 b r.body s.body ≡ g → not (eqb (length g) 0) || any_flag (join_flags 32 b (join_next 32 b r s) rs) ≡ false
        → (any_flag (join_flags 32 b (join_next 32 b r s) rs) ≡ false → join_row 32 false (join_next 32 b r s) rs ≡ join_row 32 b (join_next 32 b r s) rs)
        → join_row 32 false (line (r.body ++ ([] ++ s.body)) s.after) rs ≡ join_row 32 b (join_next 32 b r s) rs
    go [] q e f = ap (λ (g : List ℕ). join_row 32 false (line (r.body ++ (g ++ s.body)) s.after) rs) (sym q) ∙ f e
    go (x ∷ g) q e f = let z : true ≡ false = rw (eqb-suc-zero (length g)) at e in cc

no_flag : (r : Line ℕ) (rs : List (Line ℕ)) → any_flag (join_flags 32 false r rs) ≡ false
unfolding gap join_flags any_flag
no_flag r [] = refl
no_flag r (s ∷ rs) = no_flag (join_next 32 false r s) rs

pub join-again : (b : Bool) (r : Line ℕ) (rs : List (Line ℕ)) → join_row 32 (any_flag (join_flags 32 b r rs)) r rs ≡ join_row 32 b r rs
join-again true r rs = go (any_flag (join_flags 32 true r rs)) refl
  where
    go : (c : Bool) → any_flag (join_flags 32 true r rs) ≡ c → join_row 32 c r rs ≡ join_row 32 true r rs
    go true e = refl
    go false e = no_gap true r rs e
join-again false r rs = rw (no_flag r rs)

-- as many joins as were made are made again
module _ (m : ℕ) (B : List (Line ℕ)) (h : 1 ≤ m) where
  -- both go for all of B, or the two numbers are the same
  again : {X : Type 0} (f : ℕ → X) → ((j : ℕ) → length B ≤ j → f j ≡ f (length B)) → f (max (length (take m B)) 1) ≡ f m
  again f g = elim (dec_le m (length B)) [ yes k ↦ ap f (omega (arith, length-take-le m B k)) | no k ↦ g _ (omega (arith, length-take m B)) ∙ sym (g m (omega arith)) ]

  pub take_again : take (max (length (take m B)) 1) B ≡ take m B
  take_again = again (λ j. take j B) (λ j k. take_all j B k ∙ sym (take-length B))

  pub drop-again : drop (max (length (take m B)) 1) B ≡ drop m B
  drop-again = again (λ j. drop j B) (λ j k. drop_of_length-le B k ∙ sym (drop-length B))

-- ---- the text that has the rows A, x and B

module _ (t : List ℕ) (A : List (Line ℕ)) (x : Line ℕ) (B : List (Line ℕ)) (e : lines is_lf t ≡ A ++ x ∷ B) where
  row_le : length A ≤ last_row is_lf t
  unfolding last_row row_count
  row_le = rw e (omega (arith, length-append A (x ∷ B)))

  pub row_min : min (length A) (last_row is_lf t) ≡ length A
  row_min = min-eq_left row_le

  drop-row : drop (suc (length A)) (A ++ x ∷ B) ≡ B
  drop-row = ap (drop (suc (length A))) (sym (append_snoc A x B)) ∙ drop_at (A ++ (x ∷ [])) B (suc (length A)) (length-append A (x ∷ []) ∙ omega arith)

  pub joined-rows : (n : ℕ) (b : Bool)
      → joined is_lf is_space spaces t (length A) n b
      ≡ edited (unlines (A ++ join_row 32 b x (take (max n 1) B) ∷ drop (max n 1) B))
      (whole (SplitLines (row_at (length A))) [] (join_cols 32 b x (take (max n 1) B)) (join_flags 32 b x (take (max n 1) B))) (at (length A) 0)
  unfolding joined
  joined-rows n b = rw (row_min, e, take-append_seam A (x ∷ B), get_or-append_seam A x B (line [] []), drop-row)

  pub split_rows : (cs fs : List ℕ)
      → split is_lf is_space spaces t (length A) cs fs
      ≡ edited (unlines (A ++ (split_row is_lf is_space spaces x cs fs ++ B))) (whole (JoinLines (row_at (length A)) (length cs) (any_flag fs)) [] [] []) (at (length A) 0)
  unfolding split
  split_rows cs fs = rw (row_min, e, take-append_seam A (x ∷ B), get_or-append_seam A x B (line [] []), drop-row)

-- ---- joins, undone and redone

module _ (n : ℕ) (t : List ℕ) (h : Ok n t) (A : List (Line ℕ)) (x : Line ℕ) (B : List (Line ℕ)) (e : lines is_lf t ≡ A ++ x ∷ B) (m : ℕ) (m1 : 1 ≤ m) (b : Bool) (many : length (take m B) ≤ 256) where
  abbrev ys : List (Line ℕ)
  ys = take m B

  abbrev z : Line ℕ
  z = join_row 32 b x ys

  abbrev u : List ℕ
  u = unlines (A ++ z ∷ drop m B)

  abbrev cols : List ℕ
  cols = join_cols 32 b x ys

  abbrev flags : List ℕ
  flags = join_flags 32 b x ys

  rows-ended : Ended (A ++ x ∷ B)
  rows-ended = rw e at (lines-broken is_lf t)

  lines-u : lines is_lf u ≡ A ++ z ∷ drop m B
  lines-u = lines-unlines is_lf (broken_change is_lf A x B (z ∷ drop m B) rows-ended (join-broken is_lf 32 tt b m x B (broken_right is_lf A x B rows-ended)))

  chained : Chained x ys
  chained = chained_take m (broken_right is_lf A x B rows-ended)

  module _ (room : T (room_ok (full n) u)) where
    ok_u : Ok n u
    unfolding admissible scalar
    ok_u =
        let q : unlines (A ++ x ∷ B) ≡ t = ap unlines (sym e) ∙ unlines-lines is_lf t in
        ok_both n u room (joined-all admissible tt b m A x B (rw q (ok_admissible n t h)))

    small-A : T (small (length A))
    small-A = le→leb (length A) 1_000_000 (omega (arith, row_le t A x B e, last_le is_lf t, ok_short n t h))

    z_le : length z.body ≤ 16384
    unfolding row_len
    z_le =
        let q : row_len is_lf u (length A) ≡ length z.body = rw (lines-u, get_or-append_seam A z (drop m B) (line [] [])) in
        omega (arith, len_le is_lf u (length A), ok_short n u ok_u)

    same_t : unlines (A ++ ((x ∷ ys) ++ drop m B)) ≡ t
    same_t = rw (take-append-drop m B, ← e) (unlines-lines is_lf t)

    undone : split is_lf is_space spaces u (length A) cols flags ≡ edited t (whole (JoinLines (row_at (length A)) (length cols) (any_flag flags)) [] [] []) (at (length A) 0)
    undone = rw (split_rows u A z (drop m B) lines-u cols flags, split-join b x ys chained, same_t)

    redone :
        joined is_lf is_space spaces t (length A) (length cols) (any_flag flags)
        ≡ edited u (whole (SplitLines (row_at (length A))) [] (join_cols 32 (any_flag flags) x ys) (join_flags 32 (any_flag flags) x ys)) (at (length A) 0)
    redone = rw (joined-rows t A x B e (length cols) (any_flag flags), join_cols-length b x ys, take_again m B m1, drop-again m B m1, join-again b x ys)

    step-split : Step n u (whole (SplitLines (row_at (length A))) [] cols flags) t (whole (JoinLines (row_at (length A)) (length cols) (any_flag flags)) [] [] [])
    unfolding edited_by small_ok few_ok payload_ok within_ok
    step-split = record {
      fine = record {
        textual = ok_u;
        smalls = T-both (small (length A) && all small cols) (all small flags) (T-both (small (length A)) (all small cols) small-A (join_cols-small b x ys (omega (arith, z_le)))) (join_flags-all small tt tt b x ys);
        fews = rw (join_cols-length b x ys, join_flags-length b x ys, le-leb (length ys) 256 many) tt;
        payloads = tt;
        withins = rw (row_min u A z (drop m B) lines-u, lines-u, get_or-append_seam A z (drop m B) (line [] [])) (split-join-within b x ys chained);
        rooms = rw undone (ok_room n t h);
      };
      text = ap (λ (d : Edited ℕ). d.text) undone;
      inverse = ap (λ (d : Edited ℕ). d.inverse) undone;
    }

    step-join : Step n t (whole (JoinLines (row_at (length A)) (length cols) (any_flag flags)) [] [] []) u (whole (SplitLines (row_at (length A))) [] (join_cols 32 (any_flag flags) x ys) (join_flags 32 (any_flag flags) x ys))
    unfolding edited_by small_ok few_ok payload_ok within_ok
    step-join = record {
      fine = record {
        textual = h;
        smalls = T-both (small (length A)) (small (length cols)) small-A (le→leb (length cols) 1_000_000 (omega (arith, join_cols-length b x ys)));
        fews = le→leb (min (max (length cols) 1) (last_row is_lf t - min (length A) (last_row is_lf t))) 256 (omega (arith, join_cols-length b x ys));
        payloads = tt;
        withins = tt;
        rooms = rw redone (ok_room n u ok_u);
      };
      text = ap (λ (d : Edited ℕ). d.text) redone;
      inverse = ap (λ (d : Edited ℕ). d.inverse) redone;
    }

    back_rows : Back n t u (whole (SplitLines (row_at (length A))) [] cols flags)
    back_rows = (_, _, step-split, step-join)

below_last : (k r : ℕ) → k - suc r ≡ k - 1 - r
below_last k r = omega arith

-- the joins that a join makes are at most 256
pub joins-few : (t : List ℕ) (row : Row) (count : ℕ) (b : Bool) (x f s : List ℕ) → T (few_ok t (JoinLines row count b) x f s)
    → length (take (max count 1) (drop (suc (min row.0 (last_row is_lf t))) (lines is_lf t))) ≤ 256
unfolding few_ok last_row row_count
joins-few t row count b x f s few =
    let R = lines is_lf t in
    let r = min row.0 (length R - 1) in
    let m = max count 1 in
    rw (length-take m (drop (suc r) R), length-drop (suc r) R, below_last (length R) r) (leb→le (min m (length R - 1 - r)) 256 few)

pub back_join : (n : ℕ) (t : List ℕ) → Ok n t → (row : Row) (count : ℕ) (b : Bool)
    → T (few_ok t (JoinLines row count b) [] [] []) → T (room_ok (full n) (joined is_lf is_space spaces t row.0 count b).text)
    → Back n t (joined is_lf is_space spaces t row.0 count b).text (joined is_lf is_space spaces t row.0 count b).inverse
unfolding joined few_ok last_row row_count
back_join n t h row count b few room =
    let R = lines is_lf t in
    let r = min row.0 (length R - 1) in
    let m = max count 1 in
    let x = get_or R r (line [] []) in
    let B = drop (suc r) R in
    let l : 1 ≤ length R = count_pos is_lf t in
    let e : R ≡ take r R ++ x ∷ B = split_at R r (line [] []) (omega arith) in
    let a : length (take r R) ≡ r = length-take-le r R (omega arith) in
    let many : length (take m B) ≤ 256 = joins-few t row count b [] [] [] few in
    subst (λ (k : ℕ). Back n t (unlines (take r R ++ join_row 32 b x (take m B) ∷ drop m B)) (whole (SplitLines (row_at k)) [] (join_cols 32 b x (take m B)) (join_flags 32 b x (take m B)))) a
    (back_rows n t h (take r R) x B e m (omega arith) b many room)
