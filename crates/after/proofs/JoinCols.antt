-- The columns at which rows start once they are joined: their list, the walk of `start_col` over it, and where a position lands.
use mathlib.Core.Path.{◌≡◌, refl, sym, ap, ◌∙◌}
use mathlib.Core.Bool.{Bool, true, false, cond, ◌||◌, or-true}
use mathlib.Core.List.{List, [], ◌∷◌, map}
use mathlib.Core.Logic.{inl, inr, ⊎_elim}
use Prim.Native.Nat.{ℕ, zero, suc, ◌+◌, ◌-◌, ◌≤◌, ◌<◌, min, max}
use native.Mathlib.Nat.{eq-or-lt_of_le, sub-zero}
use native.Mathlib.Decide.{dec_le}
use native.Mathlib.Numerals.{add-one}
use native.Mathlib.Omega.{arith}
use borrow.Author.Tests.{lt-ltb, le-ltb, le-leb, lt-leb, eq-eqb, ne_eqb}
use lib.Dec.{ltb, eqb, leb}
use lib.ListN.{length, take, drop, get_or, length-take}
use lib.Seq.{drop-cons, drop-drop, get_or-drop, get_or-take}
use Rattle.text.specs.declared.Position.{Position}
use Rattle.text.specs.declared.Span.{Span}
use Rattle.text.specs.Rows.{Line, line, lines, at, upto, ◌⊕◌, last_row, row_len, span}
use Rattle.text.specs.Text.{is_lf}
use Rattle.text.proofs.Laws.{add_same, add-next, add-to_row}
use Rattle.text.proofs.Order.{is_upto, row_le, upto-trans}
use Rattle.text.proofs.Adds.{Apart, apart, behind, order_moved}
use Rattle.text.proofs.Fronts.{behind-front}
use Rattle.edit.proofs.Maps.{map_line, map-length}
use Rattle.joins.specs.declared.JoinTurn.{JoinTurn}
use Rattle.joins.specs.Turns.{gap_len, join_turn}
use Rattle.joins.proofs.JoinTurns.{below_of, below_count, Starts}
use Rattle.joins.proofs.JoinPlans.{Walked, walked_within, walked_len, walked_more, starts-at}
use Rattle.after.specs.After.{start_cols, after_join}

-- ---- the list

pub cols_length : {A : Type 0} (b : Bool) (n : ℕ) (rs : List (Line A)) → length (start_cols b n rs) ≡ length rs
unfolding start_cols
cols_length b n [] = refl
cols_length b n (r ∷ rs) = ap suc (cols_length b (n + gap_len b n (length r.body) + length r.body) rs)

cols_take : (b : Bool) (n k : ℕ) (rs : List (Line ℕ)) → start_cols b n (take k rs) ≡ take k (start_cols b n rs)
unfolding start_cols
cols_take b n zero rs = refl
cols_take b n (suc k) [] = refl
cols_take b n (suc k) (r ∷ rs) = let c : ℕ = n + gap_len b n (length r.body) in ap (λ (l : List ℕ). c ∷ l) (cols_take b (c + length r.body) k rs)

pub cols_map : {A B : Type 0} (v : A → B) (b : Bool) (n : ℕ) (rs : List (Line A)) → start_cols b n (map (map_line v) rs) ≡ start_cols b n rs
unfolding start_cols
cols_map v b n [] = refl
cols_map v b n (r ∷ rs) = rw (map-length v r.body) (let c : ℕ = n + gap_len b n (length r.body) in ap (λ (l : List ℕ). c ∷ l) (cols_map v b (c + length r.body) rs))

abbrev cols_of : List ℕ → ℕ → Bool → List ℕ
cols_of t r b = start_cols b (row_len is_lf t r) (below_of t r)

-- ---- the walk: the LF of the row k below row r stands at offset `at`, and that row would be `left` long

pub record Walking (t : List ℕ) (r : ℕ) (b : Bool) (at left col k : ℕ) : Type 0 where
  pub walked : Walked t r k at
  pub rest : drop k (cols_of t r b) ≡ start_cols b left (drop k (below_of t r))
  pub last : 0 < k → col ≡ get_or (cols_of t r b) (k - 1) 0

-- the row is not known to the loop: it is any that starts the walk so, with enough rows below
abbrev pub Walks : List ℕ → ℕ → Bool → ℕ → ℕ → ℕ → ℕ → ℕ → ℕ → Type 0
Walks t down b end len at left col k = (r : ℕ) → Starts t r end len → r + down ≤ last_row is_lf t → Walking t r b at left col k

pub starts-walk : (t : List ℕ) (r : ℕ) (f : Span) → f ≡ span is_lf t r → r ≤ last_row is_lf t → Starts t r f.end.0 (f.end.0 - f.start.0)
unfolding span
starts-walk t r f e h =
    let m : min r (last_row is_lf t) ≡ r = omega arith in
    let z : f.row.0 ≡ r = ap (λ (g : Span). g.row.0) e ∙ m in
    rw z at (starts-at t f (e ∙ ap (span is_lf t) (sym z)))

pub walks_none : (t : List ℕ) (down : ℕ) (b : Bool) (end len : ℕ) → Walks t down b end len end len 0 0
walks_none t down b end len r s h = record {
  walked = rw s.ends (behind-front t r s.within);
  rest = rw s.long;
  last = λ z. absurd (omega arith);
}

module _ (t : List ℕ) (r : ℕ) (b : Bool) (at left col k : ℕ) (h : r ≤ last_row is_lf t) (w : Walking t r b at left col k) (l : k < length (below_of t r)) where
  walking_inside : at < length t
  walking_inside = walked_within t r h k at w.walked l

  module _ (j : JoinTurn) (e : j ≡ join_turn t at left b) where
    abbrev y : Line ℕ
    y = get_or (below_of t r) k (line [] [])

    turn_len : j.len ≡ length y.body
    turn_len = ap (λ (j : JoinTurn). j.len) e ∙ walked_len t r h k at w.walked l

    turn_gap : j.gap ≡ gap_len b left (length y.body)
    turn_gap = ap (λ (j : JoinTurn). j.gap) e ∙ ap (gap_len b left) (walked_len t r h k at w.walked l)

    next_cols : drop k (cols_of t r b) ≡ (left + j.gap) ∷ start_cols b (left + j.gap + j.len) (drop (suc k) (below_of t r))
    unfolding start_cols
    next_cols = w.rest ∙ rw (drop-cons (below_of t r) k (line [] []) l, turn_len, turn_gap)

    walking_more : Walking t r b (at + 1 + j.len) (left + j.gap + j.len) (left + j.gap) (k + 1)
    walking_more =
        let n : k + 1 - 1 ≡ k + 0 = omega arith in
        record {
          walked = rw (add-one k, turn_len) (walked_more t r h k at w.walked l);
          rest = sym (drop-drop 1 k (cols_of t r b)) ∙ ap (drop 1) next_cols ∙ rw (add-one k);
          last = λ z. ap (λ (c : List ℕ). get_or c 0 0) (sym next_cols) ∙ get_or-drop k (cols_of t r b) 0 0 ∙ rw n;
        }

module _ (t : List ℕ) (down : ℕ) (b : Bool) (end len at left col k : ℕ) (w : Walks t down b end len at left col k) where
  more_below : (r : ℕ) → k < down → r + down ≤ last_row is_lf t → k < length (below_of t r)
  more_below r l h = omega (arith, below_count t r)

  pub walks_inside : (r : ℕ) → Starts t r end len → r + down ≤ last_row is_lf t → k < down → at < length t
  walks_inside r s h l = walking_inside t r b at left col k s.within (w r s h) (more_below r l h)

  pub walks_more : k < down → (j : JoinTurn) → j ≡ join_turn t at left b → Walks t down b end len (at + 1 + j.len) (left + j.gap + j.len) (left + j.gap) (k + 1)
  walks_more l j e r s h = walking_more t r b at left col k s.within (w r s h) (more_below r l h) j e

  pub walks_all : (r : ℕ) → Starts t r end len → r + down ≤ last_row is_lf t → 0 < down → k ≡ down
      → col ≡ get_or (start_cols b (row_len is_lf t r) (drop (suc r) (lines is_lf t))) (down - 1) 0
  walks_all r s h z e = rw (← e) ((w r s h).last (omega arith))

-- ---- where a position lands

-- over joins onto a row, of rows that begin at these columns then
unfoldable pub landed : ℕ → List ℕ → Position → Position
landed row cols p =
    cond (ltb p.row.0 row) p
    (cond (eqb (length cols) 0 || eqb p.row.0 row) p
    (cond (leb p.row.0 (row + length cols)) (at row (get_or cols (p.row.0 - row - 1) 0 + p.col.0)) (at (p.row.0 - length cols) p.col.0)))

module _ (row : ℕ) (cols : List ℕ) (p : Position) where
  pub landed_above : p.row.0 ≤ row → landed row cols p ≡ p
  unfolding landed
  landed_above h =
      ⊎_elim
      (λ e. rw (le-ltb p.row.0 row (omega arith), eq-eqb p.row.0 row e, or-true))
      (λ l. rw (lt-ltb p.row.0 row l)) (eq-or-lt_of_le {n = p.row.0} {m = row} h)

  pub landed_onto : row < p.row.0 → p.row.0 - row ≤ length cols → landed row cols p ≡ at row (get_or cols (p.row.0 - row - 1) 0 + p.col.0)
  unfolding landed
  landed_onto h l =
      rw (le-ltb p.row.0 row (omega arith), ne_eqb p.row.0 row (omega arith), ne_eqb (length cols) 0 (omega arith), le-leb p.row.0 (row + length cols) (omega arith))

  pub landed_below : length cols < p.row.0 - row → landed row cols p ≡ at (p.row.0 - length cols) p.col.0
  unfolding landed
  landed_below l = rw (le-ltb p.row.0 row (omega arith), ne_eqb p.row.0 row (omega arith)) (go (length cols) l)
    where
      go : (m : ℕ) → m < p.row.0 - row
          → cond (eqb m 0 || false) p (cond (leb p.row.0 (row + m)) (at row (get_or cols (p.row.0 - row - 1) 0 + p.col.0)) (at (p.row.0 - m) p.col.0)) ≡ at (p.row.0 - m) p.col.0
      go zero l = rw sub-zero
      go (suc m) l = rw (ne_eqb (suc m) 0 (omega arith), lt-leb p.row.0 (row + suc m) (omega arith))

pub landed_none : (row : ℕ) (p : Position) → landed row [] p ≡ p
landed_none row p = elim (dec_le p.row.0 row) [ yes h ↦ landed_above row [] p h | no h ↦ landed_below row [] p (omega arith) ∙ rw sub-zero ]

-- the first join, then the others
pub landed_then : (row c : ℕ) (cs : List ℕ) (p : Position) → landed row cs (landed row (c ∷ []) p) ≡ landed row (c ∷ cs) p
landed_then row c cs p = elim (dec_le p.row.0 row) [
  | yes h ↦ ap (landed row cs) (landed_above row (c ∷ []) p h) ∙ landed_above row cs p h ∙ sym (landed_above row (c ∷ cs) p h)
  | no h ↦ elim (dec_le p.row.0 (suc row)) [
    | yes l ↦ first (omega arith)
    | no l ↦ ap (landed row cs) (landed_below row (c ∷ []) p (omega arith)) ∙ further (omega arith)
  ]
]
  where
    q : Position
    q = at (p.row.0 - 1) p.col.0

    first : p.row.0 ≡ suc row → landed row cs (landed row (c ∷ []) p) ≡ landed row (c ∷ cs) p
    first e =
        let z : p.row.0 - row - 1 ≡ 0 = omega arith in
        let one : landed row (c ∷ []) p ≡ at row (c + p.col.0) = landed_onto row (c ∷ []) p (omega arith) (omega arith) ∙ rw z in
        let all : landed row (c ∷ cs) p ≡ at row (c + p.col.0) = landed_onto row (c ∷ cs) p (omega arith) (omega arith) ∙ rw z in
        ap (landed row cs) one ∙ landed_above row cs (at row (c + p.col.0)) (omega arith) ∙ sym all

    further : suc row < p.row.0 → landed row cs q ≡ landed row (c ∷ cs) p
    further l = elim (dec_le (p.row.0 - row) (suc (length cs))) [
      | yes k ↦ (let z : p.row.0 - row - 1 ≡ suc (p.row.0 - 1 - row - 1) = omega arith in
          landed_onto row cs q (omega arith) (omega arith) ∙ sym (landed_onto row (c ∷ cs) p (omega arith) k ∙ rw z))
      | no k ↦ (let z : p.row.0 - 1 - length cs ≡ p.row.0 - suc (length cs) = omega arith in
          landed_below row cs q (omega arith) ∙ ap (λ (r : ℕ). at r p.col.0) z ∙ sym (landed_below row (c ∷ cs) p (omega arith)))
    ]

-- ---- one join onto row r, where the row below is to begin at column c

module _ (r c : ℕ) where
  pub landed_behind : (d : Position) → landed r (c ∷ []) (at (suc r) 0 ⊕ d) ≡ at r c ⊕ d
  landed_behind d = rw (add-to_row (suc r) d.row.0 d.col.0) (go d.row.0 d.col.0)
    where
      go : (a j : ℕ) → landed r (c ∷ []) (at (suc r + a) j) ≡ at r c ⊕ at a j
      go zero j =
          let z : suc r + 0 - r - 1 ≡ 0 = omega arith in
          landed_onto r (c ∷ []) (at (suc r + 0) j) (omega arith) (omega arith) ∙ rw (z, add_same r c j)
      go (suc a) j = landed_below r (c ∷ []) (at (suc r + suc a) j) (omega arith) ∙ sym (add-next r c (suc a) j (omega arith) ∙ ap (λ (m : ℕ). at m j) (omega arith))

  pub landed_order : (p q : Position) → (p.row.0 ≡ r → p.col.0 ≤ c) → upto p q ≡ true → upto (landed r (c ∷ []) p) (landed r (c ∷ []) q) ≡ true
  landed_order p q within h = elim (dec_le p.row.0 r) [
    | yes a ↦ rw (landed_above r (c ∷ []) p a) (elim (dec_le q.row.0 r) [
      | yes b ↦ rw (landed_above r (c ∷ []) q b) h
      | no b ↦ (let d = low q (omega arith) in rw (d.is, landed_behind d.by) (upto-trans p (at r c) (at r c ⊕ d.by) (ahead a) (behind (at r c) d.by)))
    ])
    | no a ↦ (let d = low p (omega arith) in
        let e = low q (omega (arith, row_le p q h)) in
        rw (d.is, e.is, landed_behind d.by, landed_behind e.by) (order_moved (at (suc r) 0) (at r c) d.by e.by (rw (d.is, e.is) at h)))
  ]
    where
      low : (p : Position) → r < p.row.0 → Apart (at (suc r) 0) p
      low p l = apart (at (suc r) 0) p (is_upto (at (suc r) 0) p (elim (dec_le p.row.0 (suc r)) [ yes k ↦ inr (omega arith, omega arith) | no k ↦ inl (omega arith) ]))

      ahead : p.row.0 ≤ r → upto p (at r c) ≡ true
      ahead a = is_upto p (at r c) (elim (dec_le r p.row.0) [ yes k ↦ (let e : p.row.0 ≡ r = omega arith in inr (e, within e)) | no k ↦ inl (omega arith) ])

-- of the rows that a join joins
abbrev pub joined_cols : ℕ → ℕ → Bool → List ℕ → List ℕ
joined_cols row count b t = start_cols b (row_len is_lf t row) (take (max count 1) (below_of t row))

module _ (p : Position) (row count : ℕ) (b : Bool) (t : List ℕ) where
  pub join-landed : landed row (joined_cols row count b t) p ≡ after_join p row count b t
  unfolding landed after_join
  join-landed = refl

  abbrev cols : List ℕ
  cols = joined_cols row count b t

  pub join-above : p.row.0 ≤ row → p ≡ after_join p row count b t
  join-above h = sym (landed_above row cols p h) ∙ join-landed

  made : length cols ≡ min (max count 1) (last_row is_lf t - row)
  made = cols_length b (row_len is_lf t row) (take (max count 1) (below_of t row)) ∙ length-take (max count 1) (below_of t row) ∙ rw (below_count t row)

  module _ (m : ℕ) (e : m ≡ min (max count 1) (last_row is_lf t - row)) (h : row < p.row.0) where
    many : length cols ≡ m
    many = made ∙ sym e

    pub join_below : m < p.row.0 - row → at (p.row.0 - m) p.col.0 ≡ after_join p row count b t
    join_below l = ap (λ (n : ℕ). at (p.row.0 - n) p.col.0) (sym many) ∙ sym (landed_below row cols p (omega (arith, many))) ∙ join-landed

    -- the rows past those that are joined do not count
    col_taken : p.row.0 - row ≤ m → get_or cols (p.row.0 - row - 1) 0 ≡ get_or (cols_of t row b) (p.row.0 - row - 1) 0
    col_taken l = rw (cols_take b (row_len is_lf t row) (max count 1) (below_of t row)) (get_or-take (max count 1) (cols_of t row b) (p.row.0 - row - 1) 0 (omega arith))

    pub join-onto : p.row.0 - row ≤ m → (s : ℕ) → s ≡ get_or (start_cols b (row_len is_lf t row) (drop (suc row) (lines is_lf t))) (p.row.0 - row - 1) 0
        → at row (s + p.col.0) ≡ after_join p row count b t
    join-onto l s c = ap (λ (n : ℕ). at row (n + p.col.0)) (c ∙ sym (col_taken l)) ∙ sym (landed_onto row cols p h (omega (arith, many))) ∙ join-landed
