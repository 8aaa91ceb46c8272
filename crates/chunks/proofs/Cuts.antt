-- One chunk of a block cut out, and then the others.
use mathlib.Core.Path.{◌≡◌, refl, sym, ◌∙◌, ap, ap₂}
use mathlib.Core.List.{List, [], ◌∷◌, ◌++◌, append_assoc, flatten}
use Prim.Native.Nat.{ℕ, suc, ◌+◌, ◌-◌, ◌≤◌, ◌<◌, min}
use native.Mathlib.Nat.{add-zero, zero-add, add_assoc, min-eq_left, min-eq_right}
use native.Mathlib.Decide.{dec_le}
use native.Mathlib.Omega.{arith}
use lib.ListN.{length, take, drop, get_or, length-append, length-take, length-drop, length-map, drop_of_length-le}
use lib.Seq.{paste, slice, take_all, take-append-le, drop-drop, drop-append-le, drop-append-add, length-take-le}
use Rattle.promise.proofs.Lists.{next, first_from, drop-take, take_min}
use Rattle.text.specs.declared.CharOffset.{CharOffset}
use Rattle.text.specs.declared.Position.{Position}
use Rattle.text.specs.Rows.{Line, line, lines, unlines, at, row_count, last_row, row_len, row_start, row_end, offset, spliced, char_at}
use Rattle.text.specs.Text.{is_lf}
use Rattle.text.proofs.Spots.{offset-le, offset-row}
use Rattle.text.proofs.Changes.{row_of, row_from, text-around}
use Rattle.text.proofs.Turns.{new_row, Turned, below_turned, count_turned, from_turned}
use Rattle.splice.specs.Splice.{gap, gap_removed}
use Rattle.edit.specs.Edits.{Edited, cut_all, chunks_of, chunks_deleted}
use Rattle.edit.specs.Refusals.{is_space, spaces}
use Rattle.edit.proofs.Blocks.{chunks_of-length, chunks_le}
use Rattle.edit.proofs.Sizes.{loss, chunks_deleted-length}
use Rattle.blocks.specs.Blocks.{last_end}
use Rattle.blocks.proofs.Local.{end-next}
use Rattle.blocks.proofs.Starts.{plain-none, scan_row, start-turned, row_there, Begins, begins-first, begins-next, end-within}
use Rattle.chunks.specs.declared.Cut.{Cut}
use Rattle.chunks.specs.Chunks.{cut_at, sizes_of}

abbrev pub deleted : List ℕ → ℕ → ℕ → List ℕ → List ℕ → Edited ℕ
deleted t r c ws ds = chunks_deleted is_lf is_space spaces t (at r c) ws ds

-- ---- one row

drop-least : (n : ℕ) (b : List ℕ) → drop n b ≡ drop (min n (length b)) b
drop-least n b = elim (dec_le n (length b)) [
  | yes h ↦ rw (min-eq_left h)
  | no h ↦ (let g : length b ≤ n = omega arith in rw (min-eq_right g, drop_of_length-le b {i = n} g, drop_of_length-le b {i = length b} (omega arith)))
]

cut_spliced : (c d w : ℕ) (b : List ℕ) → take (c - d) b ++ drop (c + w) b ≡ spliced b (min (c - d) (length b)) (min (c + w) (length b)) []
cut_spliced c d w b = rw (take_min (c - d) b, drop-least (c + w) b)

-- the chunk, as a part of its row from one place up to another
chunk_part : (c w : ℕ) (b : List ℕ) → take (min (c + w) (length b) - min c (length b)) (drop (min c (length b)) b) ≡ take w (drop c b)
chunk_part c w b = elim (dec_le c (length b)) [
  | yes h ↦
      let l : length (drop c b) ≡ length b - c = length-drop c b in
      let e : min (c + w) (length b) - c ≡ min w (length (drop c b)) = omega arith in
      rw (min-eq_left h, e) (sym (take_min w (drop c b)))
  | no h ↦
      let g : length b ≤ c = omega arith in
      let z : min (c + w) (length b) - length b ≡ 0 = omega arith in
      rw (min-eq_right g, z, drop_of_length-le b {i = c} g) (sym (take_all w [] (omega arith)))
]

right_end : (c w L b g : ℕ) → b ≡ min c L → g ≡ min w (L - b) → b + g ≡ min (c + w) L
right_end c w L b g eb eg = omega arith

-- where the cut is, in the row that starts at s and is n long
module _ (t : List ℕ) (p : Position) (w d s n : ℕ) (h : p.row.0 ≤ last_row is_lf t) (e : s ≡ row_start is_lf t p.row.0) (f : n ≡ row_len is_lf (take (length t - s) (drop s t)) 0) where
  len_found : n ≡ row_len is_lf t p.row.0
  len_found = scan_row t s n f p.row.0 e

  -- a, b and g are what the code makes of the row's length
  pub cut_found : (a b g : ℕ) → a ≡ min (p.col.0 - d) n → b ≡ min p.col.0 n → g ≡ min w (n - b)
      → record { from = char_at (s + a); chunk = char_at (s + b); to = char_at (s + b + g); end = char_at (s + n) } ≡ cut_at t p w d
  cut_found a b g ea eb eg =
      let r : ℕ = p.row.0 in
      let c : ℕ = p.col.0 in
      let L : ℕ = row_len is_lf t r in
      let x : s + a ≡ offset is_lf t (at r (c - d)) = ap₂ {C = ℕ} ◌+◌ e (ea ∙ rw len_found) ∙ sym (offset-row is_lf t r (c - d) h) in
      let y : s + b ≡ offset is_lf t p = ap₂ {C = ℕ} ◌+◌ e (eb ∙ rw len_found) ∙ sym (offset-row is_lf t r c h) in
      let k : b + g ≡ min (c + w) L = right_end c w L b g (rw len_found at eb) (rw len_found at eg) in
      let z : s + b + g ≡ offset is_lf t (at r (c + w)) = add_assoc s b g ∙ ap₂ {C = ℕ} ◌+◌ e k ∙ sym (offset-row is_lf t r (c + w) h) in
      let v : s + n ≡ row_start is_lf t r + L = ap₂ {C = ℕ} ◌+◌ e len_found in
      rw (z, x, y, v)

-- a chunk copied out, and the cut taken out
pub row_cut : (b t out o : List ℕ) (used from chunk to filled : ℕ) → to ≤ used → used ≤ length b
    → o ≡ paste out filled (take (to - chunk) (drop chunk b)) (length (take (to - chunk) (drop chunk b))) → t ≡ gap_removed b used from to
    → gap t o ≡ gap (gap_removed b used from to) (paste out filled (slice chunk to b) (to - chunk))
row_cut b t out o used from chunk to filled h k eo et =
    let l : length (take (to - chunk) (drop chunk b)) ≡ to - chunk = omega (arith, length-take (to - chunk) (drop chunk b), length-drop chunk b) in
    rw (et, eo, l, drop-take chunk to b)

-- ---- a chunk cut out, and the rest

module _ (t : List ℕ) (r c w : ℕ) (ws ds : List ℕ) (h : r ≤ last_row is_lf t) where
  abbrev d : ℕ
  d = get_or ds 0 0

  abbrev a : ℕ
  a = min (c - d) (row_len is_lf t r)

  abbrev e : ℕ
  e = min (c + w) (row_len is_lf t r)

  -- the chunk is a part of the text
  pub chunk_here : take (offset is_lf t (at r (c + w)) - offset is_lf t (at r c)) (drop (offset is_lf t (at r c)) t) ≡ take w (drop c (row_of t r).body)
  unfolding row_start row_len
  chunk_here =
      let b : List ℕ = (row_of t r).body in
      let z : List ℕ = (row_of t r).after in
      let A : List ℕ = unlines (take r (lines is_lf t)) in
      let B : List ℕ = unlines (drop (suc r) (lines is_lf t)) in
      let m : ℕ = min c (length b) in
      let n : ℕ = min (c + w) (length b) - m in
      let i : offset is_lf t (at r (c + w)) - offset is_lf t (at r c) ≡ n = omega (arith, offset-row is_lf t r (c + w) h, offset-row is_lf t r c h) in
      let o : drop (offset is_lf t (at r c)) t ≡ drop m b ++ (z ++ B) =
      rw (offset-row is_lf t r c h) (ap (drop (length A + m)) (text-around t r h) ∙ drop-append-add A (b ++ z ++ B) m ∙ rw append_assoc (drop-append-le m b (z ++ B) (omega arith))) in
      rw (i, o, take-append-le n (drop m b) (z ++ B) (omega (arith, length-drop m b))) (chunk_part c w b)

  module _ (u : List ℕ) (q : u ≡ spliced t (offset is_lf t (at r (c - d))) (offset is_lf t (at r (c + w))) []) where
    turned : Turned t r a e [] u
    turned = rw (← offset-row is_lf t r (c - d) h, ← offset-row is_lf t r (c + w) h) q

    new_row_lem : line (take (c - d) (row_of t r).body ++ drop (c + w) (row_of t r).body) (row_of t r).after ≡ new_row t r a e []
    unfolding row_len
    new_row_lem = rw (cut_spliced c d w (row_of t r).body)

    below : drop (suc r) (lines is_lf u) ≡ drop (suc r) (lines is_lf t)
    below = below_turned t r a e [] h (omega arith) (omega arith) plain-none u turned

    pub cut_text : (deleted u (suc r) c ws (drop 1 ds)).text ≡ (deleted t r c (w ∷ ws) ds).text
    unfolding chunks_deleted cut_all
    cut_text = rw (from_turned t r a e [] h (omega arith) (omega arith) plain-none u turned (cut_all c ws (drop 1 ds) (drop (suc r) (lines is_lf u))), below, row_from t r h, new_row_lem)

    pub cut_payload : (deleted t r c (w ∷ ws) ds).inverse.payload ≡ take w (drop c (row_of t r).body) ++ (deleted u (suc r) c ws (drop 1 ds)).inverse.payload
    unfolding chunks_deleted chunks_of flatten
    cut_payload = rw (below, row_from t r h)

    pub cut_first_lem : (deleted t r c (w ∷ ws) ds).inverse.first ≡ length (take w (drop c (row_of t r).body)) ∷ (deleted u (suc r) c ws (drop 1 ds)).inverse.first
    unfolding chunks_deleted chunks_of
    cut_first_lem = rw (below, row_from t r h)

    pub cut_count : row_count is_lf u ≡ row_count is_lf t
    cut_count = count_turned t r a e [] h (omega arith) (omega arith) plain-none u turned

    pub cut_start : r < last_row is_lf t → row_start is_lf u (suc r) ≡ row_start is_lf t r + row_len is_lf t r - (offset is_lf t (at r (c + w)) - offset is_lf t (at r (c - d))) + 1
    cut_start l =
        start-turned t r a e [] l (omega arith) (omega arith) plain-none u turned ∙ omega (arith, offset-row is_lf t r (c - d) h, offset-row is_lf t r (c + w) h)

-- ---- sizes

-- how long the chunks of these rows are together
abbrev pub taken : ℕ → List ℕ → List (Line ℕ) → ℕ
taken c ws rs = length (flatten (chunks_of c ws rs))

pub payload_length : (t : List ℕ) (r c : ℕ) (ws ds : List ℕ) → length (deleted t r c ws ds).inverse.payload ≡ taken c ws (drop r (lines is_lf t))
unfolding chunks_deleted
payload_length t r c ws ds = refl

pub first_length : (t : List ℕ) (r c : ℕ) (ws ds : List ℕ) → length (deleted t r c ws ds).inverse.first ≡ length ws
unfolding chunks_deleted
first_length t r c ws ds = length-map (chunks_of c ws (drop r (lines is_lf t))) length ∙ chunks_of-length c ws (drop r (lines is_lf t))

loss_none : (c : ℕ) (ds : List ℕ) (rs : List (Line ℕ)) → loss c [] ds rs ≡ 0
unfolding loss
loss_none c ds rs = refl

taken_none : (c : ℕ) (rs : List (Line ℕ)) → taken c [] rs ≡ 0
unfolding chunks_of flatten
taken_none c rs = refl

-- a row's cut, in numbers
module _ (t : List ℕ) (r c w d : ℕ) (h : r ≤ last_row is_lf t) where
  pub order : (offset is_lf t (at r (c - d)) ≤ offset is_lf t (at r c)) × (offset is_lf t (at r c) ≤ offset is_lf t (at r (c + w))) × (offset is_lf t (at r (c + w)) ≤ length t)
  order = (
    rw (offset-row is_lf t r (c - d) h, offset-row is_lf t r c h) (omega arith),
    rw (offset-row is_lf t r (c + w) h, offset-row is_lf t r c h) (omega arith),
    offset-le is_lf t (at r (c + w)),
  )

  pub gone_row : offset is_lf t (at r (c + w)) - offset is_lf t (at r (c - d)) ≡ min (c + w) (row_len is_lf t r) - min (c - d) (row_len is_lf t r)
  gone_row = rw (offset-row is_lf t r (c + w) h, offset-row is_lf t r (c - d) h) (omega arith)

pub chunk_length : (t : List ℕ) (r c w : ℕ) → r ≤ last_row is_lf t → offset is_lf t (at r (c + w)) - offset is_lf t (at r c) ≡ length (take w (drop c (row_of t r).body))
chunk_length t r c w h =
    let k = order t r c w 0 h in
    let o : ℕ = offset is_lf t (at r c) in
    let n : ℕ = offset is_lf t (at r (c + w)) - o in
    let i : n ≤ length (drop o t) = omega (arith, length-drop o t, k.1, k.2) in
    sym (length-take-le n (drop o t) i) ∙ ap length (chunk_here t r c w [] [] h)

-- the next row's share of each
module _ (t : List ℕ) (r c k : ℕ) (ws ds : List ℕ) (h : k < length ws) (l : r + k ≤ last_row is_lf t) where
  on : r + (k + 1) ≡ suc (r + k)
  on = omega arith

  loss_next : loss c (drop k ws) (drop k ds) (drop (r + k) (lines is_lf t))
      ≡ (min (c + get_or ws k 0) (row_len is_lf t (r + k)) - min (c - get_or ds k 0) (row_len is_lf t (r + k))) + loss c (drop (k + 1) ws) (drop (k + 1) ds) (drop (r + (k + 1)) (lines is_lf t))
  unfolding loss row_len
  loss_next = rw (next ws k h, row_from t (r + k) l, first_from ds k, drop-drop 1 k ds, on)

  taken_next : taken c (drop k ws) (drop (r + k) (lines is_lf t))
      ≡ length (take (get_or ws k 0) (drop c (row_of t (r + k)).body)) + taken c (drop (k + 1) ws) (drop (r + (k + 1)) (lines is_lf t))
  unfolding chunks_of flatten
  taken_next =
      rw (next ws k h, row_from t (r + k) l, on) (length-append (take (get_or ws k 0) (drop c (row_of t (r + k)).body)) (flatten (chunks_of c (drop (k + 1) ws) (drop (suc (r + k)) (lines is_lf t)))))

-- ---- the loop that finds the sizes

pub record Sizing (t : List ℕ) (r c : ℕ) (ws ds : List ℕ) (gone payload start end k : ℕ) : Type 0 where
  pub within : k ≤ length ws
  pub begins : Begins t r (length ws) k start
  pub ends : end ≡ last_end t r k
  pub less : gone + loss c (drop k ws) (drop k ds) (drop (r + k) (lines is_lf t)) ≡ loss c ws ds (drop r (lines is_lf t))
  pub more : payload + taken c (drop k ws) (drop (r + k) (lines is_lf t)) ≡ taken c ws (drop r (lines is_lf t))

pub sizing_none : (t : List ℕ) (r c : ℕ) (ws ds : List ℕ) (start : ℕ) → start ≡ row_start is_lf t r → Sizing t r c ws ds 0 0 start (length t) 0
sizing_none t r c ws ds start e = record { within = omega arith; begins = begins-first t r (length ws) start e; ends = refl; less = rw (add-zero, zero-add); more = rw (add-zero, zero-add) }

module _ {t : List ℕ} {r c : ℕ} {ws ds : List ℕ} {gone payload start end k : ℕ} (s : Sizing t r c ws ds gone payload start end k) (h : k < length ws) (there : length ws ≤ row_count is_lf t - r)
    (d : ℕ) (ed : d ≡ get_or ds k 0) (cut : Cut) (e : cut ≡ cut_at t (at (r + k) c) (get_or ws k 0) d) where
  row_now : r + k ≤ last_row is_lf t
  row_now = row_there t r k (length ws) h there

  cut_here : cut ≡ cut_at t (at (r + k) c) (get_or ws k 0) (get_or ds k 0)
  cut_here = rw (← ed) e

  -- the cut is in order, and in the text
  pub cut_order : (cut.from.0 ≤ cut.chunk.0) × (cut.chunk.0 ≤ cut.to.0) × (cut.to.0 ≤ length t)
  cut_order = rw cut_here (order t (r + k) c (get_or ws k 0) (get_or ds k 0) row_now)

  sizing_less : gone + (cut.to.0 - cut.from.0) + loss c (drop (k + 1) ws) (drop (k + 1) ds) (drop (r + (k + 1)) (lines is_lf t)) ≡ loss c ws ds (drop r (lines is_lf t))
  sizing_less =
      let g : cut.to.0 - cut.from.0 ≡ min (c + get_or ws k 0) (row_len is_lf t (r + k)) - min (c - get_or ds k 0) (row_len is_lf t (r + k)) = rw cut_here (gone_row t (r + k) c (get_or ws k 0) (get_or ds k 0) row_now) in
      rw g (add_assoc gone _ _ ∙ ap (◌+◌ gone) (sym (loss_next t r c k ws ds h row_now)) ∙ s.less)

  sizing_more : payload + (cut.to.0 - cut.chunk.0) + taken c (drop (k + 1) ws) (drop (r + (k + 1)) (lines is_lf t)) ≡ taken c ws (drop r (lines is_lf t))
  sizing_more =
      let g : cut.to.0 - cut.chunk.0 ≡ length (take (get_or ws k 0) (drop c (row_of t (r + k)).body)) = rw cut_here (chunk_length t (r + k) c (get_or ws k 0) row_now) in
      rw g (add_assoc payload _ _ ∙ ap (◌+◌ payload) (sym (taken_next t r c k ws ds h row_now)) ∙ s.more)

  pub end-found : cut.end.0 ≤ length t
  end-found = end-within t r k cut.end.0 (ap (λ (z : Cut). z.end.0) cut_here)

  pub sizing_next : Sizing t r c ws ds (gone + (cut.to.0 - cut.from.0)) (payload + (cut.to.0 - cut.chunk.0)) (cut.end.0 + 1) cut.end.0 (k + 1)
  sizing_next =
      let q : cut.end.0 ≡ row_end is_lf t (r + k) = ap (λ (z : Cut). z.end.0) cut_here in
      record { within = omega arith; begins = begins-next t r k cut.end.0 q (length ws) there; ends = end-next t r k cut.end.0 q; less = sizing_less; more = sizing_more }

module _ {t : List ℕ} {r c : ℕ} {ws ds : List ℕ} {gone payload start end k : ℕ} (s : Sizing t r c ws ds gone payload start end k) where
  pub sizing_bounds : (gone ≤ length t) × (payload ≤ length t)
  sizing_bounds =
      (omega (arith, s.less, chunks_deleted-length t (at r c) ws ds), omega (arith, s.more, chunks_le t c r ws))

  pub sizing_done : (first : CharOffset) → first.0 ≡ row_start is_lf t r → length ws ≤ k → record { used = length t - gone; payload = payload; start = first; end = char_at end } ≡ sizes_of t (at r c) ws ds
  sizing_done first e h =
      let a : gone ≡ loss c ws ds (drop r (lines is_lf t)) = rw (drop_of_length-le ws h, loss_none c (drop k ds) (drop (r + k) (lines is_lf t)), add-zero) at s.less in
      let b : payload ≡ taken c ws (drop r (lines is_lf t)) = rw (drop_of_length-le ws h, taken_none c (drop (r + k) (lines is_lf t)), add-zero) at s.more in
      let n : length t - gone ≡ length (deleted t r c ws ds).text = omega (arith, chunks_deleted-length t (at r c) ws ds) in
      let m : payload ≡ length (deleted t r c ws ds).inverse.payload = b ∙ sym (payload_length t r c ws ds) in
      let all : k ≡ length ws = omega (arith, s.within) in
      let z : end ≡ last_end t r (length ws) = s.ends ∙ ap (last_end t r) all in
      let f : first ≡ char_at (row_start is_lf t r) = ap char_at e in
      rw (n, m, f, z)
