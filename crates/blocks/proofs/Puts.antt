-- One chunk of a block put in, and then the others.
use mathlib.Core.Path.{◌≡◌, ◌∙◌}
use mathlib.Core.List.{List, ◌∷◌, ◌++◌, append_assoc, append-nil}
use Prim.Native.Nat.{ℕ, suc, ◌+◌, ◌-◌, ◌≤◌, ◌<◌, min}
use native.Mathlib.Nat.{sub-eq-zero_of_le, min-eq_left, min-eq_right}
use native.Mathlib.Decide.{dec_le}
use native.Mathlib.Omega.{arith}
use lib.ListN.{length, take, drop, get_or, replicate, length-append, length-replicate, drop_of_length-le}
use lib.Seq.{take_all, take-length, drop-length}
use Rattle.text.specs.Rows.{Line, line, lines, char_at, at, row_count, last_row, row_len, row_start, row_end, offset, spliced}
use Rattle.text.specs.Text.{is_lf}
use Rattle.promise.proofs.Lists.{next}
use Rattle.text.proofs.Alls.{all_append, all_replicate}
use Rattle.text.proofs.Ended.{not_lf, Plain}
use Rattle.text.proofs.Changes.{row_of, row_from}
use Rattle.text.proofs.Spots.{offset-row}
use Rattle.edit.specs.Edits.{Edited, put, put_all, pads_of, pieces, block_inserted}
use Rattle.edit.specs.Refusals.{is_space, spaces}
use Rattle.edit.proofs.Blocks.{pads_of-length, pieces-length}
use Rattle.edit.proofs.Sizes.{growth}
use Rattle.blocks.specs.Blocks.{put_at}
use Rattle.text.proofs.Turns.{new_row, Turned, below_turned, count_turned, from_turned}
use Rattle.blocks.proofs.Starts.{scan_row, start-turned}

abbrev pub inserted : List ℕ → ℕ → ℕ → List ℕ → List ℕ → Edited ℕ
inserted t r c x ns = block_inserted is_lf is_space spaces t (at r c) x ns

abbrev pub pad_at : List ℕ → ℕ → ℕ → ℕ
pad_at t r c = c - row_len is_lf t r

-- ---- one row

put-spliced : (c : ℕ) (k b : List ℕ) → put 32 c k b ≡ spliced b (min c (length b)) (min c (length b)) (replicate (c - length b) 32 ++ k)
unfolding put
put-spliced c k b = elim (dec_le c (length b)) [
  | yes h ↦ rw (sub-eq-zero_of_le h, append-nil, min-eq_left h)
  | no h ↦
      let g : length b ≤ c = omega arith in
      let s : List ℕ = b ++ replicate (c - length b) 32 in
      let l : length s ≤ c = omega (arith, length-append b (replicate (c - length b) 32), length-replicate {A = ℕ} (c - length b) 32) in
      rw (take_all c s l, drop_of_length-le s {i = c} l, min-eq_right g, take-length b, drop-length b) (simp (append_assoc, append-nil))
]

-- where a chunk goes in; n and m are what the code makes of the row
pub put-found : (t : List ℕ) (s c r n m : ℕ) → r ≤ last_row is_lf t → s ≡ row_start is_lf t r → n ≡ row_len is_lf (take (length t - s) (drop s t)) 0 → m ≡ min c n
    → record { at = char_at (s + m); pad = c - m; end = char_at (s + n) } ≡ put_at t (at r c)
put-found t s c r n m h e f g =
    let l : n ≡ row_len is_lf t r = scan_row t s n f r e in
    let x : s + m ≡ offset is_lf t (at r c) = rw (offset-row is_lf t r c h) (omega (arith, e, g, l)) in
    let y : c - m ≡ c - row_len is_lf t r = omega arith in
    let z : s + n ≡ row_end is_lf t r = omega arith in
    rw (x, y, z)

-- ---- a chunk put in, and the rest

module _ (t : List ℕ) (r c n : ℕ) (ns x : List ℕ) (h : r ≤ last_row is_lf t) (p : Plain (take n x)) (u : List ℕ)
    (q : u ≡ spliced t (offset is_lf t (at r c)) (offset is_lf t (at r c)) (replicate (pad_at t r c) 32 ++ take n x)) where
  abbrev m : ℕ
  m = min c (row_len is_lf t r)

  abbrev g : List ℕ
  g = replicate (pad_at t r c) 32 ++ take n x

  turned : Turned t r m m g u
  turned = rw (← offset-row is_lf t r c h) q

  plain : Plain g
  plain = all_append not_lf (replicate (pad_at t r c) 32) (take n x) (all_replicate not_lf (pad_at t r c) 32 tt) p

  new_row_lem : line (put 32 c (take n x) (row_of t r).body) (row_of t r).after ≡ new_row t r m m g
  unfolding row_len
  new_row_lem = rw (put-spliced c (take n x) (row_of t r).body)

  pub put-text : (inserted u (suc r) c (drop n x) ns).text ≡ (inserted t r c x (n ∷ ns)).text
  unfolding block_inserted pieces put_all
  put-text =
      rw (from_turned t r m m g h (omega arith) (omega arith) plain u turned (put_all 32 c (pieces ns (drop n x)) (drop (suc r) (lines is_lf u))), below_turned t r m m g h (omega arith) (omega arith) plain u turned, row_from t r h, new_row_lem)

  pub put-pads : (inserted t r c x (n ∷ ns)).inverse.second ≡ pad_at t r c ∷ (inserted u (suc r) c (drop n x) ns).inverse.second
  unfolding block_inserted pieces pads_of row_len
  put-pads = rw (below_turned t r m m g h (omega arith) (omega arith) plain u turned, row_from t r h)

  pub put_count : row_count is_lf u ≡ row_count is_lf t
  put_count = count_turned t r m m g h (omega arith) (omega arith) plain u turned

  pub put-start : r < last_row is_lf t → row_start is_lf u (suc r) ≡ row_end is_lf t r + (pad_at t r c + length (take n x)) + 1
  put-start l =
      start-turned t r m m g l (omega arith) (omega arith) plain u turned
      ∙ omega (arith, length-append (replicate (pad_at t r c) 32) (take n x), length-replicate {A = ℕ} (pad_at t r c) 32)

-- ---- sizes

pub pads_length : (t : List ℕ) (r c : ℕ) (x ns : List ℕ) → length (inserted t r c x ns).inverse.second ≡ length ns
unfolding block_inserted
pads_length t r c x ns = pads_of-length c (pieces ns x) (drop r (lines is_lf t)) ∙ pieces-length ns x

-- the next row's share
pub growth_next : (t : List ℕ) (r c k : ℕ) (ns : List ℕ) → k < length ns → r + k ≤ last_row is_lf t
    → growth c (drop k ns) (drop (r + k) (lines is_lf t)) ≡ pad_at t (r + k) c + get_or ns k 0 + growth c (drop (k + 1) ns) (drop (r + (k + 1)) (lines is_lf t))
unfolding growth row_len
growth_next t r c k ns h l =
    let e : r + (k + 1) ≡ suc (r + k) = omega arith in
    rw (next ns k h, row_from t (r + k) l, e)

pub growth_end : (c k : ℕ) (ns : List ℕ) (rs : List (Line ℕ)) → length ns ≤ k → growth c (drop k ns) rs ≡ 0
unfolding growth
growth_end c k ns rs h = rw (drop_of_length-le ns h)
