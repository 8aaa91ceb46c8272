-- A block by the tally of its strings.
use mathlib.Core.Path.{◌≡◌, refl, sym, ap, ◌∙◌}
use mathlib.Core.List.{List, [], map, flatten}
use Prim.Native.Nat.{ℕ, ◌≤◌, ◌<◌}
use native.Mathlib.Omega.{arith}
use lib.ListN.{length}
use Rattle.promise.specs.Paper.{done, refused}
use Rattle.promise.specs.Slices.{over}
use Rattle.edit.specs.declared.Edit.{Edit}
use Rattle.edit.specs.Edits.{whole}
use Rattle.frame.specs.Format as format
use Rattle.frame.specs.Reads.{Contents, chars, bad_from, first_list, edit_of}
use Rattle.reader.specs.Calls.{edit, filled, read_into, chars_of, tallied, WellFormed}
use Rattle.reader.proofs.Rooms.{edit_fits, payload_short, first_short}
use Rattle.reader.proofs.Chunks.{length-lengths}

pub tally_refused : (e : Edit) (c : Contents) (x f s : List ℕ) (k : ℕ) → refused 5 k ≡ tallied c → filled (refused 5 k) x f s ≡ read_into (edit_of e [] [] c) x f s
unfolding tallied edit_of read_into
tally_refused e (chars xs) x f s k q = let z : ◌≡◌ {A = ℕ} 0 1 = cc in absurd (omega arith)
tally_refused e (bad_from j) x f s k q = let i : k ≡ j = cc in rw i

tally_chars : (c : Contents) (n m : ℕ) → done (n, m) ≡ tallied c → (c ≡ chars (chars_of c)) × (length (chars_of c) ≡ n) × (length (flatten (chars_of c)) ≡ m)
unfolding tallied chars_of
tally_chars (chars xs) n m q =
    let p : ◌≡◌ {A = ℕ × ℕ} (n, m) (length xs, length (flatten xs)) = cc in
    (refl, sym (ap (λ (i : ℕ × ℕ). i.0) p), sym (ap (λ (i : ℕ × ℕ). i.1) p))
tally_chars (bad_from k) n m q = let z : ◌≡◌ {A = ℕ} 0 1 = cc in absurd (omega arith)

module _ (e : Edit) (c : Contents) (x f s : List ℕ) (n m : ℕ) (q : done (n, m) ≡ tallied c) (l : (xs : List (List ℕ)) → first_list e xs [] ≡ map length xs) where
  block_read : edit_of e [] [] c ≡ done (format.edit (whole e (flatten (chars_of c)) (map length (chars_of c)) []))
  unfolding edit_of
  block_read = ap (edit_of e [] []) (tally_chars c n m q).0 ∙ rw (l (chars_of c))

  lengths_many : length (map length (chars_of c)) ≡ n
  lengths_many = length-lengths (chars_of c) ∙ (tally_chars c n m q).1

  pub block_fits : m ≤ length x → n ≤ length f → WellFormed c (length x) (length f)
  block_fits h k = let t = tally_chars c n m q in (t.0, omega arith, omega arith)

  pub block_payload_short : length x < m → filled (refused 8 0) x f s ≡ read_into (edit_of e [] [] c) x f s
  block_payload_short h =
      let t = tally_chars c n m q in
      rw block_read (payload_short e (flatten (chars_of c)) (map length (chars_of c)) [] x f s (omega arith))

  pub block_first_short : length f < n → filled (refused 8 0) x f s ≡ read_into (edit_of e [] [] c) x f s
  block_first_short h = rw block_read (first_short e (flatten (chars_of c)) (map length (chars_of c)) [] x f s (omega (arith, lengths_many)))

  pub block_filled : (y g : List ℕ) → m ≤ length x → n ≤ length f → (y ≡ over (flatten (chars_of c)) x) × (g ≡ over (map length (chars_of c)) f)
      → filled (done (edit e m n 0)) y g s ≡ read_into (edit_of e [] [] c) x f s
  block_filled y g h k w =
      let t = tally_chars c n m q in
      let b : filled (done (edit e m n 0)) y g s
      ≡ filled (done (edit e (length (flatten (chars_of c))) (length (map length (chars_of c))) 0)) (over (flatten (chars_of c)) x) (over (map length (chars_of c)) f) s =
      rw (w.0, w.1, t.2, lengths_many) in
      b ∙ rw block_read (edit_fits e (flatten (chars_of c)) (map length (chars_of c)) [] x f s (omega arith) (omega (arith, lengths_many)) (omega arith))
