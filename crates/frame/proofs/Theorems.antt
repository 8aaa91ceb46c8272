-- The theorems that specs/Theorems.antt states.
use mathlib.Core.Path.{◌≡◌, refl, sym, ◌∙◌}
use mathlib.Core.Bool.{Bool, true, false, cond}
use mathlib.Core.List.{List}
use Prim.Native.Nat.{ℕ, ◌≤◌}
use native.Mathlib.Omega.{arith}
use borrow.Author.Tests.{leb-true, le-leb}
use lib.Dec.{leb}
use lib.ListN.{length}
use Rattle.promise.specs.Paper.{done, refused}
use Rattle.promise.proofs.Bools.{both}
use Rattle.utf8.specs.Reading.{all_scalar}
use Rattle.hexline.specs.Digits.{digit_limit, hexed, unhexed, paired, line_ok}
use Rattle.hexline.proofs.Theorems.{unhexes_hexed, hexes_unhexed, two_digits}
use Rattle.frame.specs.Format.{Frame, frame_bytes, has_frame, frame_chars}
use Rattle.frame.specs.Forms.{malformed, form_of, line_form}
use Rattle.frame.specs.Reads.{read_form, frame_read}
use Rattle.frame.specs.Writes.{line_of}
use Rattle.frame.specs.Theorems.{used_of, ReadsWritten, NeverAlike, WritesRead}
use Rattle.frame.proofs.ReadBack.{frame_read_lem}
use Rattle.frame.proofs.AllBytes.{frame_bytes_lem}
use Rattle.frame.proofs.WriteBack.{frame_written}

-- a line was written where no test refused
pub line-done : (f : Frame) (l : List ℕ) → line_of f ≡ done l
    → (has_frame f ≡ true) × (all_scalar (frame_chars f) ≡ true) × (length (hexed (frame_bytes f)) ≤ digit_limit) × (hexed (frame_bytes f) ≡ l)
unfolding line_of
line-done f l e = go (has_frame f) (all_scalar (frame_chars f)) (leb (length h) digit_limit) refl refl refl e
  where
    h : List ℕ
    h = hexed (frame_bytes f)

    go : (p q r : Bool) → has_frame f ≡ p → all_scalar (frame_chars f) ≡ q → leb (length h) digit_limit ≡ r
        → cond p (cond q (cond r (done h) (refused 8 0)) (refused 1 0)) (refused 10 0) ≡ done l
        → (has_frame f ≡ true) × (all_scalar (frame_chars f) ≡ true) × (length h ≤ digit_limit) × (h ≡ l)
    go true true true p q r e = (p, q, leb-true (length h) digit_limit r, cc)
    go true true false p q r e = let z : ◌≡◌ {A = ℕ} 0 1 = cc in absurd (omega arith)
    go true false t p q r e = let z : ◌≡◌ {A = ℕ} 0 1 = cc in absurd (omega arith)
    go false s t p q r e = let z : ◌≡◌ {A = ℕ} 0 1 = cc in absurd (omega arith)

-- a line was read where it is one, from its bytes
read_done : (f : Frame) (l : List ℕ) → frame_read l ≡ done f → (length l ≤ digit_limit) × (paired l ≡ true) × (read_form (form_of (unhexed l)) ≡ done f)
unfolding line_form read_form
read_done f l e = go (line_ok l) refl e
  where
    go : (t : Bool) → line_ok l ≡ t → read_form (cond t (form_of (unhexed l)) malformed) ≡ done f
        → (length l ≤ digit_limit) × (paired l ≡ true) × (read_form (form_of (unhexed l)) ≡ done f)
    go true q e = let b = both (leb (length l) digit_limit) (paired l) q in (leb-true (length l) digit_limit b.0, b.1, e)
    go false q e = let z : ◌≡◌ {A = ℕ} 0 1 = cc in absurd (omega arith)

pub reads_written : ReadsWritten
unfolding line_form
reads_written f l w e =
    let d = line-done f l e in
    let b = frame_bytes_lem f w d.0 d.1 (omega (arith, two_digits (frame_bytes f))) in
    let u = unhexes_hexed (frame_bytes f) b in
    rw (← d.3, le-leb (length (hexed (frame_bytes f))) digit_limit d.2, u.0, u.1) (frame_read_lem f d.0 d.1)

pub never_alike : NeverAlike
never_alike f g l u v d e =
    let s : done (used_of f) ≡ done (used_of g) = sym (reads_written f l u d) ∙ reads_written g l v e in
    cc

pub writes_read : WritesRead
unfolding line_of
writes_read f l e =
    let d = read_done f l e in
    let h = hexes_unhexed l d.1 in
    let w = frame_written (unhexed l) h.0 f d.2 in
    rw (w.0, w.1, w.2, h.1, le-leb (length l) digit_limit d.0)
