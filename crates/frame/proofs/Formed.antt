-- What is known of a line that is read.
use mathlib.Core.Path.{◌≡◌, refl}
use mathlib.Core.Bool.{Bool, true, false, cond}
use mathlib.Core.List.{List}
use Prim.Native.Nat.{ℕ}
use native.Mathlib.Omega.{arith}
use lib.Dec.{leb}
use lib.ListN.{length}
use Rattle.promise.specs.Paper.{done, refused}
use Rattle.promise.proofs.Bools.{both}
use Rattle.text.proofs.Ended.{Plain}
use Rattle.hexline.specs.Digits.{digit_limit, unhexed, paired, line_ok}
use Rattle.hexline.proofs.Breaks.{paired-plain}
use Rattle.frame.specs.Format.{Frame}
use Rattle.frame.specs.Forms.{malformed, form_of, line_form}
use Rattle.frame.specs.Reads.{read_form, frame_read}

malformed_unread : (f : Frame) → read_form malformed ≡ done f → ⊥
unfolding read_form
malformed_unread f e = let w : refused 10 0 ≡ done f = e in let z : ◌≡◌ {A = ℕ} 0 1 = cc in omega arith

-- it is digits only, so it holds no LF
pub read_plain : (l : List ℕ) (f : Frame) → frame_read l ≡ done f → Plain l
unfolding line_form
read_plain l f h = go (line_ok l) refl h
  where
    go : (b : Bool) → line_ok l ≡ b → read_form (cond b (form_of (unhexed l)) malformed) ≡ done f → Plain l
    go true e h = paired-plain l (both (leb (length l) digit_limit) (paired l) e).1
    go false e h = absurd (malformed_unread f h)
