-- Columns with flags and widths with pads, as items of five and of eight bytes.
use mathlib.Core.Path.{◌≡◌, refl, sym, ap, ap₂, ◌∙◌}
use mathlib.Core.Bool.{true}
use mathlib.Core.List.{List, [], ◌∷◌, ◌++◌}
use Prim.Native.Nat.{ℕ, zero, suc, ◌*◌, ◌/◌, ◌%◌, ◌≤◌}
use native.Mathlib.Omega.{arith}
use borrow.Author.Tests.{leb-true}
use lib.Dec.{leb}
use lib.ListN.{length, drop, get_or, length-drop}
use lib.Seq.{drop-cons}
use Rattle.promise.proofs.Bools.{both}
use Rattle.text.specs.Text.{all}
use Rattle.text.proofs.Alls.{first_passes}
use Rattle.hexline.specs.Theorems.{Bytes}
use Rattle.frame.specs.Numbers.{number, number_in, items}
use Rattle.frame.specs.Format.{column_bytes, width_bytes}
use Rattle.frame.specs.Forms.{columns_in, flags_in, widths_in, pads_in}
use Rattle.frame.specs.Theorems.{word}
use Rattle.frame.proofs.Items.{length-columns, length-flags, length-widths, length-pads}
use Rattle.frame.proofs.RoundNumbers.{bytes_cons, bytes_drop, number-joins, number_at, word_bytes}

-- ---- columns and flags

pub columns-long : (cs fs : List ℕ) → length (column_bytes cs fs) ≡ length cs * 5
unfolding column_bytes
columns-long [] fs = refl
columns-long (c ∷ cs) fs = omega (arith, columns-long cs (drop 1 fs))

columns-back : (cs fs : List ℕ) → items 5 (length cs) (λ i. number_in i 0) (column_bytes cs fs) ≡ cs
unfolding items column_bytes number_in
columns-back [] fs = refl
columns-back (c ∷ cs) fs = ap₂ {C = List ℕ} (λ a l. a ∷ l) (number-joins c) (columns-back cs (drop 1 fs))

flags_back : (cs fs : List ℕ) → length cs ≡ length fs → items 5 (length cs) (λ i. get_or i 4 0) (column_bytes cs fs) ≡ fs
unfolding items column_bytes
flags_back [] [] e = refl
flags_back [] (f ∷ fs) e = absurd (omega arith)
flags_back (c ∷ cs) [] e = absurd (omega arith)
flags_back (c ∷ cs) (f ∷ fs) e = ap (◌∷◌ f) (flags_back cs fs (omega arith))

fifths : (n : ℕ) → n * 5 / 5 ≡ n
fifths n = omega arith

pub columns-read : (cs fs : List ℕ) → columns_in (column_bytes cs fs) ≡ cs
unfolding columns_in
columns-read cs fs = rw (columns-long cs fs, fifths) (columns-back cs fs)

pub flags_read : (cs fs : List ℕ) → length cs ≡ length fs → flags_in (column_bytes cs fs) ≡ fs
unfolding flags_in
flags_read cs fs e = rw (columns-long cs fs, fifths) (flags_back cs fs e)

pub columns-flags : (s : List ℕ) → length (columns_in s) ≡ length (flags_in s)
columns-flags s = length-columns s ∙ sym (length-flags s)

columns-again : (n : ℕ) (s : List ℕ) → Bytes s → length s ≡ n * 5
    → column_bytes (items 5 n (λ i. number_in i 0) s) (items 5 n (λ i. get_or i 4 0) s) ≡ s
unfolding items column_bytes
columns-again zero [] b e = refl
columns-again zero (x ∷ s) b e = absurd (omega arith)
columns-again (suc n) s b e =
    rw (columns-again n (drop 5 s) (bytes_drop 5 s b) (omega (arith, length-drop 5 s)), ← drop-cons s 4 0 (omega arith)) (number_at s 0 b (omega arith))

pub columns-written : (s : List ℕ) → Bytes s → length s % 5 ≡ 0 → column_bytes (columns_in s) (flags_in s) ≡ s
unfolding columns_in flags_in
columns-written s b e = columns-again (length s / 5) s b (omega arith)

pub columns-bytes : (cs fs : List ℕ) → all word cs ≡ true → all (λ b. leb b 1) fs ≡ true → Bytes (column_bytes cs fs)
unfolding column_bytes all
columns-bytes [] fs e g = refl
columns-bytes (c ∷ cs) fs e g =
    let w = both (word c) (all word cs) e in
    let v = first_passes (λ b. leb b 1) fs refl g in
    let h : get_or fs 0 0 ≤ 1 = leb-true _ 1 v.0 in
    let rest = bytes_cons (get_or fs 0 0) (column_bytes cs (drop 1 fs)) (omega arith) (columns-bytes cs (drop 1 fs) w.1 v.1) in
    word_bytes c (get_or fs 0 0 ∷ column_bytes cs (drop 1 fs)) w.0 rest

-- ---- widths and pads

pub widths_long : (ws ds : List ℕ) → length (width_bytes ws ds) ≡ length ws * 8
unfolding width_bytes
widths_long [] ds = refl
widths_long (w ∷ ws) ds = omega (arith, widths_long ws (drop 1 ds))

widths_back : (ws ds : List ℕ) → items 8 (length ws) (λ i. number_in i 0) (width_bytes ws ds) ≡ ws
unfolding items width_bytes number_in
widths_back [] ds = refl
widths_back (w ∷ ws) ds = ap₂ {C = List ℕ} (λ a l. a ∷ l) (number-joins w) (widths_back ws (drop 1 ds))

pads_back : (ws ds : List ℕ) → length ws ≡ length ds → items 8 (length ws) (λ i. number_in i 4) (width_bytes ws ds) ≡ ds
unfolding items width_bytes number_in
pads_back [] [] e = refl
pads_back [] (d ∷ ds) e = absurd (omega arith)
pads_back (w ∷ ws) [] e = absurd (omega arith)
pads_back (w ∷ ws) (d ∷ ds) e = ap₂ {C = List ℕ} (λ a l. a ∷ l) (number-joins d) (pads_back ws ds (omega arith))

eighths : (n : ℕ) → n * 8 / 8 ≡ n
eighths n = omega arith

pub widths_read : (ws ds : List ℕ) → widths_in (width_bytes ws ds) ≡ ws
unfolding widths_in
widths_read ws ds = rw (widths_long ws ds, eighths) (widths_back ws ds)

pub pads_read : (ws ds : List ℕ) → length ws ≡ length ds → pads_in (width_bytes ws ds) ≡ ds
unfolding pads_in
pads_read ws ds e = rw (widths_long ws ds, eighths) (pads_back ws ds e)

pub widths_pads : (s : List ℕ) → length (widths_in s) ≡ length (pads_in s)
widths_pads s = length-widths s ∙ sym (length-pads s)

widths_again : (n : ℕ) (s : List ℕ) → Bytes s → length s ≡ n * 8
    → width_bytes (items 8 n (λ i. number_in i 0) s) (items 8 n (λ i. number_in i 4) s) ≡ s
unfolding items width_bytes
widths_again zero [] b e = refl
widths_again zero (x ∷ s) b e = absurd (omega arith)
widths_again (suc n) s b e =
    rw (widths_again n (drop 8 s) (bytes_drop 8 s b) (omega (arith, length-drop 8 s)), number_at s 4 b (omega arith)) (number_at s 0 b (omega arith))

pub widths_written : (s : List ℕ) → Bytes s → length s % 8 ≡ 0 → width_bytes (widths_in s) (pads_in s) ≡ s
unfolding widths_in pads_in
widths_written s b e = widths_again (length s / 8) s b (omega arith)

pub widths_bytes : (ws ds : List ℕ) → all word ws ≡ true → all word ds ≡ true → Bytes (width_bytes ws ds)
unfolding width_bytes all
widths_bytes [] ds e g = refl
widths_bytes (w ∷ ws) ds e g =
    let u = both (word w) (all word ws) e in
    let v = first_passes word ds refl g in
    let d = get_or ds 0 0 in
    word_bytes w (number d ++ width_bytes ws (drop 1 ds)) u.0 (word_bytes d (width_bytes ws (drop 1 ds)) v.0 (widths_bytes ws (drop 1 ds) u.1 v.1))
