-- Bytes in pieces: what is held, and what an LF makes of it.
use mathlib.Core.Path.{◌≡◌, refl, sym, ap, ◌∙◌}
use mathlib.Core.Bool.{Bool, true, false, cond}
use mathlib.Core.List.{List, [], ◌∷◌, ◌++◌, append-nil, append_assoc}
use Prim.Native.Nat.{ℕ, zero, suc, ◌≤◌, ◌<◌}
use native.Mathlib.Decide.{dec_le}
use native.Mathlib.Omega.{arith}
use borrow.Author.Tests.{lt-leb}
use lib.ListN.{length, take, length-take}
use lib.Seq.{take_all, take-take, take-append-le, append_snoc}
use Rattle.text.specs.Rows.{row_len}
use Rattle.text.specs.Text.{is_lf}
use Rattle.text.proofs.Laws.{len_lf, len_other}
use Rattle.hexline.specs.Digits.{digit_limit}
use Rattle.frame.specs.Forms.{malformed, line_form}
use Rattle.frame.specs.Reads.{read_form}
use Rattle.place.specs.Places.{placed, seen}
use Rattle.loading.specs.States.{State}
use Rattle.loading.specs.Loads.{refuses, framed_by}
use Rattle.step.specs.Steps.{step}
use Rattle.feed.specs.Feeds.{held, held_limit, fed, fed_byte, fed_by, fed_on}

-- ---- in two pieces

pub fed-append : (s : State) (p xs ys : List ℕ) → fed_by s p (xs ++ ys) ≡ fed_on (fed_by s p xs) ys
unfolding fed_by
fed-append s p [] ys = refl
fed-append s p (b ∷ xs) ys = let x = fed_byte s p b in rw (fed-append x.state x.pending xs ys) (simp append_assoc)

-- ---- lines too long

too_long : (l : List ℕ) → digit_limit < length l → line_form l ≡ malformed
unfolding line_form
too_long l h = rw (lt-leb (length l) digit_limit h)

pub long_step : (s : State) (l : List ℕ) → digit_limit < length l → step s l ≡ refuses s 10
unfolding step placed seen framed_by read_form
long_step s l h = rw (too_long l h)

pub held-step : (s : State) (l : List ℕ) → step s (held l) ≡ step s l
held-step s l = elim (dec_le (length l) held_limit) [ yes h ↦ rw (take_all held_limit l h) | no h ↦ (long_step s (held l) (omega (arith, length-take held_limit l)) ∙ sym (long_step s l (omega arith))) ]

-- ---- what is held

pub held-held : (l k : List ℕ) → held (held l ++ k) ≡ held (l ++ k)
held-held l k = go (dec_le (length l) held_limit)
  where
    go : Dec (length l ≤ held_limit) → held (held l ++ k) ≡ held (l ++ k)
    go (yes h) = ap (λ (z : List ℕ). held (z ++ k)) (take_all held_limit l h)
    go (no h) =
        let n : held_limit ≤ length (held l) = omega (arith, length-take held_limit l) in
        take-append-le held_limit (held l) k n ∙ take-take held_limit held_limit l (omega arith) ∙ sym (take-append-le held_limit l k (omega arith))

pub held-few : (l : List ℕ) → length l ≤ held_limit → held l ≡ l
held-few l h = take_all held_limit l h

-- ---- bytes without LF, and a line that an LF ends

pub fed-held : (s : State) (p t : List ℕ) → held p ≡ p → length t ≤ row_len is_lf t 0 → fed_by s p t ≡ fed s (held (p ++ t)) []
unfolding fed_by fed_byte
fed-held s p [] e h = rw (append-nil, e)
fed-held s p (x ∷ t) e h = go (is_lf x) refl (fed-held s (held (p ++ (x ∷ []))) t (take-take held_limit held_limit (p ++ (x ∷ [])) (omega arith)))
  where
    go : (b : Bool) → is_lf x ≡ b → (length t ≤ row_len is_lf t 0 → fed_by s (held (p ++ (x ∷ []))) t ≡ fed s (held (held (p ++ (x ∷ [])) ++ t)) [])
        → fed_on (cond b (let x = step s p in fed x.state [] x.printed) (fed s (held (p ++ (x ∷ []))) [])) t ≡ fed s (held (p ++ x ∷ t)) []
    go true q r = absurd (omega (arith, len_lf is_lf x t q))
    go false q r = rw (r (omega (arith, len_other is_lf x t q)), held-held (p ++ (x ∷ [])) t, append_snoc p x t)

pub fed-line : (s : State) (p t : List ℕ) (n : ℕ) → held p ≡ p → row_len is_lf t 0 ≡ n → n < length t
    → fed_by s p (take (suc n) t) ≡ (let x = step s (held (p ++ take n t)) in fed x.state [] x.printed)
unfolding fed_by fed_byte
fed-line s p [] n k e h = absurd (omega arith)
fed-line s p (x ∷ t) n k e h = go (is_lf x) refl n e h (λ m. fed-line s (held (p ++ (x ∷ []))) t m (take-take held_limit held_limit (p ++ (x ∷ [])) (omega arith)))
  where
    go : (b : Bool) → is_lf x ≡ b → (n : ℕ) → row_len is_lf (x ∷ t) 0 ≡ n → n < length (x ∷ t)
        → ((m : ℕ) → row_len is_lf t 0 ≡ m → m < length t → fed_by s (held (p ++ (x ∷ []))) (take (suc m) t) ≡ (let x = step s (held (held (p ++ (x ∷ [])) ++ take m t)) in fed x.state [] x.printed))
        → fed_on (cond b (let x = step s p in fed x.state [] x.printed) (fed s (held (p ++ (x ∷ []))) [])) (take n t) ≡ (let y = step s (held (p ++ take n (x ∷ t))) in fed y.state [] y.printed)
    go true q zero e h r = rw (append-nil, append-nil, k)
    go true q (suc n) e h r = absurd (omega (arith, len_lf is_lf x t q))
    go false q zero e h r = absurd (omega (arith, len_other is_lf x t q))
    go false q (suc n) e h r = rw (r n (omega (arith, len_other is_lf x t q)) (omega arith), held-held (p ++ (x ∷ [])) (take n t), append_snoc p x (take n t))
