-- Each kind of frame, from what was put one behind the other.
use mathlib.Core.Path.{◌≡◌, refl}
use mathlib.Core.Bool.{Bool}
use mathlib.Core.List.{List, [], ◌∷◌, ◌++◌}
use Prim.Native.Nat.{ℕ, ◌-◌, ◌<◌}
use native.Mathlib.Omega.{arith}
use lib.ListN.{length, take, drop, set}
use lib.Seq.{paste}
use Rattle.promise.specs.Slices.{over}
use Rattle.promise.proofs.Lists.{over-more, part-pasted}
use Rattle.text.specs.declared.Position.{Position}
use Rattle.text.specs.declared.Row.{Row}
use Rattle.utf8.specs.Reading.{writing}
use Rattle.edit.specs.declared.MotionKind.{MotionKind}
use Rattle.edit.specs.declared.Edit.TheVariants.{InsertStr, DeleteRange, JoinLines, SplitLines, Replace, InsertBlock, DeleteBlockChunks}
use Rattle.edit.specs.Edits.{pieces}
use Rattle.frame.specs.Numbers.{number, position}
use Rattle.frame.specs.Format.{kind_byte, flag_byte, column_bytes, width_bytes, chunk_bytes, edit_bytes}
use Rattle.frame_bytes.proofs.Pasted.{first_put, behind}

-- t is a part from m on that came back with os at its front
abbrev Back : List ℕ → ℕ → List ℕ → List ℕ → Type 0
Back t m y os = y ≡ over os (take (length t - m) (drop m t))

abbrev whole : List ℕ → ℕ → List ℕ → List ℕ
whole t m y = take m t ++ (y ++ drop (length t - m) (drop m t))

-- a byte, a position, and more
position-put : (b t y os : List ℕ) (a : ℕ) (p : Position) → 0 < length b → t ≡ paste (set b 0 a) 1 (position p) 8 → Back t 9 y os
    → whole t 9 y ≡ over (a ∷ (position p ++ os)) b
position-put b t y os a p h e f =
    behind (a ∷ position p) os b t (whole t 9 y) 9 (length os) refl refl
    (behind (a ∷ []) (position p) b (set b 0 a) t 1 8 refl refl (first_put b a h) e) (part-pasted t os y 9 f)

pub insert-put : (b t y x : List ℕ) (p : Position) → 0 < length b → t ≡ paste (set b 0 0x10) 1 (position p) 8 → Back t 9 y (writing x)
    → whole t 9 y ≡ over (edit_bytes (InsertStr p) x [] []) b
unfolding edit_bytes
insert-put b t y x p h e f = position-put b t y (writing x) 0x10 p h e f

pub delete_put : (b t u : List ℕ) (p q : Position) (k : MotionKind) (a : ℕ) → 1 < length b → a ≡ kind_byte k
    → t ≡ paste (set (set b 0 0x11) 1 a) 2 (position p) 8 → u ≡ paste t 10 (position q) 8
    → u ≡ over (edit_bytes (DeleteRange p q k) [] [] []) b
unfolding edit_bytes
delete_put b t u p q k a h e f g =
    rw (← e)
    (behind (0x11 ∷ a ∷ position p) (position q) b t u 10 8 refl refl
    (behind (0x11 ∷ a ∷ []) (position p) b (set (set b 0 0x11) 1 a) t 2 8 refl refl
    (over-more (set b 0 0x11) (0x11 ∷ []) b 1 a (first_put b 0x11 (omega arith)) refl h) f) g)

pub join-put : (b t u : List ℕ) (r : Row) (n : ℕ) (s : Bool) (a : ℕ) → 9 < length b → a ≡ flag_byte s
    → t ≡ paste (set b 0 0x12) 1 (number r.0) 4 → u ≡ paste t 5 (number n) 4
    → set u 9 a ≡ over (edit_bytes (JoinLines r n s) [] [] []) b
unfolding edit_bytes
join-put b t u r n s a h e f g =
    rw (← e)
    (over-more u (0x12 ∷ (number r.0 ++ number n)) b 9 a
    (behind (0x12 ∷ number r.0) (number n) b t u 5 4 refl refl
    (behind (0x12 ∷ []) (number r.0) b (set b 0 0x12) t 1 4 refl refl (first_put b 0x12 (omega arith)) f) g) refl h)

pub split-put : (b t y : List ℕ) (r : Row) (cs fs : List ℕ) → 0 < length b → t ≡ paste (set b 0 0x13) 1 (number r.0) 4 → Back t 5 y (column_bytes cs fs)
    → whole t 5 y ≡ over (edit_bytes (SplitLines r) [] cs fs) b
unfolding edit_bytes
split-put b t y r cs fs h e f =
    behind (0x13 ∷ number r.0) (column_bytes cs fs) b t (whole t 5 y) 5 (length (column_bytes cs fs)) refl refl
    (behind (0x13 ∷ []) (number r.0) b (set b 0 0x13) t 1 4 refl refl (first_put b 0x13 h) e) (part-pasted t (column_bytes cs fs) y 5 f)

pub replace_put : (b t u y x : List ℕ) (p q : Position) → 0 < length b → t ≡ paste (set b 0 0x14) 1 (position p) 8 → u ≡ paste t 9 (position q) 8
    → Back u 17 y (writing x) → whole u 17 y ≡ over (edit_bytes (Replace p q) x [] []) b
unfolding edit_bytes
replace_put b t u y x p q h e f g =
    behind (0x14 ∷ (position p ++ position q)) (writing x) b u (whole u 17 y) 17 (length (writing x)) refl refl
    (behind (0x14 ∷ position p) (position q) b t u 9 8 refl refl
    (behind (0x14 ∷ []) (position p) b (set b 0 0x14) t 1 8 refl refl (first_put b 0x14 h) e) f) (part-pasted u (writing x) y 17 g)

pub block_put : (b t y x ns : List ℕ) (p : Position) → 0 < length b → t ≡ paste (set b 0 0x15) 1 (position p) 8 → Back t 9 y (chunk_bytes (pieces ns x))
    → whole t 9 y ≡ over (edit_bytes (InsertBlock p) x ns []) b
unfolding edit_bytes
block_put b t y x ns p h e f = position-put b t y (chunk_bytes (pieces ns x)) 0x15 p h e f

pub chunks_put : (b t y ws ds : List ℕ) (p : Position) → 0 < length b → t ≡ paste (set b 0 0x16) 1 (position p) 8 → Back t 9 y (width_bytes ws ds)
    → whole t 9 y ≡ over (edit_bytes (DeleteBlockChunks p) [] ws ds) b
unfolding edit_bytes
chunks_put b t y ws ds p h e f = position-put b t y (width_bytes ws ds) 0x16 p h e f
