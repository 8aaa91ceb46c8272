-- What the heads are where a function answers.
use mathlib.Core.Path.{◌≡◌, refl, ap, sym, ◌∙◌}
use mathlib.Core.Bool.{Bool, true, false, not}
use mathlib.Core.List.{List, [], ◌∷◌}
use Prim.Native.Nat.{ℕ, ◌-◌, ◌≤◌}
use native.Mathlib.Omega.{arith}
use borrow.Author.Tests.{le-leb, ne_eqb, not-true, not-false}
use lib.ListN.{length, take, drop}
use Rattle.promise.proofs.Lists.{tail_whole}
use Rattle.text.specs.declared.Position.{Position}
use Rattle.edit.specs.declared.Edit.TheVariants.{SplitLines, InsertBlock}
use Rattle.edit.specs.Edits.{row_at}
use Rattle.frame.specs.Numbers.{number_in, position_in}
use Rattle.frame.specs.Forms.{Cut, broken, cut, kind_form, flagged, split_form, is_cut, strings_in, block_of, block_form, form_by, form_of, head_of}
use Rattle.frame.specs.declared.Head.TheVariants as as_head

pub unknown_kind : (k : ℕ) (p q : Position) → (k ≡ 0 → ⊥) → (k ≡ 1 → ⊥) → (k ≡ 2 → ⊥) → as_head.Malformed ≡ head_of (kind_form k p q)
unfolding kind_form head_of
unknown_kind k p q a b c = rw (ne_eqb k 0 a, ne_eqb k 1 b, ne_eqb k 2 c)

-- of the items behind a split's row: the function's answer r is of the part lent
module _ (b : List ℕ) (h : 5 ≤ length b) (r : Bool) (e : r ≡ flagged (take (length b - 5) (drop 5 b))) where
  flagged-is : flagged (drop 5 b) ≡ r
  flagged-is = ap flagged (sym (tail_whole b 5)) ∙ sym e

  pub split-malformed : not r ≡ true → as_head.Malformed ≡ head_of (split_form b)
  unfolding split_form head_of
  split-malformed g = rw (le-leb 5 (length b) h, flagged-is, not-true r g)

  pub split-made : not r ≡ false → (n : ℕ) → n ≡ number_in b 1 → as_head.Edit (SplitLines (row_at n)) ≡ head_of (split_form b)
  unfolding split_form head_of
  split-made g n m = rw (le-leb 5 (length b) h, flagged-is, not-false r g, m)

torn_block : (p : Position) (c : Cut) → is_cut c ≡ false → as_head.Malformed ≡ head_of (block_of p c)
unfolding block_of is_cut head_of
torn_block p broken e = refl
torn_block p (cut ks) e = let z : true ≡ false = e in cc

whole-block : (p : Position) (c : Cut) → is_cut c ≡ true → as_head.Edit (InsertBlock p) ≡ head_of (block_of p c)
unfolding block_of is_cut head_of
whole-block p broken e = let z : false ≡ true = e in cc
whole-block p (cut ks) e = refl

-- of the strings behind a block's position
module _ (b : List ℕ) (h : 9 ≤ length b) (r : Bool) (e : r ≡ is_cut (strings_in (take (length b - 9) (drop 9 b)))) where
  cut_is : is_cut (strings_in (drop 9 b)) ≡ r
  cut_is = ap (λ (s : List ℕ). is_cut (strings_in s)) (sym (tail_whole b 9)) ∙ sym e

  pub block_malformed : not r ≡ true → as_head.Malformed ≡ head_of (block_form b)
  unfolding block_form
  block_malformed g = rw (le-leb 9 (length b) h) (torn_block (position_in b 1) (strings_in (drop 9 b)) (cut_is ∙ not-true r g))

  pub block_made : not r ≡ false → (p : Position) → p ≡ position_in b 1 → as_head.Edit (InsertBlock p) ≡ head_of (block_form b)
  unfolding block_form
  block_made g p m = rw (le-leb 9 (length b) h, m) (whole-block (position_in b 1) (strings_in (drop 9 b)) (cut_is ∙ not-false r g))

pub unknown_first : (k : ℕ) (b : List ℕ) → (k ≡ 0x01 → ⊥) → (k ≡ 0x02 → ⊥) → (k ≡ 0x10 → ⊥) → (k ≡ 0x11 → ⊥) → (k ≡ 0x12 → ⊥) → (k ≡ 0x13 → ⊥) → (k ≡ 0x14 → ⊥) → (k ≡ 0x15 → ⊥) → (k ≡ 0x16 → ⊥) → as_head.Malformed ≡ head_of (form_by k b)
unfolding form_by head_of
unknown_first k b a1 a2 a3 a4 a5 a6 a7 a8 a9 = rw (ne_eqb k 0x01 a1, ne_eqb k 0x02 a2, ne_eqb k 0x10 a3, ne_eqb k 0x11 a4, ne_eqb k 0x12 a5, ne_eqb k 0x13 a6, ne_eqb k 0x14 a7, ne_eqb k 0x15 a8, ne_eqb k 0x16 a9)

pub empty_line : (b : List ℕ) → length b ≡ 0 → as_head.Malformed ≡ head_of (form_of b)
unfolding form_by head_of
empty_line [] e = refl
empty_line (x ∷ b) e = absurd (omega arith)
