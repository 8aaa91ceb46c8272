-- Edits on texts: which are accepted, what one step gives, and what takes it back.
use mathlib.Core.Path.{◌≡◌}
use mathlib.Core.Bool.{Bool, ◌&&◌}
use mathlib.Core.List.{List}
use Prim.Native.Nat.{ℕ, ◌≤◌}
use borrow.Author.Tests.{le-leb}
use lib.Dec.{T, leb, leb→le}
use lib.ListN.{length}
use Rattle.text.specs.Text.{is_lf, admissible, all}
use Rattle.edit.specs.declared.Room.{Room}
use Rattle.edit.specs.Edits.{Whole, Edited, edited_by}
use Rattle.promise.proofs.Bools.{T-both, T-left, T-right}
use Rattle.edit.specs.Refusals.{is_space, spaces, short, small_ok, few_ok, payload_ok, within_ok, room_ok, record_ok}

-- ---- a text and an edit

abbrev pub doing : Whole ℕ → List ℕ → Edited ℕ
doing w t = edited_by is_lf is_space spaces w.edit w.payload w.first w.second t

-- the slices that demand 3 names, for a text buffer of n places
abbrev pub full : ℕ → Room
full n = record { buffer = n; payload = n; first = 256; second = 256 }

-- a text that a buffer of n places admits
unfoldable pub holds : ℕ → List ℕ → Bool
holds n t = leb (length t) n && short t && all admissible t

abbrev pub Ok : ℕ → List ℕ → Type 0
Ok n t = T (holds n t)

-- every test passes but that for the record, which is never longer than demand 3's slices (`inverse_fits`)
pub record Fine (n : ℕ) (t : List ℕ) (w : Whole ℕ) : Type 0 where
  pub textual : Ok n t
  pub smalls : T (small_ok w.edit w.first w.second)
  pub fews : T (few_ok t w.edit w.payload w.first w.second)
  pub payloads : T (payload_ok w.edit w.payload w.first)
  pub withins : T (within_ok t w.edit w.first w.second)
  pub rooms : T (room_ok (full n) (doing w t).text)

-- edit w is accepted at text t, and gives text u and inverse i
pub record Step (n : ℕ) (t : List ℕ) (w : Whole ℕ) (u : List ℕ) (i : Whole ℕ) : Type 0 where
  pub fine : Fine n t w
  pub text : (doing w t).text ≡ u
  pub inverse : (doing w t).inverse ≡ i

-- inverse i takes u back to t, and the inverse of that takes t to u again
abbrev pub Back : ℕ → List ℕ → List ℕ → Whole ℕ → Type 0
Back n t u i = (r : Whole ℕ) × (k : Whole ℕ) × Step n u i t r × Step n t r u k

module _ (n : ℕ) (t : List ℕ) (h : Ok n t) where
  pub ok_room : T (room_ok (full n) t)
  unfolding holds room_ok
  ok_room = T-left (leb (length t) n && short t) (all admissible t) h

  pub ok_fits : length t ≤ n
  unfolding holds
  ok_fits = leb→le (length t) n (T-left (leb (length t) n) (short t) (T-left (leb (length t) n && short t) (all admissible t) h))

  pub ok_short : length t ≤ 16384
  unfolding holds
  ok_short = leb→le (length t) 16384 (T-right (leb (length t) n) (short t) (T-left (leb (length t) n && short t) (all admissible t) h))

  pub ok_admissible : T (all admissible t)
  unfolding holds
  ok_admissible = T-right (leb (length t) n && short t) (all admissible t) h

pub ok_both : (n : ℕ) (t : List ℕ) → T (room_ok (full n) t) → T (all admissible t) → Ok n t
unfolding holds room_ok
ok_both n t h k = T-both (leb (length t) n && short t) (all admissible t) h k

-- a record has room where each of its parts has
pub record_room : (R : Room) (i : Whole ℕ) → length i.payload ≤ R.payload → length i.first ≤ R.first → length i.second ≤ R.second → T (record_ok R i)
unfolding record_ok
record_room R i p f s = rw (le-leb (length i.payload) R.payload p, le-leb (length i.first) R.first f, le-leb (length i.second) R.second s) tt

pub record_fits : (R : Room) (i : Whole ℕ) → T (record_ok R i) → (length i.payload ≤ R.payload) × (length i.first ≤ R.first) × (length i.second ≤ R.second)
unfolding record_ok
record_fits R i h =
    let a = leb (length i.payload) R.payload in
    let b = leb (length i.first) R.first in
    let c = leb (length i.second) R.second in (
      leb→le (length i.payload) R.payload (T-left a b (T-left (a && b) c h)),
      leb→le (length i.first) R.first (T-right a b (T-left (a && b) c h)),
      leb→le (length i.second) R.second (T-right (a && b) c h),
    )
