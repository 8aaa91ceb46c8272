-- A frame that goes to the lent slices, or is refused by 8.
use mathlib.Core.Path.{◌≡◌, ◌∙◌}
use mathlib.Core.Bool.{and-false}
use mathlib.Core.List.{List, []}
use Prim.Native.Nat.{ℕ, ◌≤◌, ◌<◌}
use native.Mathlib.Omega.{arith}
use borrow.Author.Tests.{le-leb, lt-leb}
use lib.Dec.{leb}
use lib.ListN.{length}
use Rattle.promise.specs.Paper.{done, refused}
use Rattle.promise.specs.Slices.{over}
use Rattle.edit.specs.declared.Edit.{Edit}
use Rattle.edit.specs.Edits.{whole}
use Rattle.frame.specs.Format as format
use Rattle.reader.specs.Calls.{edit, filled, frame_into, read_into}

module _ (e : Edit) (p fs ss x f s : List ℕ) where
  pub edit_fits : length p ≤ length x → length fs ≤ length f → length ss ≤ length s
      → filled (done (edit e (length p) (length fs) (length ss))) (over p x) (over fs f) (over ss s) ≡ read_into (done (format.edit (whole e p fs ss))) x f s
  unfolding read_into frame_into
  edit_fits h k l = rw (le-leb _ _ h, le-leb _ _ k, le-leb _ _ l)

  pub payload_short : length x < length p → filled (refused 8 0) x f s ≡ read_into (done (format.edit (whole e p fs ss))) x f s
  unfolding read_into frame_into
  payload_short h = rw (lt-leb _ _ h)

  pub first_short : length f < length fs → filled (refused 8 0) x f s ≡ read_into (done (format.edit (whole e p fs ss))) x f s
  unfolding read_into frame_into
  first_short h = rw (lt-leb _ _ h, and-false (leb (length p) (length x)))

  pub second_short : length s < length ss → filled (refused 8 0) x f s ≡ read_into (done (format.edit (whole e p fs ss))) x f s
  unfolding read_into frame_into
  second_short h = rw (lt-leb _ _ h, and-false)

-- two lists of n items, and no payload
module _ (e : Edit) (fs ss x f s : List ℕ) (n : ℕ) (p : length fs ≡ n) (q : length ss ≡ n) where
  pub lists_fit : (g t : List ℕ) → n ≤ length f → n ≤ length s → g ≡ over fs f → t ≡ over ss s
      → filled (done (edit e 0 n n)) x g t ≡ read_into (done (format.edit (whole e [] fs ss))) x f s
  lists_fit g t h k u v =
      let c : filled (done (edit e 0 n n)) x g t ≡ filled (done (edit e 0 (length fs) (length ss))) x (over fs f) (over ss s) = rw (u, v, p, q) in
      c ∙ edit_fits e [] fs ss x f s (omega arith) (omega arith) (omega arith)

  pub first_lacks : length f < n → filled (refused 8 0) x f s ≡ read_into (done (format.edit (whole e [] fs ss))) x f s
  first_lacks h = first_short e [] fs ss x f s (omega arith)

  pub second_lacks : length s < n → filled (refused 8 0) x f s ≡ read_into (done (format.edit (whole e [] fs ss))) x f s
  second_lacks h = second_short e [] fs ss x f s (omega arith)
