-- A line's end, a line's part, and one call after another, on slices.
use mathlib.Core.Path.{◌≡◌, refl, sym, ap, ◌∙◌}
use mathlib.Core.List.{List, [], ◌++◌}
use Prim.Native.Nat.{ℕ, ◌+◌, ◌-◌, ◌≤◌, ◌<◌}
use native.Mathlib.Nat.{sub-zero}
use native.Mathlib.Decide.{dec_le}
use native.Mathlib.Numerals.{add-one}
use native.Mathlib.Omega.{arith}
use lib.ListN.{length, take, drop, length-take, length-drop, length-append}
use lib.Seq.{paste, take_all, take-add, take-append_seam}
use Rattle.promise.specs.Slices.{over}
use Rattle.promise.proofs.Lists.{tail_whole, paste-behind, part-pasted}
use Rattle.text.specs.Rows.{row_len}
use Rattle.text.specs.Text.{is_lf}
use Rattle.std.specs.Prelude.{Option}
use Rattle.select.specs.declared.Sel.{Sel}
use Rattle.marking.proofs.Slots.{marks_in-over}
use Rattle.loading.specs.declared.Script.{Script}
use Rattle.loading.specs.declared.Progress.{Progress}
use Rattle.loading.specs.States.{State, state_of, script_of}
use Rattle.loading.specs.Loads.{Stepped}
use Rattle.step.specs.Steps.{step}
use Rattle.step.specs.Calls as stepping
use Rattle.step.specs.Calls.{Ready, step_leaves}
use Rattle.step.proofs.Readies.{marks_counted}
use Rattle.feed.specs.declared.Course.{Course}
use Rattle.feed.specs.Feeds.{held, held_limit, Fed, fed, fed_by, fed_on}
use Rattle.feed.specs.Calls.{Left, left, leaves, feed_leaves}
use Rattle.feed.proofs.Feeds.{fed-append, fed-held, fed-line, held-step}

abbrev pub course : Script → ℕ → ℕ → ℕ → Course
course c p k n = record { script = c; pending = p; taken = k; printed = n }

held-front : (p : ℕ) (l : List ℕ) → p ≤ held_limit → held (take p l) ≡ take p l
held-front p l h = take_all held_limit (take p l) (omega (arith, length-take p l))

-- how long a part is that is lent from a on
pub part_length : (b : List ℕ) (a : ℕ) → length (take (length b - a) (drop a b)) ≡ length b - a
part_length b a = ap length (tail_whole b a) ∙ length-drop a b

-- ---- a line that ends

module _ (c : Script) (l t : List ℕ) (m : List (Option Sel)) (o : List ℕ) (ready : Ready c t m) (r : Progress) (t' : List ℕ) (m' : List (Option Sel)) (o' : List ℕ) (e : stepping.left r t' m' o' ≡ step_leaves c l t m o) where
  abbrev x : Stepped
  x = step (state_of c t m) l

  stepped-state : state_of r.script t' m' ≡ x.state
  stepped-state =
      let s : r.script ≡ script_of x.state = ap (λ (q : stepping.Left). q.script) e in
      let b : t' ≡ x.state.buffer = ap (λ (q : stepping.Left). q.text) e in
      let k = ap (λ (q : stepping.Left). q.marks) e in
      rw (s, b, k, marks_in-over x.state.marks m x.state.place.marks (marks_counted c t m l ready))

  line-left : (v : List ℕ) (k : ℕ) → left (course r.script 0 k r.printed) v t' m' o' ≡ leaves (fed x.state [] x.printed) o
  line-left v k =
      let n : r.printed ≡ length x.printed = ap (λ (q : stepping.Left). q.printed) e in
      let y : o' ≡ over x.printed o = ap (λ (q : stepping.Left). q.out) e in
      rw (stepped-state, n, y)

  -- xs has its first LF at n, and l is stepped as what is held of the line
  module _ (p xs : List ℕ) (n : ℕ) (hp : held p ≡ p) (hn : n ≡ row_len is_lf xs 0) (h : n < length xs) where
    ended_left : (v : List ℕ) → step (state_of c t m) l ≡ step (state_of c t m) (held (p ++ take n xs))
        → left (course r.script 0 (n + 1) r.printed) v t' m' o' ≡ feed_leaves c p (take (n + 1) xs) t m o
    ended_left v q =
        line-left v (n + 1) ∙ ap (λ (y : Stepped). leaves (fed y.state [] y.printed) o) q
        ∙ ap (λ (y : Fed). leaves y o) (sym (ap (λ (k : ℕ). fed_by (state_of c t m) p (take k xs)) (add-one n) ∙ fed-line (state_of c t m) p xs n hp (sym hn) h))

-- all of it in this piece
pub whole-left : (c : Script) (xs t : List ℕ) (m : List (Option Sel)) (o : List ℕ) → Ready c t m → (r : Progress) (t' : List ℕ) (m' : List (Option Sel)) (o' : List ℕ) (n : ℕ)
    → stepping.left r t' m' o' ≡ step_leaves c (take (n - 0) (drop 0 xs)) t m o
    → n ≡ row_len is_lf xs 0 → n < length xs → (p : ℕ) → p ≡ 0 → (v v' : List ℕ)
    → left (course r.script 0 (n + 1) r.printed) v' t' m' o' ≡ feed_leaves c (take p v) (take (n + 1) xs) t m o
whole-left c xs t m o y r t' m' o' n e hn h p z v v' =
    ended_left c (take (n - 0) xs) t m o y r t' m' o' e [] xs n (held-front 0 [] (omega arith)) hn h v'
    (ap (λ (k : ℕ). step (state_of c t m) (take k xs)) (sub-zero n) ∙ sym (held-step (state_of c t m) (take n xs)))
    ∙ ap (λ (k : ℕ). feed_leaves c (take k v) (take (n + 1) xs) t m o) (sym z)

-- its beginning in pieces before
pub pieced_left : (c : Script) (xs t : List ℕ) (m : List (Option Sel)) (o : List ℕ) → Ready c t m → (r : Progress) (t' : List ℕ) (m' : List (Option Sel)) (o' : List ℕ) (n p k : ℕ) (v v' : List ℕ)
    → stepping.left r t' m' o' ≡ step_leaves c (take (k - 0) (drop 0 v')) t m o
    → n ≡ row_len is_lf xs 0 → n < length xs → p ≤ held_limit → take k v' ≡ held (take p v ++ take (n - 0) (drop 0 xs))
    → left (course r.script 0 (n + 1) r.printed) v' t' m' o' ≡ feed_leaves c (take p v) (take (n + 1) xs) t m o
pieced_left c xs t m o y r t' m' o' n p k v v' e hn h hp q =
    ended_left c (take (k - 0) v') t m o y r t' m' o' e (take p v) xs n (held-front p v hp) hn h v'
    (ap (λ (i : ℕ). step (state_of c t m) (take i v')) (sub-zero k) ∙ ap (step (state_of c t m)) q ∙ ap (λ (i : ℕ). step (state_of c t m) (held (take p v ++ take i xs))) (sub-zero n))

-- ---- a part without LF

pub held-left : (c : Script) (xs t : List ℕ) (m : List (Option Sel)) (o : List ℕ) (n p k : ℕ) (v v' : List ℕ) → n ≡ row_len is_lf xs 0 → length xs ≤ n → n ≤ length xs → p ≤ held_limit → take k v' ≡ held (take p v ++ xs)
    → left (course c k n 0) v' t m o ≡ feed_leaves c (take p v) (take n xs) t m o
held-left c xs t m o n p k v v' hn h g hp q =
    ap (λ (y : List ℕ). record { state = state_of c t m; pending = y; printed = 0; out = o }) q
    ∙ ap (λ (y : Fed). leaves y o) (sym (ap (fed_by (state_of c t m) (take p v)) (take_all n xs h) ∙ fed-held (state_of c t m) (take p v) xs (held-front p v hp) (omega arith)))

-- ---- one call after another

-- x stands in front of o, and the part behind it was lent from k on and came back with z in front
pub behind : (x z o y b : List ℕ) (k : ℕ) → k ≡ length x → b ≡ over x o → y ≡ over z (take (length b - k) (drop k b))
    → take k b ++ (y ++ drop (length b - k) (drop k b)) ≡ over (x ++ z) o
behind x z o y b k e q h = part-pasted b z y k h ∙ ap (λ (v : List ℕ). paste v k z (length z)) q ∙ paste-behind x z o k (length z) (sym e) refl

-- what was printed to the front of a slice, as it is lent from there
pub printed-part : (x o y : List ℕ) (n : ℕ) → y ≡ over x o → n ≡ length x → take (n - 0) (drop 0 y) ≡ x
printed-part x o y n e q = rw (q, sub-zero, e) (take-append_seam x (drop (length x) o))

same : {a a' : State} {p p' : List ℕ} {n n' : ℕ} {o o' : List ℕ} → a ≡ a' → p ≡ p' → n ≡ n' → o ≡ o'
    → ◌≡◌ {A = Left} (record { state = a; pending = p; printed = n; out = o }) (record { state = a'; pending = p'; printed = n'; out = o' })
same a p n o = rw (a, p, n, o)

pub fed-none : (c : Script) (p : ℕ) (l xs t : List ℕ) (m : List (Option Sel)) (o : List ℕ) → left (course c p 0 0) l t m o ≡ feed_leaves c (take p l) (take 0 xs) t m o
unfolding fed_by
fed-none c p l xs t m o = refl

-- n bytes of a piece have been fed, and w printed; then r of what is left
module _ (c₀ : Script) (p₀ t₀ : List ℕ) (m₀ : List (Option Sel)) (o₀ piece : List ℕ) (c : Script) (k n w : ℕ) (l t : List ℕ) (m : List (Option Sel)) (o : List ℕ) (r : Course)
    (l' t' : List ℕ) (m' : List (Option Sel)) (y : List ℕ)
    (e : left (course c k n w) l t m o ≡ feed_leaves c₀ p₀ (take n piece) t₀ m₀ o₀)
    (q : left r l' t' m' y ≡ feed_leaves c (take k l) (take r.taken (take (length piece - n) (drop n piece))) t m (take (length o - w) (drop w o))) where
  abbrev ys : List ℕ
  ys = take r.taken (drop n piece)

  abbrev before : Fed
  before = fed_by (state_of c₀ t₀ m₀) p₀ (take n piece)

  abbrev next : Fed
  next = fed_by before.state before.pending ys

  then_left : left r l' t' m' y ≡ leaves next (take (length o - w) (drop w o))
  then_left =
      q ∙ ap (λ (z : List ℕ). leaves (fed_by (state_of c t m) (take k l) (take r.taken z)) (take (length o - w) (drop w o))) (tail_whole piece n)
      ∙ ap (λ (z : Left). leaves (fed_by z.state z.pending ys) (take (length o - w) (drop w o))) e

  both-fed : fed_by (state_of c₀ t₀ m₀) p₀ (take (n + r.taken) piece) ≡ fed_on before ys
  both-fed = ap (fed_by (state_of c₀ t₀ m₀) p₀) (take-add n r.taken piece) ∙ fed-append (state_of c₀ t₀ m₀) p₀ (take n piece) ys

  both_out : take w o ++ (y ++ drop (length o - w) (drop w o)) ≡ over (before.printed ++ next.printed) o₀
  both_out = behind before.printed next.printed o₀ y o w (ap (λ (z : Left). z.printed) e) (ap (λ (z : Left). z.out) e) (ap (λ (z : Left). z.out) then_left)

  pub fed-turn : left (course r.script r.pending (n + r.taken) (w + r.printed)) l' t' m' (take w o ++ (y ++ drop (length o - w) (drop w o)))
      ≡ feed_leaves c₀ p₀ (take (n + r.taken) piece) t₀ m₀ o₀
  fed-turn =
      let a : w ≡ length before.printed = ap (λ (z : Left). z.printed) e in
      let b : r.printed ≡ length next.printed = ap (λ (z : Left). z.printed) then_left in
      same (ap (λ (z : Left). z.state) then_left) (ap (λ (z : Left). z.pending) then_left) (omega (arith, length-append before.printed next.printed)) both_out
      ∙ ap (λ (z : Fed). leaves z o₀) (sym both-fed)

none_printed : (s : State) (p : List ℕ) → length (fed_by s p []).printed ≡ 0
unfolding fed_by
none_printed s p = refl

-- a call that has room for a line takes some of what there is
pub some_taken : (c : Script) (p xs t : List ℕ) (m : List (Option Sel)) (o : List ℕ) (r : Course) (l' t' : List ℕ) (m' : List (Option Sel)) (o' : List ℕ) → left r l' t' m' o' ≡ feed_leaves c p (take r.taken xs) t m o
    → (r.taken < length xs → length o < r.printed + 36_867) → 36_867 ≤ length o → 0 < length xs → 0 < r.taken
some_taken c p xs t m o r l' t' m' o' e f h k = elim (dec_le r.taken 0) [ yes z ↦ absurd (omega (arith, f (omega arith), none r.taken (omega arith) (ap (λ (z : Left). z.printed) e))) | no z ↦ omega arith ]
  where
    none : (n : ℕ) → n ≡ 0 → r.printed ≡ length (fed_by (state_of c t m) p (take n xs)).printed → r.printed ≡ 0
    none n z q = q ∙ ap (λ (k : ℕ). length (fed_by (state_of c t m) p (take k xs)).printed) z ∙ none_printed (state_of c t m) p
