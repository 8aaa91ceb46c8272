-- An input in pieces, from its first byte to its ending.
use mathlib.Core.Path.{◌≡◌, refl, sym, ap, ◌∙◌}
use mathlib.Core.Bool.{Bool, true, false, cond}
use mathlib.Core.List.{List, [], ◌∷◌, ◌++◌, flatten, append-nil, append_assoc}
use Prim.Native.Nat.{ℕ}
use native.Mathlib.Omega.{arith}
use borrow.Author.Tests.{eqb-true, ne_eqb}
use lib.Dec.{eqb}
use lib.ListN.{length, length-take}
use lib.Seq.{take-nil}
use Rattle.text.specs.Rows.{Line, line, lines, onto}
use Rattle.text.specs.Text.{is_lf}
use Rattle.loading.specs.States.{State, opening}
use Rattle.loading.specs.Loads.{refuses, stepped}
use Rattle.step.specs.Steps.{step, ending}
use Rattle.feed.specs.Scripts.{line_step, run, output}
use Rattle.feed.specs.Feeds.{held, held_limit, Fed, fed, fed_byte, fed_by, fed_on, fed_pieces, closing, whole}
use Rattle.feed.proofs.Feeds.{fed-append, held-step, held-held}

-- ---- the rows of what has come of a line, with the rest behind it

-- the bytes of l, none of them LF, in front of the first row
pub ontos : List ℕ → List (Line ℕ) → List (Line ℕ)
ontos [] rs = rs
ontos (x ∷ l) rs = onto x (ontos l rs)

ontos_line : (l b a : List ℕ) (rs : List (Line ℕ)) → ontos l (line b a ∷ rs) ≡ line (l ++ b) a ∷ rs
unfolding ontos onto
ontos_line [] b a rs = refl
ontos_line (x ∷ l) b a rs = rw (ontos_line l b a rs)

ontos_snoc : (l : List ℕ) (x : ℕ) (rs : List (Line ℕ)) → ontos (l ++ (x ∷ [])) rs ≡ ontos l (onto x rs)
unfolding ontos
ontos_snoc [] x rs = refl
ontos_snoc (y ∷ l) x rs = rw (ontos_snoc l x rs)

-- ---- a line that is held in part

module _ (s : State) where
  line-held : (l : List ℕ) (rs : List (Line ℕ)) → run s (line l (10 ∷ []) ∷ rs) ≡ (step s (held l)).printed ++ run (step s (held l)).state rs
  unfolding run line_step
  line-held l rs = rw (held-step s l)

  cut_run : (l : List ℕ) → run s (line l [] ∷ []) ≡ closing s (length l)
  unfolding run line_step closing
  cut_run l = go (eqb (length l) 0)
    where
      go : (b : Bool) → (let x = cond b (stepped s []) (refuses s 10) in x.printed ++ ending x.state) ≡ cond b [] (refuses s 10).printed ++ ending s
      go true = refl
      go false = refl

  cut_held : (l : List ℕ) → closing s (length (held l)) ≡ closing s (length l)
  unfolding closing
  cut_held [] = ap (λ (z : List ℕ). closing s (length z)) (take-nil held_limit)
  cut_held (x ∷ l) = rw (ne_eqb (length (held (x ∷ l))) 0 (λ e. omega (arith, length-take held_limit (x ∷ l))), ne_eqb (length (x ∷ l)) 0 (λ e. omega arith))

-- ---- all that is printed

pub fed-run : (s : State) (l t : List ℕ) → whole (fed_by s (held l) t) ≡ run s (ontos l (lines is_lf t))
unfolding fed_by fed_byte lines ontos
fed-run s l [] = cut_held s l ∙ sym (ap (run s) (ontos_line l [] [] []) ∙ ap (λ (z : List ℕ). run s (line z [] ∷ [])) (append-nil l) ∙ cut_run s l)
fed-run s l (x ∷ t) = go (is_lf x) refl (fed-run (step s (held l)).state [] t) (fed-run s (l ++ (x ∷ [])) t)
  where
    go : (b : Bool) → is_lf x ≡ b → whole (fed_by (step s (held l)).state [] t) ≡ run (step s (held l)).state (ontos [] (lines is_lf t))
        → whole (fed_by s (held (l ++ (x ∷ []))) t) ≡ run s (ontos (l ++ (x ∷ [])) (lines is_lf t))
        → whole (fed_on (cond b (let y = step s (held l) in fed y.state [] y.printed) (fed s (held (held l ++ (x ∷ []))) [])) t)
        ≡ run s (ontos l (cond b (line [] (x ∷ []) ∷ lines is_lf t) (onto x (lines is_lf t))))
    go true q e r =
        let y = step s (held l) in
        let z = fed_by y.state [] t in
        let n : x ≡ 10 = eqb-true x 10 q in
        append_assoc y.printed z.printed (closing z.state (length z.pending)) ∙ ap (λ (w : List ℕ). y.printed ++ w) e ∙ sym (ap (run s) (ontos_line l [] (x ∷ []) (lines is_lf t) ∙ rw (append-nil, n)) ∙ line-held s l (lines is_lf t))
    go false q e r = ap (λ (p : List ℕ). whole (fed_by s p t)) (held-held l (x ∷ [])) ∙ r ∙ ap (run s) (ontos_snoc l x (lines is_lf t))

-- an input in one piece
pub whole-output : (t : List ℕ) → whole (fed_by opening [] t) ≡ output t
unfolding ontos
whole-output t = ap (λ (p : List ℕ). whole (fed_by opening p t)) (sym (take-nil held_limit)) ∙ fed-run opening [] t

-- where nothing more comes
pub whole-none : (s : State) (p : List ℕ) → whole (fed_by s p []) ≡ closing s (length p)
unfolding fed_by
whole-none s p = refl

-- some bytes, and then the rest
pub whole-more : (s : State) (p xs ys : List ℕ) → let x = fed_by s p xs in whole (fed_by s p (xs ++ ys)) ≡ x.printed ++ whole (fed_by x.state x.pending ys)
whole-more s p xs ys =
    let x = fed_by s p xs in
    let y = fed_by x.state x.pending ys in
    ap whole (fed-append s p xs ys) ∙ append_assoc x.printed y.printed (closing y.state (length y.pending))

-- ---- pieces

on_none : (x : Fed) → fed_on x [] ≡ x
unfolding fed_by
on_none x = rw append-nil

on_on : (x : Fed) (bs cs : List ℕ) → fed_on (fed_on x bs) cs ≡ fed_on x (bs ++ cs)
on_on x bs cs = rw (fed-append x.state x.pending bs cs) (simp append_assoc)

pub pieces-on : (x : Fed) (ps : List (List ℕ)) → fed_pieces x ps ≡ fed_on x (flatten ps)
unfolding fed_pieces flatten
pieces-on x [] = sym (on_none x)
pieces-on x (bs ∷ ps) = pieces-on (fed_on x bs) ps ∙ on_on x bs (flatten ps)

pub fed-all : (ps : List (List ℕ)) → whole (fed_pieces (fed opening [] []) ps) ≡ output (flatten ps)
fed-all ps = ap whole (pieces-on (fed opening [] []) ps) ∙ whole-output (flatten ps)
