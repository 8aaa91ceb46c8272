-- Texts and inverses whose lines are read as themselves.
use mathlib.Core.Path.{◌≡◌, refl, ◌∙◌, ap}
use mathlib.Core.Bool.{true}
use mathlib.Core.List.{List, [], ◌∷◌, ◌++◌, map, reverse, reverse-cons}
use Prim.Native.Nat.{ℕ, ◌≤◌}
use native.Mathlib.Omega.{arith}
use lib.ListN.{length, replicate, length-replicate}
use Rattle.promise.specs.Paper.{done}
use Rattle.text.specs.Rows.{at}
use Rattle.text.specs.Text.{all_admissible}
use Rattle.edit.specs.Edits.{Whole}
use Rattle.edit.specs.Call.{result_of}
use Rattle.edit.specs.Runs.{Run, stop, step as then, inverses}
use Rattle.edit.specs.Demand3.{State as Core, Beside, view_at, lent_at, AcceptedWith, Accepted}
use Rattle.edit.proofs.Calls.{next_held, with_called}
use Rattle.edit.proofs.Maps.{map-append}
use Rattle.frame.specs.Format.{text, edit}
use Rattle.frame.specs.Reads.{frame_read}
use Rattle.frame.specs.Theorems.{used_of}
use Rattle.frame.proofs.Theorems.{reads_written}
use Rattle.frame.proofs.Inverses.{inverses-have_lines, texts-have_lines}
use Rattle.loading.specs.States.{buffer_limit}
use Rattle.step.proofs.Callings.{lined}
use Rattle.script.specs.Undo.{text_line}

pub text-read : (cs : List ℕ) → all_admissible cs ≡ true → length cs ≤ buffer_limit → frame_read (text_line cs) ≡ done (text cs)
unfolding used_of
text-read cs e h = let x = texts-have_lines cs e h in reads_written (text cs) (text_line cs) x.1 x.0

abbrev pub Reads : Whole ℕ → Type 0
Reads w = frame_read (lined w) ≡ done (edit w)

-- a call with the named record room, all of it 0
abbrev named : Core → Beside
named c = record { cursor = at 0 0; changes = 0; payload = replicate (length c.buffer) 0; first = replicate 256 0; second = replicate 256 0 }

with_named : (c : Core) (w : Whole ℕ) (u : Core) (i : Whole ℕ) → Accepted c w u i → AcceptedWith (named c) c w u i
with_named c w u i k =
    let p = length-replicate {A = ℕ} (length c.buffer) 0 in
    let l = length-replicate {A = ℕ} 256 0 in
    k (named c) (record { payload = omega (arith, p); first = omega (arith, l); second = omega (arith, l) })

inverse_read : (o : Beside) (c : Core) (w : Whole ℕ) (u : Core) (i : Whole ℕ) → length c.buffer ≤ buffer_limit → AcceptedWith o c w u i → Reads i
unfolding result_of
inverse_read o c w u i h k =
    let x = inverses-have_lines (view_at c o) w.edit (lent_at c w o) k.0 k.1 h in
    let q = (with_called o c w u i k).inverse in
    rw q (reads_written (edit _) (lined _) x.1 x.0 ∙ ap done x.2)

pub data AllRead : List (Whole ℕ) → Type 0 where
  none : AllRead []
  more : {w : Whole ℕ} {ws : List (Whole ℕ)} → Reads w → AllRead ws → AllRead (w ∷ ws)

-- the inverses of a run in a buffer of 4,096 places
pub inverses-read : {c v : Core} (r : Run Accepted c v) → length c.buffer ≡ buffer_limit → AllRead (inverses r)
unfolding inverses
inverses-read stop h = none
inverses-read (then {s = c} {u = u} {e = w} {i = i} k r) h =
    let m = with_named c w u i k in
    let a = with_called (named c) c w u i m in
    let n : length u.buffer ≡ length c.buffer = rw a.state (next_held (length c.buffer) c w a.before a.fine).long in
    more (inverse_read (named c) c w u i (omega arith) m) (inverses-read r (n ∙ h))

snoc_read : {ws : List (Whole ℕ)} {w : Whole ℕ} → AllRead ws → Reads w → AllRead (ws ++ (w ∷ []))
snoc_read none h = more h none
snoc_read (more k r) h = more k (snoc_read r h)

pub reverse-read : {ws : List (Whole ℕ)} → AllRead ws → AllRead (reverse ws)
reverse-read none = none
reverse-read (more {w} {ws} h r) = rw (reverse-cons w ws) (snoc_read (reverse-read r) h)

pub lines-reverse : (ws : List (Whole ℕ)) → reverse (map lined ws) ≡ map lined (reverse ws)
lines-reverse [] = refl
lines-reverse (w ∷ ws) =
    reverse-cons (lined w) (map lined ws) ∙ rw (lines-reverse ws, reverse-cons w ws, map-append lined (reverse ws) (w ∷ []))
