-- "Every public function has a result promise that determines answer, view and each lent slice, refusals too".
use Rattle.std.specs.Prelude.{◌≡◌}

-- A promise `meaning outcome ≡ m` settles the outcome: whatever meets it is the same. An outcome is the answer with
-- every lent slice at exit, and its meaning is what the promise says of it.
abbrev pub Settles : {A B : Type 0} → (A → B) → Type 0
Settles {A} {B} meaning = (m : B) (x y : A) → meaning x ≡ m → meaning y ≡ m → x ≡ y
