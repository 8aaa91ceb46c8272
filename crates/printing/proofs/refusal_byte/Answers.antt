use native.Mathlib.Omega.{arith}
use Rattle.printing.proofs.Printed.{number-byte}
use Rattle.printing.proofs.refusal_byte.Goals as goal

pub overflow_cast-result : goal.overflow_cast-result
overflow_cast-result c = omega (arith, c.number.ensures, number-byte c.args.why)
