use native.Mathlib.Omega.{arith}
use Rattle.frame.proofs.Answers.{empty_line}
use Rattle.forms.proofs.head_of.Goals as goal

pub returns-in-empty : goal.returns-in-empty
returns-in-empty c = empty_line c.args.bytes.now (omega arith)
