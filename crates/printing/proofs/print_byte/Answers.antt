use Rattle.printing.proofs.Printed.{byte_line}
use Rattle.printing.proofs.print_byte.Goals as goal

pub returns : goal.returns
returns c = let a = c.args in byte_line a.byte _ _ _ c.requires c.hex.ensures
