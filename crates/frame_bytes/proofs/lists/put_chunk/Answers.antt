use mathlib.Core.Path.{sym, ap, ◌∙◌}
use native.Mathlib.Omega.{arith}
use Rattle.utf8.specs.Answers.{paper_octet_count}
use Rattle.utf8.specs.Reading.{writing}
use Rattle.utf8.proofs.Writings.{counted-done, counted_ok}
use Rattle.frame_bytes.proofs.Pasted.{chunk_put}
use Rattle.frame_bytes.proofs.lists.put_chunk.Goals as goal

pub unwrap-octets-requires : goal.unwrap-octets-requires
unwrap-octets-requires c = counted_ok c.count_octets.result c.args.chars.now c.count_octets.ensures c.requires.0

pub overflow_cast-octets : goal.overflow_cast-octets
overflow_cast-octets c = let k = c.args.chars.now in let d = counted-done k c.unwrap-octets.result (ap paper_octet_count (sym c.unwrap-octets.ensures) ∙ c.count_octets.ensures) in
    omega arith

pub overflow_add-result-2 : goal.overflow_add-result-2
overflow_add-result-2 c = let k = c.args.chars.now in let d = counted-done k c.unwrap-octets.result (ap paper_octet_count (sym c.unwrap-octets.ensures) ∙ c.count_octets.ensures) in
    omega arith

pub returns : goal.returns
returns c = let a = c.args in let k = c.args.chars.now in let d = counted-done k c.unwrap-octets.result (ap paper_octet_count (sym c.unwrap-octets.ensures) ∙ c.count_octets.ensures) in
    (chunk_put a.bytes.now _ _ (writing k) a.at.0 c.unwrap-octets.result (sym d.1) c.requires.2 c.put_number.ensures c.fill_octets.ensures, omega arith)
