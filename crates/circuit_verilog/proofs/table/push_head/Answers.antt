use Rattle.circuit_verilog.proofs.Prelude.{sym}
use Rattle.circuit_verilog.proofs.table.push_head.Goals as goal

pub returns : goal.returns
returns c = rw (sym c.bit_count-last.ensures) c.push_parts.ensures
