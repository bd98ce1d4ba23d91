use Rattle.circuit_verilog.proofs.Prelude.{sym}
use Rattle.circuit_verilog.proofs.latch.push_declared.Goals as goal

pub returns : goal.returns
returns c = rw (sym c.name-net.ensures) c.push_parts.ensures
