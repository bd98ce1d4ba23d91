use Rattle.circuit_verilog.proofs.Prelude.{sym}
use Rattle.circuit_verilog.proofs.ports.push_drive.Goals as goal

pub returns : goal.returns
returns c = rw (sym c.net_name.ensures) c.push_parts.ensures
