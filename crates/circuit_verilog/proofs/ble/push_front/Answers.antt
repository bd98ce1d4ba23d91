use Rattle.circuit_verilog.proofs.Prelude.{sym}
use Rattle.circuit_verilog.proofs.ble.push_front.Goals as goal

pub returns : goal.returns
returns c = rw (sym c.name.ensures, sym c.bit_count.ensures) c.push_parts.ensures
