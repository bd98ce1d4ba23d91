use Rattle.desk_layouts.proofs.Prelude.{subst, IsReadFrom}
use Rattle.desk_layouts.proofs.strip_check.check_against.Goals as goal

pub returns : goal.returns
returns g c = record {
  arch = c.as_slice.result.now;
  is_arch = rw c.as_slice.ensures.value c.in_ok-arch.ensures.read;
  netlist = c.as_slice-2.result.now;
  is_netlist = rw c.as_slice-2.ensures.value c.in_ok-netlist.ensures.read;
  implement = record {
    shape = c.in-Some-new.shape;
    tracks_are = c.in-Some-new.ensures.some.2;
    laid = c.in_ok-laid_circuit.field-0;
    read = subst (λ texts. IsReadFrom texts c.in_ok-laid_circuit.field-0) c.new-layout.ensures c.in_ok-laid_circuit.ensures.laid.0;
    implemented = c.in_ok-laid_circuit.ensures.laid.1;
  };
}
