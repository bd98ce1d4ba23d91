use Rattle.cluster.proofs.Prelude.{◌∙◌, ap, length, range_with_len, bles_of, elements_lawful}
use Rattle.cluster.proofs.Going.{begins}
use Rattle.cluster.proofs.Members.{few_bles}
use Rattle.cluster.proofs.packing.Packing.start.Goals as goal

pub new-requires-2 : goal.new-requires-2
new-requires-2 c = rw (c.in_ok-bles.ensures, c.len.ensures, c.circuit-2.ensures.value, c.circuit.ensures.value) (record {
  few = c.circuit.ensures.lawful.few;
  count = few_bles c.args.circuit.now c.circuit.ensures.lawful;
  lawful = elements_lawful c.args.circuit.now c.circuit.ensures.lawful;
})

pub invariant_of-result : goal.invariant_of-result
invariant_of-result c =
    let same = c.in_ok-bles.ensures ∙ ap bles_of c.circuit.ensures.value in
    let grown = c.in_ok-grower.ensures in
    rw (c.in-Ok.ensures.0, c.in-Ok.ensures.1, grown) (begins c.args.circuit.now c.args.arch.now _ c.new-in-Ok.result c.requires same (ap (λ es. range_with_len 0 (length es)) same) c.new-in-Ok.ensures)
