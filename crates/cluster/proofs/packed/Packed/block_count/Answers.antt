use Rattle.cluster.proofs.Prelude.{arith, ◌+◌, ap, length, PackedCircuit}
use Rattle.cluster.proofs.FewBlocks.{few_blocks}
use Rattle.cluster.proofs.PackedLaws.{length-blocks_of}
use Rattle.cluster.proofs.packed.Packed.block_count.Goals as goal

pub overflow_add-result : goal.overflow_add-result
overflow_add-result c =
    let few = few_blocks _ c.self.invariant.lawful in
    let pads = ap (λ (packed : PackedCircuit). length packed.circuit.inputs + length packed.circuit.outputs) c.self.view_is in
    omega (arith, pads, c.len.ensures, c.pad_count.ensures)

pub returns : goal.returns
returns c =
    let clusters = ap (λ (packed : PackedCircuit). length packed.clusters) c.self.view_is in
    omega (arith, length-blocks_of c.args.self.now, clusters, c.len.ensures, c.pad_count.ensures)
