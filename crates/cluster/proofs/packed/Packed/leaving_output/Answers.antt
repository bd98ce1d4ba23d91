use Rattle.cluster.proofs.Prelude.{◌≡◌, ◌∙◌, ◌+◌, ap, arith, length, sym, PackedCircuit, cluster_block}
use Rattle.cluster.proofs.FewBlocks.{few_blocks}
use Rattle.cluster.proofs.PackedLaws.{output_leaves, output_stays}
use Rattle.cluster.proofs.TableLaws.{ble_within, leaves_told}
use Rattle.cluster.proofs.packed.Packed.leaving_output.Goals as goal

pub overflow_add-block : goal.overflow_add-block
overflow_add-block c =
    let few = few_blocks _ c.self.invariant.lawful in
    let pads = ap (λ (packed : PackedCircuit). length packed.circuit.inputs + length packed.circuit.outputs) c.self.view_is in
    let clusters = ap (λ (packed : PackedCircuit). length packed.clusters) c.self.view_is in
    omega (arith, few, pads, clusters, c.pad_count.ensures, c.requires)

pub overflow_cast-block : goal.overflow_cast-block
overflow_cast-block c =
    let few = few_blocks _ c.self.invariant.lawful in
    let pads = ap (λ (packed : PackedCircuit). length packed.circuit.inputs + length packed.circuit.outputs) c.self.view_is in
    let clusters = ap (λ (packed : PackedCircuit). length packed.clusters) c.self.view_is in
    omega (arith, few, pads, clusters, c.pad_count.ensures, c.requires)

pub leaves-requires : goal.leaves-requires
leaves-requires c =
    let within = ble_within _ c.self.inside.bles c.self.inside.tables _ _ c.self.invariant c.ble-net.ensures in
    record { global = within.0; reader = within.1 }

pub returns-then-leaves : goal.returns-then-leaves
returns-then-leaves c =
    let packed : PackedCircuit = record { circuit = c.self.inside.circuit; arch = c.self.inside.arch; clusters = c.self.inside.clusters } in
    let pads = ap (λ (packed : PackedCircuit). length packed.circuit.inputs + length packed.circuit.outputs) c.self.view_is in
    let block : c.pad_count.result + c.args.cluster ≡ cluster_block packed c.args.cluster = omega (arith, pads, c.pad_count.ensures) in
    let told = leaves_told packed c.self.inside.bles c.self.inside.tables _ _ c.self.invariant c.ble-net.ensures (c.pad_count.result + c.args.cluster) (cluster_block packed c.args.cluster) block in
    rw (← c.self.view_is) (output_leaves packed c.self.inside.bles c.args.cluster c.args.place c.row-members.result.now _ c.self.invariant.bles c.row-members.ensures (omega arith) c.ble-net.ensures (sym told ∙ sym c.leaves.ensures ∙ c.if-leaves.true))

pub returns-else-leaves : goal.returns-else-leaves
returns-else-leaves c =
    let packed : PackedCircuit = record { circuit = c.self.inside.circuit; arch = c.self.inside.arch; clusters = c.self.inside.clusters } in
    let pads = ap (λ (packed : PackedCircuit). length packed.circuit.inputs + length packed.circuit.outputs) c.self.view_is in
    let block : c.pad_count.result + c.args.cluster ≡ cluster_block packed c.args.cluster = omega (arith, pads, c.pad_count.ensures) in
    let told = leaves_told packed c.self.inside.bles c.self.inside.tables _ _ c.self.invariant c.ble-net.ensures (c.pad_count.result + c.args.cluster) (cluster_block packed c.args.cluster) block in
    rw (← c.self.view_is) (output_stays packed c.self.inside.bles c.args.cluster c.args.place c.row-members.result.now _ c.self.invariant.bles c.row-members.ensures (omega arith) c.ble-net.ensures (sym told ∙ sym c.leaves.ensures ∙ c.if-leaves.false))
