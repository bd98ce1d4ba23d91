use Rattle.cluster.proofs.Prelude.{◌∙◌, List, ap, arith, length, ℕ, Circuit, PackedCircuit, blocks_of}
use Rattle.cluster.proofs.FewBlocks.{few_blocks}
use Rattle.cluster.proofs.PackedLaws.{length-blocks_of, input_pad_at, output_pad_at, cluster_at}
use Rattle.cluster.proofs.packed.Packed.block.Goals as goal

pub overflow_cast-result : goal.overflow_cast-result
overflow_cast-result c =
    let inputs = ap (λ (nets : List ℕ). length nets) (c.as_slice-inputs.ensures ∙ ap (λ (circuit : Circuit). circuit.inputs) c.circuit.ensures.value) in
    let outputs = ap (λ (nets : List ℕ). length nets) (c.as_slice-outputs.ensures ∙ ap (λ (circuit : Circuit). circuit.outputs) c.circuit-2.ensures.value) in
    let blocks = ap (λ (packed : PackedCircuit). length (blocks_of packed)) c.self.view_is in
    omega (arith, few_blocks _ c.self.invariant.lawful, length-blocks_of (record { circuit = c.self.inside.circuit; arch = c.self.inside.arch; clusters = c.self.inside.clusters }), inputs, outputs, blocks, c.requires)

pub returns-then-number-inputs : goal.returns-then-number-inputs
returns-then-number-inputs c =
    let packed : PackedCircuit = record { circuit = c.self.inside.circuit; arch = c.self.inside.arch; clusters = c.self.inside.clusters } in
    let inputs = c.as_slice-inputs.ensures ∙ ap (λ (circuit : Circuit). circuit.inputs) c.circuit.ensures.value in
    let input_count = ap (λ (nets : List ℕ). length nets) inputs in
    rw (← c.self.view_is, inputs) (input_pad_at packed c.args.number (omega (arith, input_count)))

pub returns-then-number-inputs-2 : goal.returns-then-number-inputs-2
returns-then-number-inputs-2 c =
    let packed : PackedCircuit = record { circuit = c.self.inside.circuit; arch = c.self.inside.arch; clusters = c.self.inside.clusters } in
    let inputs = c.as_slice-inputs.ensures ∙ ap (λ (circuit : Circuit). circuit.inputs) c.circuit.ensures.value in
    let outputs = c.as_slice-outputs.ensures ∙ ap (λ (circuit : Circuit). circuit.outputs) c.circuit-2.ensures.value in
    let input_count = ap (λ (nets : List ℕ). length nets) inputs in
    let output_count = ap (λ (nets : List ℕ). length nets) outputs in
    rw (← c.self.view_is, inputs, outputs) (output_pad_at packed c.args.number (omega (arith, input_count)) (omega (arith, input_count, output_count)))

pub returns-else-number-inputs-2 : goal.returns-else-number-inputs-2
returns-else-number-inputs-2 c =
    let packed : PackedCircuit = record { circuit = c.self.inside.circuit; arch = c.self.inside.arch; clusters = c.self.inside.clusters } in
    let inputs = c.as_slice-inputs.ensures ∙ ap (λ (circuit : Circuit). circuit.inputs) c.circuit.ensures.value in
    let outputs = c.as_slice-outputs.ensures ∙ ap (λ (circuit : Circuit). circuit.outputs) c.circuit-2.ensures.value in
    let input_count = ap (λ (nets : List ℕ). length nets) inputs in
    let output_count = ap (λ (nets : List ℕ). length nets) outputs in
    let blocks = ap (λ (packed : PackedCircuit). length (blocks_of packed)) c.self.view_is in
    rw (← c.self.view_is, inputs, outputs) (cluster_at packed c.args.number (omega (arith, blocks, c.requires)) (omega (arith, input_count)) (omega (arith, input_count, output_count)))
