-- The laws of each packing.
use Rattle.cluster.proofs.Prelude.{◌≡◌, ◌≢◌, ℕ, ◌≤◌, List, ◌++◌, length, map, refl, sym, ap, subst, arith, concat, few_pins, Latch, LookupTable, bles_of, clusters_after, PackedCircuit, packed_of, IsPacked, IsLawfulPacking}
use Rattle.cluster.proofs.BlockNetLaws.{apart, contained, few_nets, nets_lawful}
use Rattle.cluster.proofs.FewBlocks.{few_clusters, few_distinct}
use Rattle.cluster.proofs.Going.{fit_among}
use Rattle.cluster.proofs.Keys.{keys_apart}
use Rattle.cluster.proofs.Members.{few_driven}
use Rattle.cluster.proofs.Pairs.{pairs_front}
use Rattle.cluster.proofs.PackedLaws.{length-blocks_of}
use Rattle.cluster.proofs.Partition.{ArePacked, all_in, all_packed}

-- each packed circuit satisfies the laws
pub packing_lawful : (packed : PackedCircuit) → IsPacked packed → IsLawfulPacking packed
unfolding packed_of
packing_lawful packed lawful =
    let circuit = packed.circuit in
    let bles = bles_of circuit in
    let are : packed.clusters ≡ clusters_after packed.arch bles (length bles) = ap (λ (p : PackedCircuit). p.clusters) lawful.exact in
    let made : ArePacked packed.arch bles packed.clusters = subst (λ (clusters : List (List ℕ)). ArePacked packed.arch bles clusters) (sym are) (all_packed packed.arch bles (fit_among circuit packed.arch bles lawful.fit refl) (length bles)) in
    let once = apart (concat packed.clusters) made.once in
    let members = few_distinct (concat packed.clusters) (length bles) once made.within in
    let driven = few_driven circuit lawful.circuit in
    let shown = few_distinct circuit.outputs (length circuit.nets) lawful.circuit.shown_once lawful.circuit.outputs in
    let clusters : length packed.clusters ≤ length bles = (let count = ap (λ (lists : List (List ℕ)). length lists) are in omega (arith, count, few_clusters packed.arch bles (length bles))) in
    record {
      whole = λ number small. contained (concat packed.clusters) number (rw are (all_in packed.arch bles number small));
      once = once;
      fit = made.fit;
      nets = nets_lawful packed lawful;
      input_pads = pairs_front (λ net other. net ≢ other) circuit.inputs (map (λ (table : LookupTable). table.output) circuit.tables ++ map (λ (latch : Latch). latch.output) circuit.latches) lawful.circuit.driven_once;
      output_pads = lawful.circuit.shown_once;
      keys = keys_apart packed lawful once (pairs_front (λ net other. net ≢ other) circuit.inputs (map (λ (table : LookupTable). table.output) circuit.tables ++ map (λ (latch : Latch). latch.output) circuit.latches) lawful.circuit.driven_once);
      few_blocks = omega (arith, driven, shown, clusters, lawful.circuit.few, length-blocks_of packed);
      few_nets = omega (arith, driven, members, few_nets packed);
      few_pins = few_pins packed.arch lawful.arch;
    }
