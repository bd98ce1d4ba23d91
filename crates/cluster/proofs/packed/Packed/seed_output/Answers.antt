use Rattle.cluster.proofs.Prelude.{◌≡◌, ◌∙◌, ◌<◌, [], length, arith, ap, sym, subst, PackedCircuit, Cluster, block_name, net_name}
use Rattle.cluster.proofs.Keys.{seed_drives, seed_named, seed_nets_inside}
use Rattle.cluster.proofs.packed.Packed.seed_output.Goals as goal

pub returns-clause-name : goal.returns-clause-name
returns-clause-name c =
    let packed : PackedCircuit = record { circuit = c.self.inside.circuit; arch = c.self.inside.arch; clusters = c.self.inside.clusters } in
    let lt : c.args.cluster < length packed.clusters = subst (λ (p : PackedCircuit). c.args.cluster < length p.clusters) (sym c.self.view_is) c.requires in
    let drives = seed_drives packed c.self.inside.bles c.args.cluster c.row.result.now _ c.self.invariant.bles c.row.ensures c.ble.ensures in
    subst (λ (p : PackedCircuit). net_name p.circuit c.ble.result.output ≡ block_name p (Cluster c.args.cluster)) c.self.view_is
    (ap (net_name packed.circuit) drives ∙ sym (seed_named packed c.args.cluster (c.self.invariant.lawful.seeds c.args.cluster [] lt)))

pub returns-clause-named : goal.returns-clause-named
returns-clause-named c =
    let packed : PackedCircuit = record { circuit = c.self.inside.circuit; arch = c.self.inside.arch; clusters = c.self.inside.clusters } in
    let lt : c.args.cluster < length packed.clusters = subst (λ (p : PackedCircuit). c.args.cluster < length p.clusters) (sym c.self.view_is) c.requires in
    let drives = seed_drives packed c.self.inside.bles c.args.cluster c.row.result.now _ c.self.invariant.bles c.row.ensures c.ble.ensures in
    subst (λ (p : PackedCircuit). c.ble.result.output < length p.circuit.nets) c.self.view_is
    (omega (arith, drives, seed_nets_inside packed c.self.invariant.lawful c.args.cluster lt))
