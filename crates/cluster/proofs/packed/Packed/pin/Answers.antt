use Rattle.cluster.proofs.Prelude.{◌∙◌, List, ap, arith, length, ℕ, sym, false, get_or, Arch, Pin, Input, Output, Clock, PackedCircuit, net_on_pin}
use Rattle.cluster.proofs.PackedLaws.{pin_at, input_entry, clock_entry, length-pin_ranks}
use Rattle.cluster.proofs.packed.Packed.pin.Goals as goal

pub index-rank-requires : goal.index-rank-requires
index-rank-requires c =
    let ranks = ap (λ (ranks : List ℕ). length ranks) c.self.invariant.kept.ranks in
    let pins = ap (λ (packed : PackedCircuit). length packed.arch.pins) c.self.view_is in
    omega (arith, ranks, pins, length-pin_ranks c.self.inside.arch.pins, c.self.inside.tables.ranks.ok, c.requires.pin)

pub returns-in-Input : goal.returns-in-Input
returns-in-Input c =
    let packed : PackedCircuit = record { circuit = c.self.inside.circuit; arch = c.self.inside.arch; clusters = c.self.inside.clusters } in
    let none : Pin = record { class = Input; sides = record { top = false; bottom = false; left = false; right = false } } in
    let pins = c.as_slice.ensures ∙ ap (λ (arch : Arch). arch.pins) c.arch.ensures.value in
    let class = ap (λ (pins : List Pin). (get_or pins c.args.pin none).class) (sym pins) ∙ c.in-Input.is in
    let pin_count = ap (λ (packed : PackedCircuit). length packed.arch.pins) c.self.view_is in
    let cluster_count = ap (λ (packed : PackedCircuit). length packed.clusters) c.self.view_is in
    rw (← c.self.view_is) (pin_at packed c.args.cluster c.args.pin c.index-rank.result.now Input c.self.inside.tables.ranks.items none _ (omega (arith, pin_count, c.requires.pin)) class c.self.invariant.kept.ranks c.index-rank.ensures
    (c.entry.ensures ∙ input_entry packed c.self.inside.tables c.args.cluster _ _ (omega (arith, cluster_count, c.requires.cluster)) c.self.invariant.kept c.row.ensures))

pub returns-in-Output : goal.returns-in-Output
returns-in-Output c =
    let packed : PackedCircuit = record { circuit = c.self.inside.circuit; arch = c.self.inside.arch; clusters = c.self.inside.clusters } in
    let none : Pin = record { class = Input; sides = record { top = false; bottom = false; left = false; right = false } } in
    let pins = c.as_slice.ensures ∙ ap (λ (arch : Arch). arch.pins) c.arch.ensures.value in
    let class = ap (λ (pins : List Pin). (get_or pins c.args.pin none).class) (sym pins) ∙ c.in-Output.is in
    let pin_count = ap (λ (packed : PackedCircuit). length packed.arch.pins) c.self.view_is in
    let net = c.leaving_output.ensures ∙ ap (λ (packed : PackedCircuit). net_on_pin packed c.args.cluster Output c.index-rank.result.now) (sym c.self.view_is) in
    rw (← c.self.view_is) (pin_at packed c.args.cluster c.args.pin c.index-rank.result.now Output c.self.inside.tables.ranks.items none _ (omega (arith, pin_count, c.requires.pin)) class c.self.invariant.kept.ranks c.index-rank.ensures net)

pub returns-in-Clock : goal.returns-in-Clock
returns-in-Clock c =
    let packed : PackedCircuit = record { circuit = c.self.inside.circuit; arch = c.self.inside.arch; clusters = c.self.inside.clusters } in
    let none : Pin = record { class = Input; sides = record { top = false; bottom = false; left = false; right = false } } in
    let pins = c.as_slice.ensures ∙ ap (λ (arch : Arch). arch.pins) c.arch.ensures.value in
    let class = ap (λ (pins : List Pin). (get_or pins c.args.pin none).class) (sym pins) ∙ c.in-Clock.is in
    let pin_count = ap (λ (packed : PackedCircuit). length packed.arch.pins) c.self.view_is in
    let cluster_count = ap (λ (packed : PackedCircuit). length packed.clusters) c.self.view_is in
    rw (← c.self.view_is) (pin_at packed c.args.cluster c.args.pin c.index-rank.result.now Clock c.self.inside.tables.ranks.items none _ (omega (arith, pin_count, c.requires.pin)) class c.self.invariant.kept.ranks c.index-rank.ensures
    (c.entry-in-Clock.ensures ∙ clock_entry packed c.self.inside.tables c.args.cluster _ _ (omega (arith, cluster_count, c.requires.cluster)) c.self.invariant.kept c.row-in-Clock.ensures))
