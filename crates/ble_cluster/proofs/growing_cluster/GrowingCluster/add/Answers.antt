use Rattle.ble_cluster.proofs.Prelude.{◌≡◌, ◌++◌, [], ◌∷◌, refl, sym, ap, ◌∙◌, GrowingCluster, LogicElement, element_at, with_nets, with_net, later_clock}
use Rattle.ble_cluster.proofs.GrowingLemmas.{clock_is, element_is, growth_more, old_told}
use Rattle.ble_cluster.proofs.growing_cluster.GrowingCluster.add.Goals as goal

pub read_all-requires : goal.read_all-requires
read_all-requires c =
    let g = c.requires.growth in
    record {
      within = c.ble-ble.ensures.lawful.inputs;
      room = record { reads = g.reads_count; drives = g.drives_count; gains = g.gains_count };
      told = old_told _ _ _ g;
    }

pub drive-requires : goal.drive-requires
drive-requires c = record {
  within = c.ble-ble.ensures.lawful.output;
  room = c.read_all.ensures.room;
  told = c.in_ok-read_all.ensures.told;
}

pub returns-clause-growth : goal.returns-clause-growth
returns-clause-growth c =
    let number = c.args.number in
    let old = c.args.self.now in
    let element : LogicElement = record { inputs = c.ble-ble.result.inputs.now; output = c.ble-ble.result.output; clock = c.ble-ble.result.clock } in
    let is : element ≡ element_at c.args.elements.now.elements number = sym (element_is _ _ _ c.requires.growth number element c.ble-ble.ensures.found) in
    let read = c.read_all.ensures.same in
    let drove = c.drive.ensures.same in
    growth_more _ _ old _ number c.outside_with-outside.result c.requires.growth c.requires.number c.requires.fits c.outside_with-outside.ensures (record {
      members = c.in_ok-push.ensures.items ∙ ap (λ (growth : GrowingCluster). growth.members.items ++ number ∷ []) drove ∙ ap (λ (growth : GrowingCluster). growth.members.items ++ number ∷ []) read;
      reads = ap (λ (growth : GrowingCluster). growth.reads) drove ∙ c.in_ok-read_all.ensures.read
          ∙ ap (λ count. record { count = count; nets = with_nets old.reads.nets element.inputs }) c.requires.growth.reads_count
          ∙ ap (λ (e : LogicElement). record { count = c.args.elements.now.nets; nets = with_nets old.reads.nets e.inputs }) is;
      drives = c.in_ok-drive.ensures.driven
          ∙ ap (λ (growth : GrowingCluster). record { count = growth.drives.count; nets = with_net growth.drives.nets element.output }) read
          ∙ ap (λ count. record { count = count; nets = with_net old.drives.nets element.output }) c.requires.growth.drives_count
          ∙ ap (λ (e : LogicElement). record { count = c.args.elements.now.nets; nets = with_net old.drives.nets e.output }) is;
      outside_is = refl;
      clock = c.or-self.ensures ∙ clock_is c.drive.new.self.clock element.clock
          ∙ ap (λ (growth : GrowingCluster). later_clock growth.clock element.clock) drove
          ∙ ap (λ (growth : GrowingCluster). later_clock growth.clock element.clock) read
          ∙ ap (λ (e : LogicElement). later_clock old.clock e.clock) is;
      gains_count = c.drive.ensures.room.gains;
      told = c.in_ok-drive.ensures.told;
    })
