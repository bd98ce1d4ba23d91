use Rattle.ble_cluster.proofs.Prelude.{◌∙◌, arith, true, false, refl, sym}
use Rattle.ble_cluster.proofs.ElementLemmas.{inputs_once}
use Rattle.ble_cluster.proofs.GrowingLemmas.{new_few, outside_of}
use Rattle.ble_cluster.proofs.growing_cluster.GrowingCluster.outside_with.Goals as goal

pub overflow_add-outside : goal.overflow_add-outside
overflow_add-outside c =
    let g = c.requires.growth in
    let e = c.ble-ble.ensures.lawful in
    omega (arith, g.small, c.new_inputs.ensures, new_few _ _ _ g c.ble-ble.ensures.few c.ble-ble.result.output c.ble-ble.result.inputs.now (inputs_once _ e) e.inputs)

pub new_inputs-requires : goal.new_inputs-requires
new_inputs-requires c = λ place d small. omega (arith, c.ble-ble.ensures.lawful.inputs place d small, c.requires.growth.reads_count, c.requires.growth.drives_count)

pub is_outside-requires : goal.is_outside-requires
is_outside-requires c =
    omega (arith, c.ble-ble.ensures.lawful.output, c.requires.growth.reads_count, c.requires.growth.drives_count)

pub overflow_sub-result : goal.overflow_sub-result
overflow_sub-result c =
    let o = outside_of _ _ _ c.requires.growth c.args.number c.new_inputs.result true _ c.ble-ble.ensures.found c.ble-ble.ensures.lawful c.new_inputs.ensures (sym c.if-is_outside.true ∙ c.is_outside.ensures) in
    o.enough refl

pub returns-then-is_outside : goal.returns-then-is_outside
returns-then-is_outside c =
    let o = outside_of _ _ _ c.requires.growth c.args.number c.new_inputs.result true _ c.ble-ble.ensures.found c.ble-ble.ensures.lawful c.new_inputs.ensures (sym c.if-is_outside.true ∙ c.is_outside.ensures) in
    omega (arith, o.sum)

pub returns-else-is_outside : goal.returns-else-is_outside
returns-else-is_outside c =
    let o = outside_of _ _ _ c.requires.growth c.args.number c.new_inputs.result false _ c.ble-ble.ensures.found c.ble-ble.ensures.lawful c.new_inputs.ensures (sym c.if-is_outside.false ∙ c.is_outside.ensures) in
    omega (arith, o.sum)
