use Rattle.fabric_planes.proofs.Prelude.{◌≡◌, ◌∙◌, [], sym, ap, arith, slice_get, slice_index, get_or_default, get_or_from_slice_get, slice_get_within}
use Rattle.fabric_planes.proofs.StepRows.{first_low}
use Rattle.fabric_planes.proofs.strip_planes.StripPlanes.steps.Goals as goal

pub index-requires : goal.index-requires
index-requires g c =
    let found = c.requires in
    omega (arith, first_low c.laws.ensures.basis c.args.place found.0 found.1, c.args.self.now.laid.steps.long)

pub row-requires : goal.row-requires
row-requires g c =
    let found = c.requires in
    let steps = c.args.self.now.layout.now.steps in
    let laid = c.args.self.now.laid.steps in
    let low = first_low c.laws.ensures.basis c.args.place found.0 found.1 in
    let class : c.index.result.now ≡ slice_index steps.classes.items c.args.place = c.index.ensures ∙ get_or_default steps.classes.items c.args.place c.index.result.now 0 (omega (arith, low, laid.long)) in
    omega (arith, class, slice_get_within steps.rows (slice_index steps.classes.items c.args.place) _ (laid.wires c.args.place found.0 low found.1))

pub returns : goal.returns
returns g c = λ first at.
    let steps = c.args.self.now.layout.now.steps in
    let laid = c.args.self.now.laid.steps in
    let low = first_low c.laws.ensures.basis c.args.place first at in
    let class : c.index.result.now ≡ slice_index steps.classes.items c.args.place = c.index.ensures ∙ get_or_default steps.classes.items c.args.place c.index.result.now 0 (omega (arith, low, laid.long)) in
    sym (get_or_from_slice_get steps.rows c.index.result.now c.row.result.now [] c.row.ensures)
    ∙ get_or_from_slice_get steps.rows c.index.result.now _ [] (ap (slice_get steps.rows) class ∙ laid.wires c.args.place first low at)
