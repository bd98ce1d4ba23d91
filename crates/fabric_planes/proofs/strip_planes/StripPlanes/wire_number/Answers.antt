use Rattle.fabric_planes.proofs.Prelude.{◌≡◌, ◌<◌, ◌∙◌, length, arith, slice_index, get_or_default}
use Rattle.fabric_planes.proofs.Found.{number_told}
use Rattle.fabric_planes.proofs.strip_planes.StripPlanes.wire_number.Goals as goal

pub returns : goal.returns
returns g c = λ number w track.
    let laid = c.args.self.now.laid in
    let firsts = c.args.self.now.layout.now.firsts.items in
    let within : c.args.place < length firsts = omega (arith, c.requires.place, laid.firsts.long) in
    let told = number_told c.laws.ensures.basis firsts laid.firsts c.args.place number w in
    let first : c.index.result.now ≡ slice_index firsts c.args.place = c.index.ensures ∙ get_or_default firsts c.args.place c.index.result.now 0 within in
    omega (arith, told, first, track)
