use Rattle.strip_place.proofs.Prelude.{◌≡◌, ◌∙◌, List, Some, length, slice_get, ap, arith, sym, Place, Pad, places_of, IsStripSize, first_site}
use Rattle.cluster.specs.declared.block.BlockKind.TheVariants as block
use Rattle.strip_place.proofs.KeptSites.{site_is}
use Rattle.strip_place.proofs.start.pad_site.Goals as goal

pub returns : goal.returns
returns c =
    let strip = c.args.strip in
    let size : IsStripSize strip = record { width = c.requires.size.width; rows = c.requires.size.rows; io_rat = c.requires.size.io_rat } in
    let number = c.number_of.result in
    let is : slice_get (places_of strip Pad) number ≡ Some c.args.place = ap (λ (places : List Place). slice_get places number) (sym c.places-2.ensures) ∙ c.number_of.ensures in
    let site = site_is strip (λ kind. c.laws_of_places.ensures.apart strip kind size) block.InputPad number c.args.place is in
    let logic : c.len-logic.result ≡ first_site strip Pad = c.len-logic.ensures ∙ ap length c.places.ensures in
    omega (arith, site, logic)
