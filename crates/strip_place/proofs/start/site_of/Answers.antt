use Rattle.strip_place.proofs.Prelude.{◌≡◌, ◌∙◌, List, Some, slice_get, ap, arith, sym, Place, Logic, places_of, IsStripSize}
use Rattle.cluster.specs.declared.block.BlockKind.TheVariants as block
use Rattle.strip_place.proofs.KeptSites.{site_is}
use Rattle.strip_place.proofs.start.site_of.Goals as goal

pub returns-in-Cluster : goal.returns-in-Cluster
returns-in-Cluster c =
    let strip = c.args.strip in
    let size : IsStripSize strip = record { width = c.requires.size.width; rows = c.requires.size.rows; io_rat = c.requires.size.io_rat } in
    let number = c.number_of.result in
    let is : slice_get (places_of strip Logic) number ≡ Some c.args.place = ap (λ (places : List Place). slice_get places number) (sym c.places.ensures) ∙ c.number_of.ensures in
    let site = site_is strip (λ kind. c.laws_of_places.ensures.apart strip kind size) block.Cluster number c.args.place is in
    rw c.in-Cluster.is (omega (arith, site))
