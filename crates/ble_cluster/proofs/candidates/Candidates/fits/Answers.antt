use Rattle.ble_cluster.proofs.Prelude.{arith, refl, nat_tests}
use Rattle.ble_cluster.proofs.GrowingLemmas.{fits_is}
use Rattle.ble_cluster.proofs.candidates.Candidates.fits.Goals as goal

pub outside_with-requires : goal.outside_with-requires
outside_with-requires c = record { growth = c.args.self.now.under_way; number = c.requires }

pub returns-then-not-agrees_on_clock : goal.returns-then-not-agrees_on_clock
returns-then-not-agrees_on_clock c =
    let fits = fits_is _ _ _ c.args.self.now.under_way c.args.self.now.arch.now c.args.number _ _ c.ble-ble.ensures.found refl in
    let e = c.if-not-agrees_on_clock.true in
    let agrees = c.agrees_on_clock.ensures in
    grind (arith, nat_tests, fits, e, agrees)

pub returns : goal.returns
returns c =
    let fits = fits_is _ _ _ c.args.self.now.under_way c.args.self.now.arch.now c.args.number c.outside_with.result _ c.ble-ble.ensures.found c.outside_with.ensures in
    let size = c.if-len-self.false in
    let len = c.len.ensures in
    let pins = c.args.self.now.all_pins in
    let e = c.if-not-agrees_on_clock.false in
    let agrees = c.agrees_on_clock.ensures in
    grind (arith, nat_tests, fits, e, agrees, size, len, pins)
