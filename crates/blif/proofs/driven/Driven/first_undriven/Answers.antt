use Rattle.blif.proofs.Prelude.{◌++◌, ◌∙◌, [], ap, sym, has_name}
use Rattle.blif.proofs.Numbered.{net_there, number_within, driven_here, undriven_here}
use Rattle.blif.proofs.driven.Driven.first_undriven.Goals as goal

pub is_driven-requires : goal.is_driven-requires
is_driven-requires c =
    number_within c.args.self.now.nets c.args.names.now c.args.nets.now c.loop-place.place 0 (record { ref_ptr = (0, 0); now = [] }) c.loop-place-test.true c.requires.named c.requires.numbers

pub returns-then-not-is_driven : goal.returns-then-not-is_driven
returns-then-not-is_driven c =
    let driven = c.args.self.now in
    let drivers = driven.clocks ++ driven.drivers in
    let there = net_there driven.nets c.args.names.now c.args.nets.now c.loop-place.place 0 (record { ref_ptr = (0, 0); now = [] }) c.loop-place-test.true c.requires.named c.requires.numbers in
    undriven_here drivers c.args.names.now c.loop-place.place (record { ref_ptr = (0, 0); now = [] }) c.loop-place-test.true c.loop-place.invariant
    (ap (has_name drivers) (sym there) ∙ sym c.is_driven.ensures ∙ c.if-not-is_driven.true)

pub loop-place-preserved : goal.loop-place-preserved
loop-place-preserved c =
    let driven = c.args.self.now in
    let drivers = driven.clocks ++ driven.drivers in
    let there = net_there driven.nets c.args.names.now c.args.nets.now c.loop-place.place 0 (record { ref_ptr = (0, 0); now = [] }) c.loop-place-test.true c.requires.named c.requires.numbers in
    driven_here drivers c.args.names.now c.loop-place.place (record { ref_ptr = (0, 0); now = [] }) c.loop-place-test.true c.loop-place.invariant
    (ap (has_name drivers) (sym there) ∙ sym c.is_driven.ensures ∙ c.if-not-is_driven.false)
