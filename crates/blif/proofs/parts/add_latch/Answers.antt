use Rattle.blif.proofs.Prelude.{◌≡◌, ◌++◌, ◌∙◌, Some, true, ap, sym, has_name, is_latch}
use Rattle.blif.proofs.LatchNumbers.{latch_input, latch_numbers, input_undriven, control_undriven, latch_driven, free_latch_driven}
use Rattle.blif.proofs.parts.add_latch.Goals as goal
use Rattle.blif.proofs.parts.add_latch.Goals.{in-Some+else-not-is_driven-2, in-None}

pub is_driven-requires : goal.is_driven-requires
is_driven-requires c =
    let form : is_latch c.args.args.now.words ≡ true = sym c.is_latch.ensures ∙ c.if-not-is_latch.false in
    (latch_numbers c.args.driven.now.nets c.args.nets.now c.args.args.now.words form c.requires.named c.requires.numbers).input_is.within

pub returns-then-not-is_driven-clause-least : goal.returns-then-not-is_driven-clause-least
returns-then-not-is_driven-clause-least c =
    let drivers = c.args.driven.now.clocks ++ c.args.driven.now.drivers in
    let form : is_latch c.args.args.now.words ≡ true = sym c.is_latch.ensures ∙ c.if-not-is_latch.false in
    let numbers = latch_numbers c.args.driven.now.nets c.args.nets.now c.args.args.now.words form c.requires.named c.requires.numbers in
    ap Some (latch_input c.words.result.now _ c.args.args.now.words c.words.ensures form)
    ∙ input_undriven drivers c.args.args.now.words form (ap (has_name drivers) (sym numbers.input_is.name_is) ∙ sym c.is_driven.ensures ∙ c.if-not-is_driven.true)

pub is_driven-requires-in-Some : goal.is_driven-requires-in-Some
is_driven-requires-in-Some c =
    let form : is_latch c.args.args.now.words ≡ true = sym c.is_latch.ensures ∙ c.if-not-is_latch.false in
    let numbers = latch_numbers c.args.driven.now.nets c.args.nets.now c.args.args.now.words form c.requires.named c.requires.numbers in
    (numbers.control_is c.in-Some.net.now (sym c.in-Some.ensures)).within

pub returns-then-not-is_driven-2-clause-least : goal.returns-then-not-is_driven-2-clause-least
returns-then-not-is_driven-2-clause-least c =
    let drivers = c.args.driven.now.clocks ++ c.args.driven.now.drivers in
    let form : is_latch c.args.args.now.words ≡ true = sym c.is_latch.ensures ∙ c.if-not-is_latch.false in
    let numbers = latch_numbers c.args.driven.now.nets c.args.nets.now c.args.args.now.words form c.requires.named c.requires.numbers in
    let control = sym c.in-Some.ensures in
    control_undriven drivers c.args.args.now.words c.in-Some.net.now form
    (ap (has_name drivers) (sym numbers.input_is.name_is) ∙ sym c.is_driven.ensures ∙ c.if-not-is_driven.false) control
    (ap (has_name drivers) (sym (numbers.control_is c.in-Some.net.now control).name_is) ∙ sym c.is_driven-in-Some.ensures ∙ c.if-not-is_driven-2.true)

pub returns-clause-least : goal.returns-clause-least
returns-clause-least c =
    let drivers = c.args.driven.now.clocks ++ c.args.driven.now.drivers in
    let form : is_latch c.args.args.now.words ≡ true = sym c.is_latch.ensures ∙ c.if-not-is_latch.false in
    let numbers = latch_numbers c.args.driven.now.nets c.args.nets.now c.args.args.now.words form c.requires.named c.requires.numbers in
    let input = ap (has_name drivers) (sym numbers.input_is.name_is) ∙ sym c.is_driven.ensures ∙ c.if-not-is_driven.false in
    elim c.match-control_of.branch [
      | in-Some+else-not-is_driven-2 w ↦
          let control = sym w.in-Some.ensures in
          latch_driven drivers c.args.args.now.words w.in-Some.net.now form input control
          (ap (has_name drivers) (sym (numbers.control_is w.in-Some.net.now control).name_is) ∙ sym w.is_driven-in-Some.ensures ∙ w.if-not-is_driven-2.false)
      | in-None w ↦ free_latch_driven drivers c.args.args.now.words form input (sym w.in-None.ensures)
    ]
