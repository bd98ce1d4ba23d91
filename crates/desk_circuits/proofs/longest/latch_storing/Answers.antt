use Rattle.desk_circuits.proofs.Prelude.{◌≡◌, ◌==◌, ◌∙◌, Some, None, sym, ap, rules, tests, option_map, find, YieldsList-from_slice, find_from_yields_List, Latch}
use Rattle.desk_circuits.proofs.longest.latch_storing.Goals as goal

pub returns-in-Some : goal.returns-in-Some
returns-in-Some c =
    let test = λ (latch : Latch). latch.input == c.args.net in
    let found = find_from_yields_List test _ _ c.find.result c.find.ensures.ran (YieldsList-from_slice c.as_slice.result.now c.iter.ensures.rest) (λ x b q k. search (rules, tests)) in
    let one : find test c.args.circuit.now.latches ≡ Some c.in-Some.latch.now = ap (find test) (sym c.as_slice.ensures) ∙ sym found ∙ ap (option_map (λ y. y.now)) c.in-Some.is in
    sym one

pub returns-in-None : goal.returns-in-None
returns-in-None c =
    let test = λ (latch : Latch). latch.input == c.args.net in
    let found = find_from_yields_List test _ _ c.find.result c.find.ensures.ran (YieldsList-from_slice c.as_slice.result.now c.iter.ensures.rest) (λ x b q k. search (rules, tests)) in
    let none : find test c.args.circuit.now.latches ≡ None = ap (find test) (sym c.as_slice.ensures) ∙ sym found ∙ ap (option_map (λ y. y.now)) c.in-None.is in
    sym none
