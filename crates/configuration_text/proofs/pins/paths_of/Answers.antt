use Rattle.configuration_text.proofs.Prelude.{◌≡◌, ◌∙◌, sym, ap, [], Option, Some, None, rules, tests, option_map, find, option_map_or, YieldsList-from_slice, find_from_yields_List, LaidNet}
use Rattle.std.specs.Prelude.{◌==◌}
use Rattle.configuration_text.proofs.pins.paths_of.Goals as goal

pub returns-in-Some : goal.returns-in-Some
returns-in-Some c =
    let test = λ (between : LaidNet). between.net == c.args.net in
    let found = find_from_yields_List test _ _ c.find.result c.find.ensures.ran (YieldsList-from_slice c.nets.result.now c.iter.ensures.rest) (λ x b q k. search (rules, tests)) in
    let one : find test c.args.layout.now.nets ≡ Some c.in-Some.between.now = ap (find test) (sym c.nets.ensures) ∙ sym found ∙ ap (option_map (λ y. y.now)) c.in-Some.is in
    c.paths.ensures ∙ sym (ap (λ (o : Option LaidNet). option_map_or (λ (between : LaidNet). between.paths) o []) one)

pub returns-in-None : goal.returns-in-None
returns-in-None c =
    let test = λ (between : LaidNet). between.net == c.args.net in
    let found = find_from_yields_List test _ _ c.find.result c.find.ensures.ran (YieldsList-from_slice c.nets.result.now c.iter.ensures.rest) (λ x b q k. search (rules, tests)) in
    let none : find test c.args.layout.now.nets ≡ None = ap (find test) (sym c.nets.ensures) ∙ sym found ∙ ap (option_map (λ y. y.now)) c.in-None.is in
    sym (ap (λ (o : Option LaidNet). option_map_or (λ (between : LaidNet). between.paths) o []) none)
