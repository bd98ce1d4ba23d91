use Rattle.device_file.proofs.Prelude.{◌≡◌, ◌+◌, ◌-◌, length, length-drop, take, drop, Some, ap, ◌∙◌, arith, option_map, take_all}
use Rattle.device_file.proofs.names.split_value.Goals as goal

pub returns-in-Some-clause-text : goal.returns-in-Some-clause-text
returns-in-Some-clause-text c =
    let word = c.args.word.now in
    let after = c.in-Some.place + 1 in
    ap Some (take_all _ _ (omega (arith, length-drop after word))) ∙ ap (option_map (λ place. drop (place + 1) word)) c.in-Some.ensures

pub returns-in-None-clause-text : goal.returns-in-None-clause-text
returns-in-None-clause-text c = ap (option_map (λ place. drop (place + 1) c.args.word.now)) c.in-None.ensures
