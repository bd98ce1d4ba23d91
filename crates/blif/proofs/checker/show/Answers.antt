use Rattle.blif.proofs.Prelude.{rules, ◌≡◌, map, None, Some, ◌∙◌, RepeatedOutput, first_of, texts, repeats}
use Rattle.blif.proofs.PlacedNames.{first_output}
use Rattle.blif.proofs.checker.show.Goals as goal

pub returns-in_ok-from_slice-in-Some-clause-least : goal.returns-in_ok-from_slice-in-Some-clause-least
returns-in_ok-from_slice-in-Some-clause-least c =
    let plain : Some (RepeatedOutput c.in_ok-from_slice-in-Some.field-0) ≡ first_of (map RepeatedOutput (repeats c.args.outputs.now (texts c.args.names.now))) = search rules in
    plain ∙ first_output c.args.outputs.now (texts c.args.names.now)

pub returns-in-None-clause-least : goal.returns-in-None-clause-least
returns-in-None-clause-least c =
    let plain : None ≡ first_of (map RepeatedOutput (repeats c.args.outputs.now (texts c.args.names.now))) = search rules in
    plain ∙ first_output c.args.outputs.now (texts c.args.names.now)
