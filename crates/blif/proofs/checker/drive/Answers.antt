use Rattle.blif.proofs.Prelude.{arith, ◌≡◌, ◌++◌, map, None, Some, ◌∙◌, common_steps, TwoDrivers, first_of, texts, repeats}
use Rattle.blif.proofs.PlacedNames.{first_driver}
use Rattle.blif.proofs.checker.drive.Goals as goal

pub returns-then-contains-clause-least : goal.returns-then-contains-clause-least
returns-then-contains-clause-least c =
    let plain : Some (TwoDrivers c.in_ok-from_slice.field-0) ≡ first_of (map TwoDrivers (repeats (c.args.clocks.now ++ c.args.drivers.now) (texts c.args.names.now))) = grind (arith, common_steps) in
    plain ∙ first_driver (c.args.clocks.now ++ c.args.drivers.now) (texts c.args.names.now)

pub returns-clause-least : goal.returns-clause-least
returns-clause-least c =
    let plain : None ≡ first_of (map TwoDrivers (repeats (c.args.clocks.now ++ c.args.drivers.now) (texts c.args.names.now))) = grind (arith, common_steps) in
    plain ∙ first_driver (c.args.clocks.now ++ c.args.drivers.now) (texts c.args.names.now)
