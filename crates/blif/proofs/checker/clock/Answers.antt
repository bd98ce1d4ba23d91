use Rattle.blif.proofs.Prelude.{arith, ◌≡◌, ◌&&◌, not, map, filter, None, Some, ◌∙◌, common_steps, TwoDrivers, first_of, has_name, texts}
use Rattle.blif.proofs.PlacedNames.{first_clock}
use Rattle.blif.proofs.checker.clock.Goals as goal

pub returns-then-contains-clause-least : goal.returns-then-contains-clause-least
returns-then-contains-clause-least c =
    let plain : Some (TwoDrivers c.in_ok-from_slice.field-0) ≡ first_of (map TwoDrivers (filter (λ name. not (has_name c.args.declared.now name) && has_name c.args.drivers.now name) (texts c.args.names.now))) = grind (arith, common_steps) in
    plain ∙ first_clock c.args.declared.now c.args.drivers.now (texts c.args.names.now)

pub returns-clause-least : goal.returns-clause-least
returns-clause-least c =
    let plain : None ≡ first_of (map TwoDrivers (filter (λ name. not (has_name c.args.declared.now name) && has_name c.args.drivers.now name) (texts c.args.names.now))) = grind (arith, common_steps) in
    plain ∙ first_clock c.args.declared.now c.args.drivers.now (texts c.args.names.now)
