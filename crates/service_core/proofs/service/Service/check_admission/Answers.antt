use Rattle.service_core.proofs.Prelude.{◌<◌, length, Some, None, arith, rules, nat_tests, IsFirstFit}
use Rattle.service_core.proofs.service.Service.check_admission.Goals as goal

pub returns-in-Some : goal.returns-in-Some
returns-in-Some c =
    let fits : IsFirstFit c.self.inside.layout c.args.width (Some c.in-Some.offset) = search rules in
    let few : length c.self.inside.layout.strips < 64 = grind (arith, nat_tests) in
    rw (← c.self.view_is) (record { good_width = search rules; few_strips = few; ids_left = search rules }, fits)

pub returns-in-None : goal.returns-in-None
returns-in-None c =
    let none : IsFirstFit c.self.inside.layout c.args.width None = search rules in
    let few : length c.self.inside.layout.strips < 64 = grind (arith, nat_tests) in
    rw (← c.self.view_is) (record { good_width = search rules; few_strips = few; ids_left = search rules }, none)
