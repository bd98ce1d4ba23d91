use Rattle.tenancy_script.proofs.Prelude.{rules, printed_script, acts_of}
use Rattle.tenancy_script.proofs.SaysLemmas.{printed_ends, printed_says, printed_some, says_behind, whole_behind}
use Rattle.tenancy_script.proofs.script.TenancyScript.laws.Goals as goal

pub returns-in-Some-clause-says : goal.returns-in-Some-clause-says
returns-in-Some-clause-says c =
    let script = c.args.self.now in
    says_behind (printed_script script) (acts_of script) (printed_says script (search rules) (search rules) (search rules) c.bits.ensures.seed c.bits.ensures.effort)

pub returns-in-Some-clause-whole : goal.returns-in-Some-clause-whole
returns-in-Some-clause-whole c = λ before whole.
    let script = c.args.self.now in
    whole_behind (printed_script script) before (acts_of script) (printed_says script (search rules) (search rules) (search rules) c.bits.ensures.seed c.bits.ensures.effort) (printed_ends script) (printed_some script) whole

pub returns-in-None-clause-says : goal.returns-in-None-clause-says
returns-in-None-clause-says c =
    let script = c.args.self.now in
    says_behind (printed_script script) (acts_of script) (printed_says script (search rules) (search rules) (search rules) c.bits-in-None.ensures.seed c.bits-in-None.ensures.effort)

pub returns-in-None-clause-whole : goal.returns-in-None-clause-whole
returns-in-None-clause-whole c = λ before whole.
    let script = c.args.self.now in
    whole_behind (printed_script script) before (acts_of script) (printed_says script (search rules) (search rules) (search rules) c.bits-in-None.ensures.seed c.bits-in-None.ensures.effort) (printed_ends script) (printed_some script) whole
