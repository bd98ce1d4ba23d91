use Rattle.std.proofs.Common.{◌≡◌, codes, rules}
use Rattle.desk.proofs.Errands.{no_shell, on_error}
use Rattle.desk.proofs.errand.errand_of.Goals as goal

pub returns-in_err-shell_of-in-completion-clause-refused :
    goal.returns-in_err-shell_of-in-completion-clause-refused
returns-in_err-shell_of-in-completion-clause-refused c =
    let is : c.args.call.now.tool.name.now ≡ codes "completion" = search rules in
    on_error c.from_residual-in_err-shell_of-in-completion.result (no_shell c.args.call.now.tool.name.now c.args.call.now.given is c.in_err-shell_of-in-completion.ensures.refused)
