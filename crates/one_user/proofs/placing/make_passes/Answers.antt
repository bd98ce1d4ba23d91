use Rattle.one_user.proofs.Prelude.{sym, ◌∙◌}
use Rattle.one_user.proofs.LastPass.{last_pass}
use Rattle.one_user.proofs.placing.make_passes.Goals as goal

pub returns-in-Last : goal.returns-in-Last
returns-in-Last c =
    let done = last_pass c.args.placing.now c.loop-pass.placing c.pass.new.self c.loop-pass._pass c.loop-pass-test.true c.loop-pass.invariant.is c.loop-pass.invariant.before c.pass.ensures.new (sym c.in-Last.is ∙ c.pass.ensures.end) in
    record { made = done.0; all = done.1 }
