use Rattle.live_machine.proofs.MachineLemmas.{ok_so}
use Rattle.live_machine.proofs.WorkLemmas.{same_state, turns_to}
use Rattle.live_machine.proofs.machine.Machine.go_on.Goals as goal

pub returns-clause-turns : goal.returns-clause-turns
returns-clause-turns c =
    ok_so c.mark.result
    (turns_to c.args.name.now _ _ _ (same_state c.mark.new.self c.serve_turns.new.self c.mark.ensures.server c.mark.ensures.held)
    c.in_ok-_is_behind.ensures.turns)
