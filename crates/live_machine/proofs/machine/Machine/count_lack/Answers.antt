use Rattle.live_machine.proofs.WorkLemmas.{same_state, turns_to}
use Rattle.live_machine.proofs.machine.Machine.count_lack.Goals as goal

pub returns-clause-ends : goal.returns-clause-ends
returns-clause-ends c = (
  c.in_ok-_had_wait._had_wait,
  _,
  c.in_ok-_had_wait.ensures.turn,
  turns_to c.args.name.now _ _ _ (same_state c.mark_waited.new.self c.serve_turns.new.self c.mark_waited.ensures.server c.mark_waited.ensures.held)
      c.in_ok-_is_behind.ensures.turns,
)
