use Rattle.live_machine.proofs.WorkLemmas.{same_state, turns_after, turns_to}
use Rattle.live_machine.proofs.machine.Machine.turn.Goals as goal

pub returns-in_ok-mark-in-Some-clause-turns : goal.returns-in_ok-mark-in-Some-clause-turns
returns-in_ok-mark-in-Some-clause-turns c = (
  c.as_slice.result.now,
  turns_after c.as_slice.result.now _ _ _ (same_state c.next_free.new.self c.args.self.now c.next_free.ensures.server c.next_free.ensures.held)
      (turns_to c.as_slice.result.now _ _ _ (same_state c.mark.new.self c.serve_turns.new.self c.mark.ensures.server c.mark.ensures.held)
      c.in_ok-_is_behind-in-Some.ensures.turns),
)
