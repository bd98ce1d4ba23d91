use Rattle.live_machine.proofs.Prelude.{◌≡◌, true, rules}
use Rattle.live_machine.proofs.WorkLemmas.{turn_more}
use Rattle.live_machine.proofs.machine.Machine.serve_turns.Goals as goal

pub loop-served-preserved : goal.loop-served-preserved
loop-served-preserved c =
    let went : c.in_ok-serve_first.field-0 ≡ true = search rules in
    record {
      ready = c.in_ok-serve_first.ensures.ready;
      turns = turn_more c.args.name.now _ _ _ c.in_ok-serve_first.field-0 went c.loop-served.invariant.turns c.in_ok-serve_first.ensures.turn;
    }
