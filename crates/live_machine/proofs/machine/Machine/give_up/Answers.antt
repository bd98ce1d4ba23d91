use Rattle.live_machine.proofs.Prelude.{◌≡◌, true, refl, rules, has_wait, held_of}
use Rattle.live_machine.proofs.MachineLemmas.{gave_up, taken_as}
use Rattle.live_machine.proofs.machine.Machine.give_up.Goals as goal

pub returns-clause-turn : goal.returns-clause-turn
returns-clause-turn c =
    let names = c.args.self.now.held in
    let held = c.take.new.self in
    let name = c.args.name.now in
    let waits : has_wait (held_of names name) ≡ true = search rules in
    gave_up (held_of names name) _ _ _ name c.take.result held refl waits (taken_as (held_of names name) names name c.take.result held refl c.take.ensures) (c.in_ok-tell_lost.ensures.tells held) c.in_ok-free_if_done.ensures.frees
