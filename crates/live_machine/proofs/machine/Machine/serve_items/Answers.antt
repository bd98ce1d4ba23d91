use Rattle.live_machine.proofs.Prelude.{◌≡◌, Bool, true, subst, rules, held_of, ServesNext, machine_of}
use Rattle.live_machine.proofs.LostLemmas.{next_before}
use Rattle.live_machine.proofs.machine.Machine.serve_items.Goals as goal

pub loop-preserved : goal.loop-preserved
loop-preserved c =
    let name = c.args.name.now in
    let old = machine_of c.loop.self in
    let mid = machine_of c.serve_next.new.self in
    let went : c.in_ok-serve_next.field-0 ≡ true = search rules in
    let P : Bool → Type 0 = λ w. ServesNext w (held_of old.held name) name old mid in
    record {
      ready = c.in_ok-serve_next.ensures.ready;
      rest = λ new rest. c.loop.invariant.rest new (next_before (held_of old.held name) old mid new name (subst P went c.in_ok-serve_next.ensures.serves) rest);
    }
