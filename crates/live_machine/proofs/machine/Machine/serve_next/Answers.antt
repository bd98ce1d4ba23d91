use Rattle.live_machine.proofs.Prelude.{◌≡◌, ◌<◌, ℕ, refl, subst, arith, rules, IfOk-weaker, TakesLostOf, held_of, machine_of}
use Rattle.live_machine.proofs.LostLemmas.{lost_served, next_alone}
use Rattle.live_machine.proofs.machine.Machine.serve_next.Goals as goal

pub returns-then-lost-eq0-clause-serves : goal.returns-then-lost-eq0-clause-serves
returns-then-lost-eq0-clause-serves c =
    let names = c.args.self.now.held in
    let held = c.take_lost-lost.new.self in
    let name = c.args.name.now in
    let T : ℕ → Type 0 = λ n. TakesLostOf (held_of names name) names n held in
    IfOk-weaker c.serve_item.result _ _
    (λ went serves. next_alone went (machine_of c.args.self.now) _ name held (subst T c.if-lost-eq0.true c.take_lost-lost.ensures) serves)
    c.serve_item.ensures.serves

pub returns-clause-serves : goal.returns-clause-serves
returns-clause-serves c =
    let names = c.args.self.now.held in
    let held = c.take_lost-lost.new.self in
    let name = c.args.name.now in
    let some : 0 < c.take_lost-lost.result = search rules in
    lost_served (held_of names name) (machine_of c.args.self.now) _ name c.take_lost-lost.result held refl some c.take_lost-lost.ensures (c.in_ok-tell_lost_items.ensures.tells held)
