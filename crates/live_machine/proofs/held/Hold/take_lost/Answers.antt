use Rattle.live_machine.proofs.Prelude.{IsSaidItem}
use Rattle.live_machine.proofs.LostLemmas.{all_left}
use Rattle.live_machine.proofs.held.Hold.take_lost.Goals as goal

pub invariant_of-self : goal.invariant_of-self
invariant_of-self c = record {
  items = all_left (IsSaidItem c.self.inside.name.items) c.take_lost.result c.self.inside.items c.take_lost.new.self c.take_lost.ensures.takes.taken c.self.invariant.items;
  text = c.self.invariant.text;
}
