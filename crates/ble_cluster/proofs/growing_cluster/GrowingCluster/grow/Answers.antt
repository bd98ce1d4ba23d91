use Rattle.ble_cluster.proofs.Prelude.{◌≡◌, ◌<◌, ◌∙◌, IfOk, length, sym, subst, arith, is_ok, free_in}
use Rattle.ble_cluster.proofs.Choosing.{grown_full}
use Rattle.ble_cluster.proofs.Filling.{all_filled, filled}
use Rattle.ble_cluster.proofs.FreeNumbers.{found_on}
use Rattle.ble_cluster.proofs.growing_cluster.GrowingCluster.grow.Goals as goal

pub next_member-requires : goal.next_member-requires
next_member-requires c = found_on _ _ _ _ c.requires.by_outside c.loop-added.invariant.keys c.loop-added.invariant.free

pub returns-in-None-clause-members : goal.returns-in-None-clause-members
returns-in-None-clause-members c =
    let none = rw c.loop-added.invariant.members at c.in-None.ensures.next in
    c.loop-added.invariant.members
    ∙ sym (grown_full c.args.arch.now c.args.elements.now.elements (free_in c.args.is_taken.now) c.args.self.now.members.items c.loop-added.added c.args.arch.now.cluster_size (omega arith) (sym none))

pub returns-in-Some-clause-members : goal.returns-in-Some-clause-members
returns-in-Some-clause-members c =
    subst (λ ms. IfOk c.fill.result (λ _. c.fill.new.self.members.items ≡ ms))
    (filled c.args.arch.now c.args.elements.now.elements c.args.is_taken.now c.requires.by_outside.taken c.args.self.now.members.items c.loop-added.self.members.items c.in-Some.number c.loop-added.added c.loop-added.invariant.members c.in-Some.ensures.next (omega arith) (omega arith))
    c.fill.ensures.added

pub returns-in-Some-clause-within : goal.returns-in-Some-clause-within
returns-in-Some-clause-within c =
    all_filled (λ number. number < length c.args.elements.now.elements) c.loop-added.self.members.items c.fill.new.self.members.items c.in-Some.number (is_ok c.fill.result) c.fill.ensures.members c.loop-added.invariant.growth.members c.in-Some.ensures.joins.0
