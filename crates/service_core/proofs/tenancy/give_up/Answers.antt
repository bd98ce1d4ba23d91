use Rattle.service_core.proofs.Prelude.{sym, subst, moved_resource, map, routed_set, GivesUp}
use Rattle.service_core.proofs.Booking.{released_held, stand_in}
use Rattle.service_core.proofs.tenancy.give_up.Goals as goal

pub release-requires : goal.release-requires
release-requires c = record { there = stand_in c.args.book.now c.args.offset c.args.slot.now.state.arch c.args.slot.now.state.strip c.routed_resources.result.now c.requires c.routed_resources.ensures.there }

pub returns-in-Accepted : goal.returns-in-Accepted
returns-in-Accepted c =
    subst (λ reply. GivesUp c.args.book.now (map (moved_resource c.args.offset) (routed_set c.args.slot.now.state)) reply c.release.new.self) (sym c.in-Accepted.is)
    (released_held c.args.book.now c.release.new.self c.args.offset (routed_set c.args.slot.now.state) c.routed_resources.result.now c.routed_resources.ensures.exact c.release.ensures)
