use Rattle.service_core.proofs.Prelude.{sym, subst, routed_set, state_of, TakesUp}
use Rattle.service_core.proofs.Booking.{claimed_held, free_held, stand_in}
use Rattle.service_core.proofs.service.claim.Goals as goal

pub claim-requires : goal.claim-requires
claim-requires c = record {
  there = stand_in c.args.book.now c.args.offset c.args.tenancy.now.arch c.args.tenancy.now.strip c.routed_resources.result.now c.requires.there c.routed_resources.ensures.there;
  free = free_held c.args.book.now c.args.offset c.args.tenancy.now c.routed_resources.result.now c.routed_resources.ensures.exact (c.requires.free c.in-Finished.is);
}

pub returns-in-Finished : goal.returns-in-Finished
returns-in-Finished c =
    subst (λ reply. TakesUp c.args.book.now c.args.id c.args.offset c.args.tenancy.now reply c.claim.new.self) (sym c.in-Finished.is)
    (claimed_held c.args.book.now c.claim.new.self c.args.id c.args.offset (routed_set (state_of c.args.tenancy.now)) c.routed_resources.result.now c.routed_resources.ensures.exact c.claim.ensures)
