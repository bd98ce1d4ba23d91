use Rattle.service_core.proofs.Booking.{listed_owners, one_in_book}
use Rattle.service_core.proofs.Prelude.{IfOk-weaker}
use Rattle.service_core.proofs.service.Service.owners.Goals as goal

pub returns-clause-value : goal.returns-clause-value
returns-clause-value c = rw (← c.self.view_is) (IfOk-weaker c.owned_resources.result _ _ (λ list. listed_owners c.self.inside.book _ list.items c.self.invariant.book) c.owned_resources.ensures)

pub returns-clause-exact : goal.returns-clause-exact
returns-clause-exact c = rw (← c.self.view_is) (one_in_book c.self.inside.book _ c.self.invariant.book)
