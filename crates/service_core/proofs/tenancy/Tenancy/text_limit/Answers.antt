use Rattle.service_core.proofs.Prelude.{refl}
use Rattle.service_core.proofs.JournalTexts.{FitInto-more}
use Rattle.service_core.proofs.tenancy.Tenancy.text_limit.Goals as goal

pub returns : goal.returns
returns c = rw (← c.self.view_is) (record { value = refl; fits = FitInto-more c.self.inside.held c.self.inside.text_limit c.self.inside.journal.items c.self.invariant.counted.fits c.self.invariant.within })
