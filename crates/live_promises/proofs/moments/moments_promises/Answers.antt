use Rattle.live_promises.proofs.MomentLemmas.{backed_at}
use Rattle.live_promises.proofs.moments.moments_promises.Goals as goal

pub returns : goal.returns
returns c = λ begun first calls now events n run cut. backed_at begun first (c.machine_law.ensures.account begun first) calls now events n run cut
