use Rattle.shared_core.proofs.Prelude.{Ok, Recorded}
use Rattle.shared_core.proofs.Journals.{put}
use Rattle.shared_core.proofs.Kept.{IsAccount-grown}
use Rattle.shared_core.proofs.Reaching.{reached_put}
use Rattle.shared_core.proofs.shared.Core.put.Goals as goal

pub invariant_of-self-in-Recorded : goal.invariant_of-self-in-Recorded
invariant_of-self-in-Recorded g c =
    let puts = rw c.in-Recorded.is at c.in_ok-reply.ensures in
    rw c.add.ensures.parts (IsAccount-grown _ _ _ _ _ _ _ _ _ _ _ (put _ _ c.args.done (Ok (Recorded c.in-Recorded.field-0)) puts) c.add.ensures.total (λ e. reached_put _ _ _ _ c.args.done (Ok (Recorded c.in-Recorded.field-0)) puts) c.self.invariant)
