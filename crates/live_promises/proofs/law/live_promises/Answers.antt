use Rattle.live_promises.proofs.ToldLemmas.{told_live}
use Rattle.live_promises.proofs.law.live_promises.Goals as goal

pub returns : goal.returns
returns c = λ device lines text last answered.
    told_live (record { alone = c.headline.ensures.alone; parted = c.headline.ensures.parted; journals = c.headline.ensures.journals; book = c.headline.ensures.book; exact = c.headline.ensures.exact; line = c.end_to_end.ensures })
    (record { items = c.live_law.ensures.items; replies = c.live_law.ensures.replies; tells = c.live_law.ensures.tells })
    device lines text last (c.served_law.ensures.taken _ _ _ _ _ answered)
