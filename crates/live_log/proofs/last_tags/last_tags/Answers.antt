use Rattle.live_log.proofs.Prelude.{◌∙◌, physical_lines}
use Rattle.live_log.proofs.LastSteps.{last_found}
use Rattle.live_log.proofs.last_tags.last_tags.Goals as goal

pub returns : goal.returns
returns c = last_found c.reverse-2.new.self.items c.in_ok-tags.tags.items c.as_slice.result.now c.in_ok-all.all.items (physical_lines c.args.log.now) c.reverse-2.ensures.items c.in_ok-tags.ensures (c.as_slice.ensures.value ∙ c.reverse.ensures.items) c.in_ok-all.ensures
