use Rattle.live_log.proofs.Prelude.{◌≡◌, ◌∷◌, rules, physical_lines, texts}
use Rattle.live_log.proofs.LastSteps.{tags_more}
use Rattle.live_log.proofs.last_tags.named_tags.Goals as goal

pub loop-rest-preserved : goal.loop-rest-preserved
loop-rest-preserved c =
    let lines : physical_lines c.loop-rest.rest.now ≡ c.split_line.result.0.now ∷ physical_lines c.split_line.result.1.now = c.split_line.ensures.lines (search rules) in
    tags_more (texts c.loop-rest.tags.items) (texts c.add_tag.new.tags.items) _ c.split_line.result.0.now (physical_lines c.loop-rest.rest.now) (physical_lines c.split_line.result.1.now) lines c.loop-rest.invariant c.in_ok-add_tag.ensures
