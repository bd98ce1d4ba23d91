use Rattle.live_log.proofs.Prelude.{◌≡◌, ◌++◌, length, filter_map, physical_lines, texts, named_tag}
use Rattle.live_log.proofs.last_tags.named_tags.Given as goal

-- with the tags of the lines that are left they are all
abbrev pub invariant-loop-rest : goal.invariant-loop-rest
invariant-loop-rest l = texts l.tags.items ++ filter_map named_tag (physical_lines l.rest) ≡ filter_map named_tag (physical_lines l.log)

abbrev pub decreases-loop-rest : goal.decreases-loop-rest
decreases-loop-rest l = length l.rest
