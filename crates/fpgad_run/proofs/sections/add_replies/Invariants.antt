use Rattle.fpgad_run.proofs.Prelude.{◌≡◌, map, section_of, named_sections}
use Rattle.fpgad_run.proofs.sections.add_replies.Given as goal

-- the texts so far have their names
abbrev pub invariant-loop-text : goal.invariant-loop-text
invariant-loop-text l = map section_of l.replies.items ≡ named_sections l.names l.yielded
