use Rattle.script_threads.proofs.Prelude.{map, section_of}
use Rattle.script_threads.proofs.OneRunLemmas.{goes_on}
use Rattle.script_threads.proofs.law.threads_go_on.Goals as goal

pub returns : goal.returns
returns c = λ device script answered is. goes_on _ _ script (map section_of answered.sections.items) answered.operator.items is
