use Rattle.script_threads.proofs.Prelude.{map, section_of}
use Rattle.script_threads.proofs.OneRunLemmas.{is_one_run}
use Rattle.script_threads.proofs.law.one_run.Goals as goal

pub returns : goal.returns
returns c = λ device script answered is. is_one_run device script (map section_of answered.sections.items) answered.operator.items is
