use Rattle.script_threads.proofs.Prelude.{map, section_of}
use Rattle.script_threads.proofs.OneRunLemmas.{all_full}
use Rattle.script_threads.proofs.law.full_stays.Goals as goal

pub returns : goal.returns
returns c = λ device script answered is. all_full device script (map section_of answered.sections.items) answered.operator.items is
