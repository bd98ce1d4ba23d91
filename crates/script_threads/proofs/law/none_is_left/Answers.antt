use Rattle.script_threads.proofs.Prelude.{map, section_of}
use Rattle.script_threads.proofs.OneRunLemmas.{none_left}
use Rattle.script_threads.proofs.law.none_is_left.Goals as goal

pub returns : goal.returns
returns c = λ device script answered is id. none_left device script (map section_of answered.sections.items) answered.operator.items is id
