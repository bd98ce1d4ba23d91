use Rattle.script_threads.proofs.Prelude.{map, section_of}
use Rattle.script_threads.proofs.OneRunLemmas.{stand}
use Rattle.script_threads.proofs.law.receipts_stand.Goals as goal

pub returns : goal.returns
returns c = λ device script answered is. stand _ _ script (map section_of answered.sections.items) answered.operator.items is
