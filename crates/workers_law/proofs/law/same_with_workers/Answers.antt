use Rattle.workers_law.proofs.Prelude.{section_of}
use Rattle.std.specs.Prelude.{map}
use Rattle.workers_law.proofs.WithWorkers.{same_with}
use Rattle.workers_law.proofs.law.same_with_workers.Goals as goal

pub returns : goal.returns
returns c = λ device script answered is. same_with device script (map section_of answered.sections.items) answered.operator.items is
