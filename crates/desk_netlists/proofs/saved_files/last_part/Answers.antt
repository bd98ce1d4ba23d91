use Rattle.desk_netlists.proofs.Stems.{last_is_part, whole_is_part}
use Rattle.desk_netlists.proofs.saved_files.last_part.Goals as goal

pub returns-in-Some : goal.returns-in-Some
returns-in-Some c = last_is_part c.args.path.now (c.in-Some.field-0-0, c.in-Some.name) c.in-Some.ensures.cases

pub returns-in-None : goal.returns-in-None
returns-in-None c = whole_is_part c.args.path.now c.in-None.ensures.cases
