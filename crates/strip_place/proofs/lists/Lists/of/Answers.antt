use Rattle.strip_place.proofs.Listed.{copied_all}
use Rattle.strip_place.proofs.lists.Lists.of.Goals as goal

pub returns : goal.returns
returns c = copied_all c.args.rows.now c.copy_rows.new.numbers.items c.copy_rows.new.bounds.items c.in_ok-copy_rows.ensures
