use Rattle.grid.proofs.Numbers.{number_by, number_found}
use Rattle.grid.proofs.place.Places.number_of.Goals as goal

pub overflow_sub-result : goal.overflow_sub-result
overflow_sub-result c = (number_found c.args.self.strip c.args.self.kind c.args.place c.args.self.lawful c.requires).2.column.0

pub number_in_column-requires : goal.number_in_column-requires
number_in_column-requires c = (number_found c.args.self.strip c.args.self.kind c.args.place c.args.self.lawful c.requires).2.row

pub returns : goal.returns
returns c = number_by c.args.self.strip c.args.self.kind c.args.place c.column_len.result c.number_in_column.result c.args.self.lawful c.requires c.column_len.ensures.count c.number_in_column.ensures
