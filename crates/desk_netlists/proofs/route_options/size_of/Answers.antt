use Rattle.desk_netlists.proofs.Sizes.{no_columns, no_rows, on_error}
use Rattle.desk_netlists.proofs.route_options.size_of.Goals as goal

pub returns-in_err-columns-clause-refused : goal.returns-in_err-columns-clause-refused
returns-in_err-columns-clause-refused c = on_error c.from_residual.result (no_columns c.args.given.now c.in_err-columns.ensures.refused)

pub returns-in_err-rows-clause-refused : goal.returns-in_err-rows-clause-refused
returns-in_err-rows-clause-refused c = on_error c.from_residual-in_err-rows.result (no_rows c.args.given.now c.in_err-rows.ensures.refused)
