use Rattle.configuration.proofs.TableValues.{has_table_values}
use Rattle.configuration.proofs.laws.values_are_rows.Goals as goal

pub returns : goal.returns
returns c = has_table_values
