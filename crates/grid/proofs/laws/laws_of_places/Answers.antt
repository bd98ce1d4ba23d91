use Rattle.grid.proofs.Numbers.{all_apart, all_within, few_logic, few_pads, kinds_apart}
use Rattle.grid.proofs.laws.laws_of_places.Goals as goal

pub returns-clause-within : goal.returns-clause-within
returns-clause-within c = all_within

pub returns-clause-apart : goal.returns-clause-apart
returns-clause-apart c = all_apart

pub returns-clause-kinds_apart : goal.returns-clause-kinds_apart
returns-clause-kinds_apart c = kinds_apart

pub returns-clause-few_logic : goal.returns-clause-few_logic
returns-clause-few_logic c = few_logic

pub returns-clause-few_pads : goal.returns-clause-few_pads
returns-clause-few_pads c = few_pads
