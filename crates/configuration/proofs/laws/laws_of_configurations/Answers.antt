use Rattle.configuration.proofs.Prelude.{[]}
use Rattle.configuration.proofs.Apart.{bles_apart}
use Rattle.configuration.proofs.Connected.{configures}
use Rattle.configuration.proofs.OneDriver.{has_one_driver}
use Rattle.configuration.proofs.laws.laws_of_configurations.Goals as goal

pub returns-clause-connects : goal.returns-clause-connects
returns-clause-connects c = configures

pub returns-clause-one_driver : goal.returns-clause-one_driver
returns-clause-one_driver c = has_one_driver

pub returns-clause-apart : goal.returns-clause-apart
returns-clause-apart c = bles_apart []
