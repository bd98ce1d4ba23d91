use Rattle.service_core.proofs.Alone.{each_alone, is_book, own_journals}
use Rattle.service_core.proofs.Parted.{are_parted}
use Rattle.service_core.proofs.Owning.{one_owner}
use Rattle.service_core.proofs.law.headline.Goals as goal

pub returns-clause-alone : goal.returns-clause-alone
returns-clause-alone c = each_alone

pub returns-clause-journals : goal.returns-clause-journals
returns-clause-journals c = own_journals

pub returns-clause-book : goal.returns-clause-book
returns-clause-book c = is_book

pub returns-clause-parted : goal.returns-clause-parted
returns-clause-parted c = are_parted

pub returns-clause-exact : goal.returns-clause-exact
returns-clause-exact c = λ device calls state run. let parted = are_parted device calls state run in one_owner state parted.parted parted.of_live
