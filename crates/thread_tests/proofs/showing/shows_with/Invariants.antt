use Rattle.std.proofs.Common.{false}
use Rattle.service_core.specs.Service.{empty_service}
use Rattle.thread_tests.proofs.showing.shows_with.Given as goal

abbrev pub ghosts-shows_on-C-Ledger : goal.ghosts-shows_on-C-Ledger
ghosts-shows_on-C-Ledger g a = record { name = a.commands.name; parts = a.commands.parts }

abbrev pub ghosts-shows_on-P-Ledger : goal.ghosts-shows_on-P-Ledger
ghosts-shows_on-P-Ledger g a = record { name = a.puts.name; parts = a.puts.parts }

abbrev pub ghosts-shows_on-C-Begun : goal.ghosts-shows_on-C-Begun
ghosts-shows_on-C-Begun g a = record { begun = empty_service a.device; stay = false }
