use Rattle.script_threads.proofs.Prelude.{true}
use Rattle.script_threads.proofs.serving.serve_sessions.Given as goal

abbrev pub ghosts-run_sessions-C-Ledger : goal.ghosts-run_sessions-C-Ledger
ghosts-run_sessions-C-Ledger g a = record { name = a.commands.name; parts = a.commands.parts }

abbrev pub ghosts-run_sessions-C-Begun : goal.ghosts-run_sessions-C-Begun
ghosts-run_sessions-C-Begun g a = record { begun = a.service; stay = true }

abbrev pub ghosts-run_sessions-P-Ledger : goal.ghosts-run_sessions-P-Ledger
ghosts-run_sessions-P-Ledger g a = record { name = a.puts.name; parts = a.puts.parts }
