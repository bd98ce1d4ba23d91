-- What the core is asked in a session's name, and how it answers.
use Rattle.std.specs.Prelude.{ℕ, List, Bool, true, Option, Some, None, Ok, Err, option_and_then, ◌==◌, if◌then◌else◌}
use Rattle.std.specs.List.{filter_map, zip}
use Rattle.script_threads.specs.Prelude.{Status, Receipted, Call, Tenant, SessionLine, Command, Wait, is_of_threads, ItemAnswer, Receipt, Note, receipt_in}
use Rattle.tenant_slot.specs.declared.command.Command.{Command as TenantCommand}
use Rattle.service_core.specs.declared.not_served.NotServed.TheVariants.{JournalFull}

-- what a thread does in a turn under the lock: a call of threads, or a command that is refused
-- because the journal is full
abbrev pub is_turn : Call → Bool
is_turn (Tenant id command (Err (JournalFull note))) = true
is_turn call = is_of_threads call

-- a command of that tenancy with its answer: its receipt, or the note that the journal is full
abbrev pub own_answer : ℕ → Call → Option (TenantCommand × ItemAnswer)
own_answer id (Tenant t command (Ok receipt)) = if t == id then Some (command, Receipt receipt) else None
own_answer id (Tenant t command (Err (JournalFull note))) = if t == id then Some (command, Note note) else None
own_answer id call = None

-- all of them, in order
abbrev pub own_answers : ℕ → List Call → List (TenantCommand × ItemAnswer)
own_answers id calls = filter_map (own_answer id) calls

-- the command that an item asks, with the answer to the item; a wait asks the status
abbrev pub told_answer : SessionLine → Option ItemAnswer → Option (TenantCommand × ItemAnswer)
told_answer (Command command) (Some place) = Some (command, place)
told_answer Wait (Some place) = Some (Status, place)
told_answer item told = None

-- all of them, in order
abbrev pub told_answers : List SessionLine → List (Option ItemAnswer) → List (TenantCommand × ItemAnswer)
told_answers items told = filter_map (λ x. told_answer x.0 x.1) (zip items told)

-- the receipts among answers
abbrev pub receipts_told : List (Option ItemAnswer) → List Receipted
receipts_told told = filter_map (option_and_then receipt_in) told
