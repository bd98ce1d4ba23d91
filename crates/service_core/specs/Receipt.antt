-- The contents of a receipt and of a note.
use Rattle.std.specs.Prelude.{ℕ}
use Rattle.service_core.specs.Prelude.{Command, Reply}
use Rattle.service_core.specs.declared.not_served.NoteCause.{NoteCause}

-- a command of a tenancy, the index of its entry in the journal, and its reply
pub record Receipted : Type 0 where
  pub id : ℕ
  pub place : ℕ
  pub command : Command
  pub reply : Reply

-- why the core had no reply for that id
pub record Noted : Type 0 where
  pub id : ℕ
  pub cause : NoteCause
