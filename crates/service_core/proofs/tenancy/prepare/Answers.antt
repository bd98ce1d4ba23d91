use Rattle.service_core.proofs.JournalTexts.{Adds-reply}
use Rattle.service_core.proofs.tenancy.prepare.Goals as goal

pub returns-in-Ok-clause-adds : goal.returns-in-Ok-clause-adds
returns-in-Ok-clause-adds c =
    rw c.command_bytes.ensures.exact (Adds-reply c.args.journal.now c.args.command.now c.args.reply.now c.in_ok-kept.added c.in_ok-kept.ensures.adds)
