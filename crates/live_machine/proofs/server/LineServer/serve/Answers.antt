use Rattle.live_machine.proofs.Prelude.{◌≡◌, ◌++◌, rules}
use Rattle.live_machine.proofs.HereLines.{line_here}
use Rattle.live_machine.proofs.ServerLemmas.{serves_by}
use Rattle.live_machine.proofs.server.LineServer.serve.Goals as goal

pub returns-clause-serves : goal.returns-clause-serves
returns-clause-serves c =
    let told : c.extend_from_slice.new.self.items ≡ c.args.self.now.told.items ++ c.in_ok-reply.reply.items = search rules in
    serves_by c.args.self.now
    (record { alloc = c.answer.new.self.alloc; lines = c.answer.new.self.lines; next = c.answer.new.self.next; log = c.answer.new.self.log; told = c.extend_from_slice.new.self })
    c.args.line.now c.in_ok-reply.reply.items c.requires.is_line
    (line_here _ _ _ _ _ c.requires.hand c.requires.wait c.in_ok-reply.ensures.answers) c.in_ok-reply.ensures.next c.in_ok-reply.ensures.log told
