use Rattle.live_machine.proofs.Prelude.{◌≡◌, ◌++◌, refl, rules, sym, ◌∙◌, with_feed, nomemory_reply}
use Rattle.live_machine.proofs.HereStepLines.{nomemory_here, step_here}
use Rattle.live_machine.proofs.ServerLemmas.{same_by, works_by}
use Rattle.live_machine.proofs.server.LineServer.serve_step_line.Goals as goal

pub returns-then-is_nomemory-clause-puts : goal.returns-then-is_nomemory-clause-puts
returns-then-is_nomemory-clause-puts c =
    let old = c.args.self.now in
    let log : c.reserve.new.self.items ≡ old.log.items = search rules in
    let text : c.as_slice.result.now ≡ nomemory_reply c.args.name.now = c.is_nomemory.ensures c.args.name.now c.if-is_nomemory.true in
    let reply : c.in_ok-reply.reply.items ≡ nomemory_reply c.args.name.now = sym c.as_slice.ensures.value ∙ text in
    same_by old
    (record { alloc = old.alloc; lines = c.answer.new.self; next = old.next; log = c.reserve.new.self; told = old.told })
    (nomemory_here _ _ _ _ _ _ c.requires.asks reply c.in_ok-reply.ensures.answers) refl log refl

pub returns-clause-puts : goal.returns-clause-puts
returns-clause-puts c =
    let old = c.args.self.now in
    let log : c.push_line.new.text.items ≡ old.log.items ++ with_feed c.args.line.now = search rules in
    λ held. (
      c.args.line.now,
      c.requires.asks,
      works_by old
          (record { alloc = old.alloc; lines = c.answer.new.self; next = _; log = c.push_line.new.text; told = old.told })
          c.args.line.now c.in_ok-reply.reply.items c.requires.is_line
          (step_here _ _ _ _ _ _ c.requires.asks c.requires.busy c.in_ok-reply.ensures.answers) refl log refl held,
    )
