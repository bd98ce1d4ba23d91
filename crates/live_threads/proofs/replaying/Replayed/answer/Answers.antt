use Rattle.live_threads.proofs.Prelude.{ℕ, ap, subst, ◌∙◌, arith, AnswersLine, state_in, moves_job}
use Rattle.live_threads.proofs.ReplayLemmas.{HomeLaws, reply_line}
use Rattle.live_threads.proofs.replaying.Replayed.answer.Goals as goal

pub returns-in-Ok-clause-has_reply : goal.returns-in-Ok-clause-has_reply
returns-in-Ok-clause-has_reply g c =
    let laws : HomeLaws = record { line = c.workers_law.ensures.line; said = c.workers_law.ensures.said; steps = c.workers_law.ensures.steps } in
    let A : ℕ → Type 0 = λ n. AnswersLine (state_in c.await_needed.new.self.lines) n c.args.line.now c.in_ok-reply.reply.items (state_in c.answer.new.self) in
    reply_line laws (state_in c.args.self.now.lines) (state_in c.await_needed.new.self.lines) (state_in c.answer.new.self) (state_in c.note.new.self.lines) c.args.self.now.next c.args.self.now.taken c.note.new.self.taken c.args.line.now c.in_ok-reply.reply.items
    c.await_needed.ensures.same c.await_needed.ensures.servable (subst A c.await_needed.ensures.next c.in_ok-reply.ensures.answers) c.in-Ok.ensures.same
    (λ none. c.in-Ok.ensures.taken (ap moves_job c.in_ok-asked.ensures.asks ∙ none) ∙ c.await_needed.ensures.taken)
