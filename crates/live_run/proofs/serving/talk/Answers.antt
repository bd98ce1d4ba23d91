use Rattle.live_run.proofs.Prelude.{conversation_along, AnswersLine, state_in}
use Rattle.live_run.proofs.RunLemmas.{nothing_said}
use Rattle.live_run.proofs.serving.talk.Goals as goal

pub returns-in-Ok-clause-conversation : goal.returns-in-Ok-clause-conversation
returns-in-Ok-clause-conversation g c =
    conversation_along (λ watched. state_in watched.lines) (λ old number line reply new. AnswersLine (state_in old.lines) number line reply (state_in new.lines)) AnswersLine (λ old number line reply new is. is) c.args.watched.now c.args.number.now _ _ c.converse.result c.converse.new.service c.converse.new.number c.converse.ensures.conversation

pub returns-in-Err-clause-conversation : goal.returns-in-Err-clause-conversation
returns-in-Err-clause-conversation g c =
    nothing_said (state_in c.args.watched.now.lines) (state_in c.args.watched.now.lines) c.args.number.now c.args.number.now (g.D.Dialogue.view c.args.dialogue.now)
