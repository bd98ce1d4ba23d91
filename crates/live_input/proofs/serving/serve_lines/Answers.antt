use Rattle.live_input.proofs.Prelude.{◌≡◌, conversation_along, LiveLines, AnswersLine, state_in}
use Rattle.live_input.proofs.serving.serve_lines.Goals as goal

pub returns-clause-conversation : goal.returns-clause-conversation
returns-clause-conversation g c =
    conversation_along state_in (λ old number line reply new. AnswersLine (state_in old) number line reply (state_in new)) AnswersLine (λ old number line reply new is. is) c.args.lines.now c.args.number.now _ _ c.converse.result c.converse.new.service c.converse.new.number c.converse.ensures.conversation
