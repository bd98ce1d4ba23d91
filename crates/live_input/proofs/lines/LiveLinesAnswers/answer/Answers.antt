use Rattle.live_input.proofs.TakenLemmas.{reply_of}
use Rattle.live_input.proofs.lines.LiveLinesAnswers.answer.Goals as goal

pub returns-in-Ok-clause-answers : goal.returns-in-Ok-clause-answers
returns-in-Ok-clause-answers c =
    let taken = c.in-Ok.ensures.takes in
    record {
      tellings = taken.tellings;
      told = taken.told;
      takes = taken.takes;
      reply_is = reply_of _ _ _ _ c.new-reply.ensures.bytes c.into_bytes.ensures taken.writes;
    }
