use Rattle.live_log.proofs.Prelude.{ap, drop, map, ◌+◌, line_of, questions_to, words_asked}
use Rattle.live_log.proofs.AlikeSteps.{alike_more, drop_place}
use Rattle.live_log.proofs.questions.first_differing.Goals as goal

pub loop-number-preserved : goal.loop-number-preserved
loop-number-preserved g c =
    let rest = drop (c.loop-number.number + 1) c.args.names.now in
    record {
      whole_ready = c.in_ok-answer_words_alike.ensures.whole;
      short_ready = c.in_ok-answer_words_alike.ensures.short;
      alike = alike_more c.loop-number.whole c.loop-number.short c.answer_words_alike.new.whole c.answer_words_alike.new.short (questions_to (drop c.loop-number.number c.args.names.now)) (map (line_of c.name-name.result.now) words_asked) (questions_to rest) c.loop-number.invariant.alike
          (ap questions_to (drop_place c.args.names.now c.loop-number.number c.name-name.result.now c.name-name.ensures))
          (c.in_ok-answer_words_alike.ensures.alike c.if-not-branch.false);
    }
