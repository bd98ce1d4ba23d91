use Rattle.live_log.proofs.Prelude.{◌≡◌, ◌∷◌, ◌<◌, ◌+◌, length, subst, refl, rules, arith, common_steps, physical_lines, NotesLine}
use Rattle.live_log.proofs.ChoiceSteps.{chosen_ok, marks_all, marks_line, marks_none}
use Rattle.live_log.proofs.ServingSteps.{leads_all, leads_line, leads_none, none_left, on_ok}
use Rattle.live_log.proofs.shortening.flags_of.Goals as goal

pub loop-rest-init : goal.loop-rest-init
loop-rest-init g c = record {
  ready = c.requires;
  few = search rules;
  marked = marks_none g.A.Answers.answers c.args.service.now (physical_lines c.args.log.now) _ c.new-keeper.ensures;
  served = leads_none g.A.Answers.answers c.args.service.now 0 (physical_lines c.args.log.now);
}

pub loop-rest-preserved : goal.loop-rest-preserved
loop-rest-preserved g c =
    let lines : physical_lines c.loop-rest.rest.now ≡ c.split_line.result.0.now ∷ physical_lines c.split_line.result.1.now = c.split_line.ensures.lines (grind (arith, common_steps)) in
    let less : length c.split_line.result.1.now < length c.loop-rest.rest.now = grind (arith, common_steps) in
    record {
      ready = c.in_ok-reply.ensures.ready;
      few = omega (arith, less, c.loop-rest.invariant.few);
      marked = marks_line c.loop-rest.service c.answer.new.self c.loop-rest.number c.loop-rest.keeper.marks.lines.items c.note.new.self.marks.lines.items (physical_lines c.loop-rest.rest.now) c.split_line.result.0.now c.kept_bytes-line.result.now c.in_ok-reply.reply.items (physical_lines c.split_line.result.1.now) c.loop-rest.invariant.marked lines c.kept_bytes-line.ensures c.in_ok-reply.ensures.answers
          (subst (λ reply. NotesLine c.loop-rest.keeper.marks.lines.items c.kept_bytes-line.result.now reply c.note.new.self.marks.lines.items) c.as_slice.ensures.value c.in_ok-note.ensures);
      served = leads_line c.loop-rest.service c.answer.new.self c.loop-rest.number (physical_lines c.loop-rest.rest.now) c.split_line.result.0.now c.in_ok-reply.reply.items (physical_lines c.split_line.result.1.now) c.loop-rest.invariant.served lines
          (subst (λ line. g.A.Answers.answers c.loop-rest.service (c.loop-rest.number + 1) line c.in_ok-reply.reply.items c.answer.new.self) c.kept_bytes-line.ensures c.in_ok-reply.ensures.answers);
    }

pub returns-clause-chosen : goal.returns-clause-chosen
returns-clause-chosen g c =
    chosen_ok g.A.Answers.answers c.args.service.now (physical_lines c.args.log.now) c.loop-rest.keeper.marks.lines.items c.loop-rest.service c.kept_flags.result
    (marks_all c.loop-rest.service c.loop-rest.number c.loop-rest.keeper.marks.lines.items _ c.loop-rest.invariant.marked (none_left physical_lines refl c.loop-rest.rest.now (search rules)))
    c.kept_flags.ensures

pub returns-clause-served : goal.returns-clause-served
returns-clause-served g c = on_ok c.kept_flags.result (leads_all c.loop-rest.service c.loop-rest.number _ c.loop-rest.invariant.served (none_left physical_lines refl c.loop-rest.rest.now (search rules)))
