use Rattle.live_run.proofs.Prelude.{Option, subst, sym, is_some, state_in, Outcome, outcome_of, RunsFrom, past_of}
use Rattle.live_run.proofs.RunLemmas.{closes, goes_on, retell_fails, stops}
use Rattle.live_run.proofs.serving.serve_past.Goals as goal

pub returns-in-Ok : goal.returns-in-Ok
returns-in-Ok g c =
    let before = g.D.Dialogue.view c.args.dialogue.now in
    let after = g.D.Dialogue.view c.talk.new.dialogue in
    let O : Outcome → Type 0 = λ outcome. RunsFrom (state_in c.args.watched.now.lines) (is_some c.args.past) (past_of g.P.Source.remaining c.args.past) c.args.line.now.told before after outcome in
    let P : Option g.row.P.Denot → Type 0 = λ past. RunsFrom (state_in c.args.watched.now.lines) (is_some past) (past_of g.P.Source.remaining past) c.args.line.now.told before after (outcome_of c.talk.result) in
    subst O (sym c.of.ensures)
    (subst P (sym c.in-Some.is)
    (goes_on (g.P.Source.remaining c.in-Some.past) c.args.line.now.told (state_in c.args.watched.now.lines) (state_in c.retell.new.lines) (state_in c.talk.new.watched.lines) c.retell.new.number c.talk.new.number before (g.D.Dialogue.view c.retell.new.dialogue) after c.talk.result c.in-Ok.ensures.retells c.talk.ensures.conversation))

pub returns-in-Done : goal.returns-in-Done
returns-in-Done g c =
    let before = g.D.Dialogue.view c.args.dialogue.now in
    let after = g.D.Dialogue.view c.close_texts.new.dialogue in
    let P : Option g.row.P.Denot → Type 0 = λ past. RunsFrom (state_in c.args.watched.now.lines) (is_some past) (past_of g.P.Source.remaining past) c.args.line.now.told before after c.close_texts.result in
    subst P (sym c.in-None.is)
    (closes c.args.line.now.told (state_in c.args.watched.now.lines) (state_in c.talk-in-None.new.watched.lines) c.talk-in-None.new.number before (g.D.Dialogue.view c.talk-in-None.new.dialogue) after c.close_texts.result c.in-Done.ensures.conversation c.close_texts.ensures)

pub returns-in_default : goal.returns-in_default
returns-in_default g c =
    let before = g.D.Dialogue.view c.args.dialogue.now in
    let after = g.D.Dialogue.view c.talk-in-None.new.dialogue in
    let O : Outcome → Type 0 = λ outcome. RunsFrom (state_in c.args.watched.now.lines) (is_some c.args.past) (past_of g.P.Source.remaining c.args.past) c.args.line.now.told before after outcome in
    let P : Option g.row.P.Denot → Type 0 = λ past. RunsFrom (state_in c.args.watched.now.lines) (is_some past) (past_of g.P.Source.remaining past) c.args.line.now.told before after (outcome_of c.talk-in-None.result) in
    subst O (sym c.of-in_default.ensures)
    (subst P (sym c.in-None.is)
    (stops c.args.line.now.told (state_in c.args.watched.now.lines) (state_in c.talk-in-None.new.watched.lines) c.talk-in-None.new.number before after c.talk-in-None.result c.in_default.not-Done c.talk-in-None.ensures.conversation))

pub returns-in-Err : goal.returns-in-Err
returns-in-Err g c =
    let before = g.D.Dialogue.view c.args.dialogue.now in
    let after = g.D.Dialogue.view c.retell.new.dialogue in
    let P : Option g.row.P.Denot → Type 0 = λ past. RunsFrom (state_in c.args.watched.now.lines) (is_some past) (past_of g.P.Source.remaining past) c.args.line.now.told before after c.in-Err.outcome in
    subst P (sym c.in-Some.is)
    (retell_fails (g.P.Source.remaining c.in-Some.past) c.args.line.now.told (state_in c.args.watched.now.lines) (state_in c.retell.new.lines) c.retell.new.number before after c.in-Err.outcome c.in-Err.ensures.retells)
