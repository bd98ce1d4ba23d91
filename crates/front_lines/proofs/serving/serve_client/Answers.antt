use Rattle.front_lines.proofs.Prelude.{◌≡◌, ℕ, List, Bool, Ok, false, rules, true, refl, subst, sym, ◌∙◌, ahead_of, line_of, HasLine, ReadsOn, to_come}
use Rattle.front_lines.proofs.ServedLemmas.{keeps_on, progress_none, progress_turn, serves_all, stops_between, stops_turn}
use Rattle.front_lines.proofs.serving.serve_client.Goals as goal

pub loop-init : goal.loop-init
loop-init g c = record {
  speaker = refl;
  begins = c.requires.line;
  progress = progress_none c.args.service.now.speaker c.args.text.now (g.D.Dialogue.view c.args.client.now).remaining (g.Q.Requests.contents c.args.service.now.requests) (g.F.Dialogue.view c.args.service.now.replies).remaining (g.D.Dialogue.view c.args.client.now).output (ahead_of c.args.feed.now) (ahead_of c.args.service.now.feed) (line_of c.args.service.now.feed) c.requires.ahead c.requires.replies_ahead c.requires.replies_line;
}

pub returns-in-Ok-false-clause-served : goal.returns-in-Ok-false-clause-served
returns-in-Ok-false-clause-served g c = stops_between _ _ _ _ _ _ _ _ _ _ _ _ c.loop.invariant.progress (g.D.Dialogue.view c.read_line.new.dialogue).output c.read_line.ensures.output

pub returns-in-Ok-false-clause-all : goal.returns-in-Ok-false-clause-all
returns-in-Ok-false-clause-all g c =
    let R : Bool → Type 0 = λ b. ReadsOn (to_come c.loop.feed (g.D.Dialogue.view c.loop.client)) (to_come c.read_line.new.feed (g.D.Dialogue.view c.read_line.new.dialogue)) (line_of c.loop.feed) (line_of c.read_line.new.feed) (Ok b) in
    let is : c.in-Ok-false.field-0 ≡ false = search rules in
    serves_all _ _ _ _ _ _ _ _ _ _ _ _ c.loop.invariant.progress (to_come c.read_line.new.feed (g.D.Dialogue.view c.read_line.new.dialogue)) (line_of c.loop.feed) (line_of c.read_line.new.feed) (g.D.Dialogue.view c.read_line.new.dialogue).output (subst R is c.in-Ok-false.ensures.reads) c.read_line.ensures.output

pub returns-in-Err-clause-served : goal.returns-in-Err-clause-served
returns-in-Err-clause-served g c = stops_between _ _ _ _ _ _ _ _ _ _ _ _ c.loop.invariant.progress (g.D.Dialogue.view c.read_line.new.dialogue).output c.read_line.ensures.output

pub returns-in_err-take_turn-clause-served : goal.returns-in_err-take_turn-clause-served
returns-in_err-take_turn-clause-served g c =
    let R : Bool → Type 0 = λ b. ReadsOn (to_come c.loop.feed (g.D.Dialogue.view c.loop.client)) (to_come c.read_line.new.feed (g.D.Dialogue.view c.read_line.new.dialogue)) (line_of c.loop.feed) (line_of c.read_line.new.feed) (Ok b) in
    let is : c.in-Ok-true.field-0 ≡ true = search rules in
    let now = to_come c.loop.feed (g.D.Dialogue.view c.loop.client) in
    let next = to_come c.read_line.new.feed (g.D.Dialogue.view c.read_line.new.dialogue) in
    let L : List ℕ → Type 0 = λ line. HasLine now next (line_of c.loop.feed) line in
    stops_turn _ _ _ _ _ _ _ _ _ _ _ _ c.loop.invariant.progress c.loop.service.speaker next (g.Q.Requests.contents c.take_turn.new.service.requests) (to_come c.take_turn.new.service.feed (g.F.Dialogue.view c.take_turn.new.service.replies)) (line_of c.loop.feed) c.line.result.now (line_of c.take_turn.new.service.feed) (g.D.Dialogue.view c.read_line.new.dialogue).output (g.D.Dialogue.view c.take_turn.new.client).output c.loop.invariant.speaker c.loop.invariant.begins (subst L (sym c.line.ensures) (subst R is c.in-Ok-true.ensures.reads)) c.read_line.ensures.output c.in_err-take_turn.ensures.err

pub loop-preserved : goal.loop-preserved
loop-preserved g c =
    let R : Bool → Type 0 = λ b. ReadsOn (to_come c.loop.feed (g.D.Dialogue.view c.loop.client)) (to_come c.read_line.new.feed (g.D.Dialogue.view c.read_line.new.dialogue)) (line_of c.loop.feed) (line_of c.read_line.new.feed) (Ok b) in
    let is : c.in-Ok-true.field-0 ≡ true = search rules in
    let now = to_come c.loop.feed (g.D.Dialogue.view c.loop.client) in
    let next = to_come c.read_line.new.feed (g.D.Dialogue.view c.read_line.new.dialogue) in
    let L : List ℕ → Type 0 = λ line. HasLine now next (line_of c.loop.feed) line in
    record {
      speaker = c.in_ok-take_turn.ensures.speaker ∙ c.loop.invariant.speaker;
      begins = c.begin_line.ensures.line;
      progress = progress_turn _ _ _ _ _ _ _ _ _ _ _ _ c.loop.invariant.progress c.loop.service.speaker next (to_come c.begin_line.new.self (g.D.Dialogue.view c.take_turn.new.client)) (g.Q.Requests.contents c.take_turn.new.service.requests) (to_come c.take_turn.new.service.feed (g.F.Dialogue.view c.take_turn.new.service.replies)) (line_of c.loop.feed) c.line.result.now (line_of c.take_turn.new.service.feed) (g.D.Dialogue.view c.read_line.new.dialogue).output (g.D.Dialogue.view c.take_turn.new.client).output (g.D.Dialogue.view c.read_line.new.dialogue).remaining (g.D.Dialogue.view c.take_turn.new.client).remaining c.take_turn.new.text c.loop.invariant.speaker c.loop.invariant.begins (subst L (sym c.line.ensures) (subst R is c.in-Ok-true.ensures.reads)) c.read_line.ensures.output c.in_ok-take_turn.ensures.ok
          (keeps_on (g.D.Dialogue.view c.read_line.new.dialogue).remaining (g.D.Dialogue.view c.take_turn.new.client).remaining (ahead_of c.read_line.new.feed) (ahead_of c.begin_line.new.self) c.begin_line.ensures.ahead c.in_ok-take_turn.ensures.ok.keeps) c.in_ok-take_turn.ensures.state;
    }
