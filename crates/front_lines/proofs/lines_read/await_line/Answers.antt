use Rattle.front_lines.proofs.Prelude.{◌≡◌, Bool, Ok, false, rules, subst, true, line_of, ReadsOn, to_come}
use Rattle.front_lines.proofs.ReadLemmas.{and_line, and_pause}
use Rattle.front_lines.proofs.lines_read.await_line.Goals as goal

pub returns-in-Ok-true : goal.returns-in-Ok-true
returns-in-Ok-true g c =
    let R : Bool → Type 0 = λ b. ReadsOn (to_come c.loop.feed (g.D.Dialogue.view c.loop.dialogue)) (to_come c.read_line.new.feed (g.D.Dialogue.view c.read_line.new.dialogue)) (line_of c.loop.feed) (line_of c.read_line.new.feed) (Ok b) in
    let is : c.in-Ok-true.field-0 ≡ true = search rules in
    and_line (to_come c.args.feed.now (g.D.Dialogue.view c.args.dialogue.now)) (to_come c.loop.feed (g.D.Dialogue.view c.loop.dialogue)) (to_come c.read_line.new.feed (g.D.Dialogue.view c.read_line.new.dialogue)) (line_of c.args.feed.now) (line_of c.loop.feed) (line_of c.read_line.new.feed) c.loop.invariant (subst R is c.in-Ok-true.ensures.reads)

pub loop-preserved : goal.loop-preserved
loop-preserved g c =
    let R : Bool → Type 0 = λ b. ReadsOn (to_come c.loop.feed (g.D.Dialogue.view c.loop.dialogue)) (to_come c.read_line.new.feed (g.D.Dialogue.view c.read_line.new.dialogue)) (line_of c.loop.feed) (line_of c.read_line.new.feed) (Ok b) in
    let is : c.in-Ok-false.field-0 ≡ false = search rules in
    and_pause (to_come c.args.feed.now (g.D.Dialogue.view c.args.dialogue.now)) (to_come c.loop.feed (g.D.Dialogue.view c.loop.dialogue)) (to_come c.read_line.new.feed (g.D.Dialogue.view c.read_line.new.dialogue)) (line_of c.args.feed.now) (line_of c.loop.feed) (line_of c.read_line.new.feed) c.loop.invariant (subst R is c.in-Ok-false.ensures.reads)
