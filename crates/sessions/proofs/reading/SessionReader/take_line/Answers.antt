use Rattle.sessions.proofs.Prelude.{◌≡◌, Some, false, rules, ends_text}
use Rattle.sessions.proofs.ReadingLemmas.{continued}
use Rattle.sessions.proofs.reading.SessionReader.take_line.Goals as goal

pub returns-in_ok-with_line-in-Some-clause-given : goal.returns-in_ok-with_line-in-Some-clause-given
returns-in_ok-with_line-in-Some-clause-given c =
    let ends : ends_text c.args.line.now ≡ false = search rules in
    let was : c.args.self.now ≡ Some c.in-Some.text = search rules in
    rw was (continued c.in-Some.text c.args.line.now c.in_ok-with_line-in-Some.field-0 ends (rw (← c.without_cr-line.ensures) c.in_ok-with_line-in-Some.ensures))
