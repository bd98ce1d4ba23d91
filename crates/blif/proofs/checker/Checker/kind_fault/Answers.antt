use Rattle.blif.proofs.Prelude.{◌∙◌, ap, sym, JoinedLine}
use Rattle.blif.proofs.checker.Checker.kind_fault.Goals as goal

pub returns-in-Clock-clause-least : goal.returns-in-Clock-clause-least
returns-in-Clock-clause-least c =
    let words = c.words-args.ensures ∙ ap (λ (line : JoinedLine). line.words) c.without_first-rest.ensures in
    rw (c.in-Clock.is, sym c.self.view_is, sym words) c.clock.ensures.least
