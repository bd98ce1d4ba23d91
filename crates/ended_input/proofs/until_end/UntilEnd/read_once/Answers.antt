use Rattle.std.proofs.Common.{Bool, true, Some, subst, sym}
use Rattle.std.specs.Prelude.{option_map}
use Rattle.ended_input.specs.UntilEnd.{Gives, left_of}
use Rattle.ended_input.proofs.UntilEndLemmas.{gives_end}
use Rattle.ended_input.proofs.until_end.UntilEnd.read_once.Goals as goal

pub returns-then-count-eq0-clause-given : goal.returns-then-count-eq0-clause-given
returns-then-count-eq0-clause-given g c =
    let s = c.args.self.now in
    let P : Bool → Type 0 = λ o. Gives (option_map (left_of o s.at_start s.held.count) (g.S.Source.remaining s.source)) (option_map (left_of true s.at_start s.held.count) (g.S.Source.remaining c.fill.new.source)) (Some s.held.count) c.fill.new.buffer in
    subst P (sym c.requires.over) (gives_end s.at_start s.held.count c.in_ok-count.count _ _ c.fill.new.buffer s.held.short c.if-count-eq0.true c.in_ok-count.ensures.ok)
