use Rattle.one_user.proofs.Prelude.{sym, subst, Writes, fullest_line}
use Rattle.one_user.proofs.table.write_fullest.Goals as goal

pub returns-in-Some : goal.returns-in-Some
returns-in-Some g c =
    subst (λ f. Writes g.W.Sink.contents g.W.Sink.has_failed c.args.sink.now c.write_named.new.sink (fullest_line c.args.tracks f) c.write_named.result) (sym c.in-Some.is) c.write_named.ensures
