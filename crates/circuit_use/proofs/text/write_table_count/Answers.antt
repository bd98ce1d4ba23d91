use Rattle.circuit_use.proofs.Prelude.{[], ◌∷◌, subst, concat, codes, decimal, Writes}
use Rattle.circuit_use.proofs.text.write_table_count.Goals as goal

pub returns : goal.returns
returns g c =
    subst (λ count. Writes g.W.Sink.contents g.W.Sink.has_failed c.args.sink.now c.write_parts.new.sink (concat (codes "use tables " ∷ decimal count ∷ codes ", by inputs" ∷ [])) c.write_parts.result) c.len-count.ensures c.write_parts.ensures
