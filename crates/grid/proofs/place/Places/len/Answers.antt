use Rattle.grid.proofs.Prelude.{◌∙◌, ◌*◌, sym, ap}
use Rattle.grid.proofs.Columns.{length-places_of}
use Rattle.grid.proofs.place.Places.len.Goals as goal

pub returns : goal.returns
returns c = ap (λ n. c.args.self.strip.width * n) c.column_len.ensures.count ∙ sym (length-places_of c.args.self.strip c.args.self.kind)
