use Rattle.kept_places.proofs.Prelude.{◌≡◌, ◌∙◌, arith, rules, sym, key_of}
use Rattle.kept_places.proofs.Orders.{by_key}
use Rattle.kept_places.proofs.Entries.{found, lower_half, missed, upper_half}
use Rattle.kept_places.proofs.table.Table.place_of.Goals as goal

pub loop-low-preserved-in-Less : goal.loop-low-preserved-in-Less
loop-low-preserved-in-Less c =
    lower_half c.args.self.now (key_of c.args.key) c.loop-low.low c.loop-low.high _ _ c.len-high.ensures.rising c.loop-low.invariant (omega arith) (omega arith) c.entry-found.ensures (sym (by_key c.args.key c.entry-found.result.key) ∙ (sym c.cmp.ensures ∙ c.in-Less.is))

pub returns-in-Equal : goal.returns-in-Equal
returns-in-Equal c =
    sym (found c.args.self.now (key_of c.args.key) _ _ c.entry-found.result.place c.len-high.ensures.rising c.entry-found.ensures (sym (by_key c.args.key c.entry-found.result.key) ∙ (sym c.cmp.ensures ∙ c.in-Equal.is)))

pub loop-low-preserved : goal.loop-low-preserved
loop-low-preserved c =
    upper_half c.args.self.now (key_of c.args.key) c.loop-low.low c.loop-low.high _ _ c.len-high.ensures.rising c.loop-low.invariant (omega arith) (omega arith) c.entry-found.ensures (sym (by_key c.args.key c.entry-found.result.key) ∙ (sym c.cmp.ensures ∙ c.in-Greater.is))

pub returns : goal.returns
returns c = sym (missed c.args.self.now (key_of c.args.key) c.loop-low.low c.loop-low.high c.len-high.ensures.rising c.loop-low-test.false c.loop-low.invariant)
