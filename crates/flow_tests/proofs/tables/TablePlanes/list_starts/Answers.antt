use Rattle.flow_tests.proofs.Prelude.{◌++◌, List, ap, ◌∙◌, Start, pairs}
use Rattle.flow_tests.proofs.Pairs.{the_starts}
use Rattle.flow_tests.proofs.tables.TablePlanes.list_starts.Goals as goal

pub returns : goal.returns
returns c =
    let t = c.args.self.now in
    the_starts (pairs t.ends.items t.costs.items) t.goal c.args._track c.args._most t.starts.items c.extend_from_slice.new.self.items (c.in_ok-extend_from_slice.ensures.items ∙ ap (λ (xs : List Start). xs ++ c.deref.result.now) c.clear.ensures.items ∙ c.deref.ensures.value) t.starts_near
