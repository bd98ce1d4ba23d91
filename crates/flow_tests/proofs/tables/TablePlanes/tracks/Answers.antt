use Rattle.flow_tests.proofs.Prelude.{length, places_of, pairs}
use Rattle.flow_tests.proofs.Pairs.{pairs_lawful, places_within, is_family}
use Rattle.flow_tests.proofs.tables.TablePlanes.tracks.Goals as goal

pub returns-clause-lawful : goal.returns-clause-lawful
returns-clause-lawful c =
    let t = c.args.self.now in
    is_family (pairs t.ends.items t.costs.items) (places_of t.starts.items) t.goal (pairs_lawful t.ends.items t.costs.items t.few t.ends_within t.cost_from t.cost_to)
    (places_within (length t.costs.items) t.starts.items t.starts_within) t.goal_within t.few
