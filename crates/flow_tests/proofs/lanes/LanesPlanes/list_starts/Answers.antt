use Rattle.flow_tests.proofs.Prelude.{◌∷◌, ◌++◌, [], List, ap, ◌∙◌, Start}
use Rattle.flow_tests.proofs.TwoLanes.{the_starts}
use Rattle.flow_tests.proofs.lanes.LanesPlanes.list_starts.Goals as goal

pub returns : goal.returns
returns c =
    the_starts c.args.self.now.dear c.args.self.now.factor c.args.self.now.cheap c.args._track c.args._most _
    (c.in_ok-push.ensures.items ∙ ap (λ (xs : List Start). xs ++ record { place = 0; ahead = 1 } ∷ []) c.clear.ensures.items)
