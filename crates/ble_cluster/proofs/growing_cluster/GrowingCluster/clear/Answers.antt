use Rattle.ble_cluster.proofs.Prelude.{arith, refl, ap, ◌∙◌}
use Rattle.ble_cluster.proofs.GrowingLemmas.{growth_none}
use Rattle.ble_cluster.proofs.growing_cluster.GrowingCluster.clear.Goals as goal

pub returns-clause-growth : goal.returns-clause-growth
returns-clause-growth c =
    growth_none _ _ _ c.clear.ensures.items
    (c.clear-2.ensures ∙ ap (λ count. record { count = count; nets = _ }) c.requires.reads)
    (c.clear-3.ensures ∙ ap (λ count. record { count = count; nets = _ }) c.requires.drives)
    refl refl (omega (arith, c.clear-4.ensures.count, c.requires.gains)) c.clear-4.ensures.none
