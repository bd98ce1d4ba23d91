use Rattle.configuration_text.proofs.Prelude.{◌∙◌, Some, None, sym, ap, Driver}
use Rattle.configuration_text.proofs.DriversIn.{cluster_driver}
use Rattle.configuration_text.proofs.global_lines.driver_in.Goals as goal

pub returns-in_ok-ble_driver-in-Some : goal.returns-in_ok-ble_driver-in-Some
returns-in_ok-ble_driver-in-Some c =
    ap (λ (driver : Driver). Some driver) c.in_ok-ble_driver-in-Some.ensures
    ∙ cluster_driver c.args.design.arch.now c.args.design.layout.now c.args.laid.now c.args.net c.in-Cluster.field-0 c.bles.result.now (Some c.in-Some.index) (sym c.block.ensures ∙ c.in-Cluster.is) c.bles.ensures (sym c.in-Some.is ∙ c.driving_index.ensures)

pub returns-in-None : goal.returns-in-None
returns-in-None c = cluster_driver c.args.design.arch.now c.args.design.layout.now c.args.laid.now c.args.net c.in-Cluster.field-0 c.bles.result.now None (sym c.block.ensures ∙ c.in-Cluster.is) c.bles.ensures (sym c.in-None.is ∙ c.driving_index.ensures)
