use Rattle.configuration_text.proofs.Prelude.{◌≡◌, drop, slice_get, flat_map, driver_of_net, drivers_as}
use Rattle.configuration_text.proofs.global_lines.driver_of.Given as goal

abbrev pub invariant-loop-laid : goal.invariant-loop-laid
invariant-loop-laid l = slice_get (flat_map (λ laid. drivers_as l.design.arch.now l.design.layout.now laid l.net laid.block) (drop l.laid-index l.design.layout.now.blocks)) 0 ≡ driver_of_net l.design.arch.now l.design.layout.now l.net
