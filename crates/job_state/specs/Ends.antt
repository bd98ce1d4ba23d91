-- How a routing ended.
use Rattle.std.specs.Prelude.{◌≡◌, ◌<◌, ⊤, Ok, length}
use Rattle.job_state.specs.Prelude.{block_nets, PackedCircuit}
use Rattle.job_state.specs.declared.ending.RoutingEnd.{RoutingEnd}
use Rattle.job_state.specs.declared.ending.RoutingEnd.TheVariants.{Routed, GaveUp, NoPath}
use Rattle.job_state.specs.declared.sources.Sources.{Sources}
use Rattle.job_state.specs.declared.work.Work.TheVariants as work
use Rattle.job_state.specs.JobValue.{end_value}
use Rattle.job_state.specs.RoutedCircuits.{RoutedCircuit}

-- a routing of these sources ends like this
abbrev pub IsEndOf : Sources → RoutingEnd → Type 0
IsEndOf sources (Routed routes) = (routed : RoutedCircuit) × (end_value sources ≡ Ok (work.Routed routed)) × (routes.now ≡ routed.routes)
IsEndOf sources GaveUp = end_value sources ≡ Ok work.GaveUp
IsEndOf sources (NoPath net) = end_value sources ≡ Ok (work.NoPath net)

-- the routes are of all nets of the packed circuit; a net without a path is one of these nets
abbrev pub IsOfNets : PackedCircuit → RoutingEnd → Type 0
IsOfNets packed (Routed routes) = length routes.now ≡ length (block_nets packed)
IsOfNets packed GaveUp = ⊤
IsOfNets packed (NoPath net) = net < length (block_nets packed)
