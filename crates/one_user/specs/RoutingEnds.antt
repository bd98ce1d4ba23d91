-- How the routing of placed blocks ends.
use Rattle.std.specs.Prelude.{◌≡◌, ◌+◌, List}
use Rattle.one_user.specs.Prelude.{Basis, IsEnd, More, wiring_of, IsAfter, RoutingState, Net, IterEnd, Again, Done}
use Rattle.pathfinder.specs.declared.routing.IterEnd.TheVariants.{GaveUp, NoPath}
use Rattle.one_user.specs.declared.routing_end.LastIteration.{LastIteration}

-- no iteration follows
abbrev pub IsOver : IterEnd → Type 0
IsOver (Again routing) = ⊥
IsOver (Done routes) = Unit {0}
IsOver (GaveUp routing) = Unit {0}
IsOver (NoPath net) = Unit {0}

-- it ended with routes
abbrev pub IsRoutes : IterEnd → Type 0
IsRoutes (Again routing) = ⊥
IsRoutes (Done routes) = Unit {0}
IsRoutes (GaveUp routing) = ⊥
IsRoutes (NoPath net) = ⊥

-- the result of the last iteration of a routing of these nets
pub record IsRoutingEnd (basis : Basis) (nets : List Net) (end : IterEnd) : Type 0 where
  pub before : RoutingState
  pub nets_kept : before.nets ≡ nets
  pub going : IsAfter (wiring_of basis) before More
  pub is_end : IsEnd basis before end
  pub over : IsOver end

-- the last iteration of a routing of these nets, with its number
abbrev pub IsLastIteration : Basis → List Net → LastIteration → Type 0
IsLastIteration basis nets last = (is : IsRoutingEnd basis nets last.end) × (last.number ≡ is.before.iterations + 1)
