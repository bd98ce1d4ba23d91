-- Private: the progress of a packing.
use Rattle.std.specs.Prelude.{◌≡◌}
use Rattle.one_user.specs.Prelude.{Progress, Packing, Packed, Placing, Routing, Routed, GaveUp, NoPath}
use Rattle.one_user.specs.declared.figures.PackedCounts.{PackedCounts}

-- these are the counts
abbrev pub HasCounts : Progress → PackedCounts → Type 0
HasCounts (Packed clusters pads nets) counts = counts ≡ record { clusters = clusters; pads = pads; nets = nets }
HasCounts progress counts = ⊥

-- it is the progress of a whole packing
abbrev pub IsWhole : Progress → Type 0
IsWhole (Packed clusters pads nets) = Unit {0}
IsWhole progress = ⊥
