-- Private: a table with many owners, or no table.
use Rattle.std.specs.Prelude.{[], Option, Some, None}
use Rattle.std.specs.Arc.{arc_value}
use Rattle.std.specs.declared.sync.Arc.{Arc}
use Rattle.kept_places.specs.Kept.{KeptPlaces}

abbrev pub shared_value : {A : Type 0} → Option (Arc KeptPlaces A) → KeptPlaces
shared_value None = []
shared_value (Some table) = arc_value table
