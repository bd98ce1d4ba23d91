-- Private: the values of the program's entries.
use Rattle.std.specs.Prelude.{List, map}
use Rattle.cluster.specs.Keys as specs
use Rattle.cluster.specs.declared.block.BlockKey.{BlockKey}
use Rattle.grid.specs.declared.place.Place.{Place}
use Rattle.kept_places.specs.declared.table.KeptPlace.{KeptPlace}

abbrev pub key_of : BlockKey → specs.BlockKey
key_of key = record { kind = key.kind; name = key.name.now }

abbrev pub entry_of : KeptPlace → specs.BlockKey × Place
entry_of kept = (key_of kept.key, kept.place)

abbrev pub entries_of : List KeptPlace → List (specs.BlockKey × Place)
entries_of entries = map entry_of entries
