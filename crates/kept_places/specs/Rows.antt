-- Private: a table's rows.
use Rattle.std.specs.Prelude.{ℕ, ◌≤◌, List, map, length, IsTrue}
use Rattle.std.specs.FinMap.{is_sorted}
use Rattle.std.specs.List.{AllByRecursion}
use Rattle.cluster.specs.Keys.{BlockKey, key_order}
use Rattle.grid.specs.declared.place.Place.{Place}
use Rattle.rows.specs.Spans.{part_of}
use Rattle.kept_places.specs.declared.table.Row.{Row}
use Rattle.kept_places.specs.Kept.{KeptPlaces}

abbrev pub entry_at : List ℕ → Row → BlockKey × Place
entry_at names row = (record { kind = row.kind; name = part_of names row.name }, row.place)

abbrev pub entries_at : List ℕ → List Row → KeptPlaces
entries_at names rows = map (entry_at names) rows

-- each name's span lies within this number of bytes
abbrev pub AreNamed : ℕ → List Row → Type 0
AreNamed count rows = AllByRecursion (λ row. (row.name.start ≤ row.name.end) × (row.name.end ≤ count)) rows

pub record IsTable (names : List ℕ) (rows : List Row) : Type 0 where
  pub named : AreNamed (length names) rows
  pub rising : IsTrue (is_sorted key_order (entries_at names rows))
