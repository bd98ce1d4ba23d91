-- The places that `Places` lists.
use Rattle.std.specs.Prelude.{List}
use Rattle.grid.specs.declared.place.Place.{Place}
use Rattle.grid.specs.declared.place.Places.{Places}
use Rattle.grid.specs.Places.{places_of}

-- the places in order
abbrev pub places_in_order : Places → List Place
places_in_order places = places_of places.strip places.kind
