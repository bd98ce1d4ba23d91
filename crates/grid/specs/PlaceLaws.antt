-- The places that a strip has.
use Rattle.std.specs.Prelude.{◌≡◌, ◌+◌, ◌<◌, ◌⊎◌}
use Rattle.arch_file.specs.Arch.{IsWithin}
use Rattle.grid.specs.declared.Strip.{Strip}
use Rattle.grid.specs.declared.place.Kind.{Kind}
use Rattle.grid.specs.declared.place.Kind.TheVariants.{Logic, Pad}
use Rattle.grid.specs.declared.place.Place.{Place}

-- a place for a logic block is in a row from 1 on and has subblock 0; a place for a pad is below
-- the first row or above the last, and its subblock is below io_rat
abbrev pub IsInRow : Strip → Kind → Place → Type 0
IsInRow strip Logic place = IsWithin 1 place.y strip.rows × (place.subblock ≡ 0)
IsInRow strip Pad place = ((place.y ≡ 0) ⊎ (place.y ≡ strip.rows + 1)) × (place.subblock < strip.io_rat)

-- the place is in a column of the strip, and in a row for its kind
pub record IsPlaceIn (strip : Strip) (kind : Kind) (place : Place) : Type 0 where
  pub column : IsWithin 1 place.x strip.width
  pub row : IsInRow strip kind place
