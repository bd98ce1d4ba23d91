-- Private: conditions for the start.
use Rattle.std.specs.Prelude.{ℕ, ◌≡◌, ◌+◌, ◌<◌, ◌≤◌, List, [], ◌∷◌, Option, Some, length, slice_index_or, None}
use Rattle.strip_place.specs.Prelude.{Strip, Kind, Logic, Pad, Fits, fit_of, IsStripSize, PackedCircuit, KeptPlaces}
use Rattle.strip_place.specs.Keeping.{AreKeptOn}
use Rattle.strip_place.specs.Sites.{IsSiteFor, site_count}

-- the number of blocks that need each kind of place
abbrev pub logic_in : List Kind → ℕ
logic_in [] = 0
logic_in (Logic ∷ kinds) = logic_in kinds + 1
logic_in (Pad ∷ kinds) = logic_in kinds

abbrev pub pads_in : List Kind → ℕ
pads_in [] = 0
pads_in (Logic ∷ kinds) = pads_in kinds
pads_in (Pad ∷ kinds) = pads_in kinds + 1

-- there are enough sites for all blocks
pub record HaveRoom (strip : Strip) (kinds : List Kind) : Type 0 where
  pub logic : logic_in kinds ≤ site_count strip Logic
  pub pads : pads_in kinds ≤ site_count strip Pad

-- each kept site is of its block's kind, and no two blocks keep the same site
pub record AreKeptSites (strip : Strip) (kinds : List Kind) (kept : List (Option ℕ)) : Type 0 where
  pub long : length kept ≡ length kinds
  pub by_kind : (block site : ℕ) → block < length kinds → slice_index_or kept block None ≡ Some site → IsSiteFor strip (slice_index_or kinds block Logic) site
  pub apart : (block other site : ℕ) → block < length kinds → other < length kinds → slice_index_or kept block None ≡ Some site → slice_index_or kept other None ≡ Some site → block ≡ other

-- the blocks can be given sites
pub record CanSeat (strip : Strip) (kinds : List Kind) (sites : List (Option ℕ)) : Type 0 where
  pub size : IsStripSize strip
  pub kept : AreKeptSites strip kinds sites
  pub room : HaveRoom strip kinds

-- the kept places are places of this strip
pub record CanKeep (strip : Strip) (places : KeptPlaces) : Type 0 where
  pub size : IsStripSize strip
  pub kept : AreKeptOn strip places

-- the packed circuit can start on this strip
pub record CanStart (strip : Strip) (packed : PackedCircuit) (places : KeptPlaces) : Type 0 where
  pub size : IsStripSize strip
  pub fits : fit_of strip packed ≡ Fits
  pub kept : AreKeptOn strip places
