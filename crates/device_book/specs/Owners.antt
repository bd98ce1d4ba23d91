-- Who owns which resource of a device.
use Rattle.std.specs.Prelude.{ℕ, ◌≡◌, ◌+◌, ◌*◌, ◌<◌, ◌≤◌, ◌⊎◌, List, length, map, replicate, All, Bool, true, ◌&&◌, nat_le, nat_lt, max, Option, Some, None, if◌then◌else◌, slice_index_or, AllPairs, Contains, ◌↔◌}
use Rattle.arch_file.specs.declared.arch.TheConstants.{MAX_PINS}
use Rattle.grid.specs.declared.TheConstants.{MAX_COLUMNS, MAX_ROWS}
use Rattle.arch_file.specs.declared.arch.Arch.{Arch}
use Rattle.arch_file.specs.Arch.{IsArch}
use Rattle.rr_graph.specs.declared.resource.Resource.{Resource}
use Rattle.rr_graph.specs.Resources.{IsEarlier, has, moved_resource, resource_rank}
use Rattle.device_book.specs.declared.book.Extent.{Extent}
use Rattle.device_book.specs.declared.book.Owned.{Owned}

-- each resource's owner, in node order
pub record Owners : Type 0 where
  pub extent : Extent
  pub owners : List (Option ℕ)

-- the limits of a device's resources
abbrev pub extent_of : Arch → ℕ → ℕ → Extent
extent_of arch columns rows = record { columns = columns; rows = rows; numbers = max (max (length arch.pins) arch.tracks) arch.io_rat }

-- the book has a place for the resource
abbrev pub in_book : Extent → Resource → Bool
in_book extent resource = nat_le resource.x extent.columns && (nat_le resource.y (extent.rows + 1) && nat_lt resource.n extent.numbers)

-- the place of a resource: by column, kind, row and number, as in node order
abbrev pub number_of : Extent → Resource → ℕ
number_of extent resource = ((resource.x * 5 + resource_rank resource.kind) * (extent.rows + 2) + resource.y) * extent.numbers + resource.n

-- the number of places
abbrev pub size_of : Extent → ℕ
size_of extent = (extent.columns + 1) * 5 * (extent.rows + 2) * extent.numbers

-- nobody owns anything
abbrev pub no_owners : Extent → Owners
no_owners extent = record { extent = extent; owners = replicate (size_of extent) None }

-- who owns a resource
abbrev pub owner_of : Owners → Resource → Option ℕ
owner_of book resource = if in_book book.extent resource then slice_index_or book.owners (number_of book.extent resource) None else None

abbrev pub IsFree : Owners → Resource → Type 0
IsFree book resource = owner_of book resource ≡ None

-- the book has a place for each of these, moved `offset` columns to the right
abbrev pub StandIn : Extent → ℕ → List Resource → Type 0
StandIn extent offset resources = All (λ resource. in_book extent (moved_resource offset resource) ≡ true) resources

-- the book has a place for each of these, and nobody owns them
pub record CanClaim (book : Owners) (offset : ℕ) (resources : List Resource) : Type 0 where
  pub there : StandIn book.extent offset resources
  pub free : All (IsFree book) (map (moved_resource offset) resources)

-- exactly those now have that owner; the owners of all others are unchanged
abbrev pub AreOwned : Owners → List Resource → Option ℕ → Owners → Type 0
AreOwned old resources owner new = (new.extent ≡ old.extent) × ((resource : Resource) → owner_of new resource ≡ (if has resources resource then owner else owner_of old resource))

-- exactly those become the tenancy's
abbrev pub Claims : Owners → ℕ → List Resource → Owners → Type 0
Claims old id resources new = AreOwned old resources (Some id) new

-- exactly those become nobody's
abbrev pub Releases : Owners → List Resource → Owners → Type 0
Releases old resources new = AreOwned old resources None new

-- the tenancy owns exactly those
abbrev pub OwnsJust : Owners → ℕ → List Resource → Type 0
OwnsJust book id resources = (resource : Resource) → (owner_of book resource ≡ Some id) ↔ (has resources resource ≡ true)

-- nobody else owns the resource
abbrev pub IsNoOneElses : Owners → ℕ → Resource → Type 0
IsNoOneElses book id resource = (owner_of book resource ≡ None) ⊎ (owner_of book resource ≡ Some id)

-- these are all that the tenancy owns at the offset `from`, the book has a place for each of them
-- at both offsets, and nobody else owns those at `to`
pub record CanShift (book : Owners) (id from to : ℕ) (resources : List Resource) : Type 0 where
  pub left : StandIn book.extent from resources
  pub taken : StandIn book.extent to resources
  pub owned : OwnsJust book id (map (moved_resource from) resources)
  pub free : All (IsNoOneElses book id) (map (moved_resource to) resources)

-- the tenancy leaves some resources and takes others; the owners of all others are unchanged
abbrev pub Shifts : Owners → ℕ → List Resource → List Resource → Owners → Type 0
Shifts old id left taken new = (new.extent ≡ old.extent) × ((resource : Resource) → owner_of new resource ≡ (if has taken resource then Some id else if has left resource then None else owner_of old resource))

-- the list has exactly the owned resources, each with its owner, in node order
pub record ListsOwners (book : Owners) (list : List Owned) : Type 0 where
  pub in_order : AllPairs (λ a b. IsEarlier a.resource b.resource) list
  pub exact : (owned : Owned) → Contains list owned ↔ (owner_of book owned.resource ≡ Some owned.id)

-- the largest device: 256 columns and 64 rows
pub record KeepsLimits (arch : Arch) (columns rows : ℕ) : Type 0 where
  pub lawful : IsArch arch
  pub wide : columns ≤ MAX_COLUMNS
  pub high : rows ≤ MAX_ROWS

-- the largest extent: 256 columns, 64 rows, and numbers up to 145
pub record IsExtent (extent : Extent) : Type 0 where
  pub columns : extent.columns ≤ MAX_COLUMNS
  pub rows : extent.rows ≤ MAX_ROWS
  pub numbers : extent.numbers ≤ MAX_PINS

-- private: the resource has a place
pub record HasPlace (extent : Extent) (resource : Resource) : Type 0 where
  pub small : IsExtent extent
  pub there : in_book extent resource ≡ true

-- private: that is one of the places
pub record IsPlace (extent : Extent) (place : ℕ) : Type 0 where
  pub small : IsExtent extent
  pub within : place < size_of extent

-- the table has an entry for each place
pub record IsBook (extent : Extent) (owners : List (Option ℕ)) : Type 0 where
  pub small : IsExtent extent
  pub long : length owners ≡ size_of extent
