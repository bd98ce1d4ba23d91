-- Private: the columns of a book, how many places of each are owned, and the owners listed column
-- by column.
use Rattle.std.specs.Prelude.{ℕ, ◌≡◌, ◌+◌, ◌*◌, ◌<◌, ◌≤◌, ◌↔◌, List, length, take, drop, Option, Some, is_some, slice_index, AllPairs, Contains}
use Rattle.std.specs.List.{count_by}
use Rattle.rr_graph.specs.Resources.{IsEarlier}
use Rattle.device_book.specs.declared.book.Extent.{Extent}
use Rattle.device_book.specs.declared.book.Owned.{Owned}
use Rattle.device_book.specs.Owners.{IsBook, Owners, number_of, owner_of}

-- the number of places in a column
abbrev pub column_size : Extent → ℕ
column_size extent = 5 * (extent.rows + 2) * extent.numbers

-- how many places of a column are owned; a column's places follow those of the columns before it
unfoldable pub owned_in : Extent → List (Option ℕ) → ℕ → ℕ
owned_in extent owners column = count_by is_some (take (column_size extent) (drop (column * column_size extent) owners))

-- `used` has that count for each column
pub record IsCounted (extent : Extent) (owners : List (Option ℕ)) (used : List ℕ) : Type 0 where
  pub long : length used ≡ extent.columns + 1
  pub each : (column : ℕ) → column ≤ extent.columns → slice_index used column ≡ owned_in extent owners column

-- the table has an entry for each place, and each column is counted
pub record IsWhole (extent : Extent) (owners : List (Option ℕ)) (used : List ℕ) : Type 0 where
  pub book : IsBook extent owners
  pub counted : IsCounted extent owners used

-- the list has what is owned in the places so far
pub record ListsPlaces (book : Owners) (places : ℕ) (list : List Owned) : Type 0 where
  pub in_order : AllPairs (λ a b. IsEarlier a.resource b.resource) list
  pub exact : (owned : Owned) → Contains list owned ↔ ((owner_of book owned.resource ≡ Some owned.id) × (number_of book.extent owned.resource < places))

-- the list has what is owned in the columns before that one
abbrev pub ListsBefore : Owners → ℕ → List Owned → Type 0
ListsBefore book column list = ListsPlaces book (column * column_size book.extent) list
