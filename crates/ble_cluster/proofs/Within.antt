-- Tables and latches whose nets are those of a circuit.
use Rattle.ble_cluster.proofs.Prelude.{◌≡◌, ℕ, ◌<◌, List, All, Some, length, slice_get, subst, get_or_from_slice_get, IsTableWithin, LookupTable}

-- the table at this index
pub table_at_place : (tables : List LookupTable) (place : ℕ) (table : LookupTable) (count : ℕ) → place < length tables → slice_get tables place ≡ Some table → All (IsTableWithin count) tables → IsTableWithin count table
table_at_place tables place table count within at all = subst (IsTableWithin count) (get_or_from_slice_get tables place table table at) (all place table within)
