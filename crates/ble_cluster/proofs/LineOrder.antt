-- The BLEs in the order of their lines, with one more table.
use Rattle.ble_cluster.proofs.Prelude.{◌≡◌, ℕ, ◌+◌, ◌<◌, List, [], ◌∷◌, ◌++◌, Option, Some, length, take, drop, map, slice_get, ap, ◌∙◌, append_assoc, arith, take_while, prefix_len, drop_more, length-prefix_len, get_or_from_slice_get, Circuit, Latch, LookupTable, LogicElement, element_of_latch, element_of_table, in_line_order, latch_after, is_above}

-- the list from the element at an index on
pub drop_place : {X : Type 0} (xs : List X) (i : ℕ) (x : X) → i < length xs → slice_get xs i ≡ Some x → drop i xs ≡ x ∷ drop (i + 1) xs
drop_place xs i x within at = drop_more xs i x within ∙ ap (λ y. y ∷ drop (i + 1) xs) (get_or_from_slice_get xs i x x at)

-- the BLEs before a table in the order, the table, and the rest
order_at : (circuit : Circuit) (tables rest : List LookupTable) (latches : List Latch) (table : LookupTable) → tables ≡ table ∷ rest → in_line_order circuit tables latches ≡ map element_of_latch (take_while (is_above table.line) latches) ++ element_of_table table (latch_after circuit table.output) ∷ in_line_order circuit rest (drop (prefix_len (is_above table.line) latches) latches)
order_at circuit tables rest latches table is = ap (λ ts. in_line_order circuit ts latches) is

-- the latches above the table, the table, and the remaining ones
pub table_added : (circuit : Circuit) (bles : List LogicElement) (tables : List LookupTable) (latches : List Latch) (place above : ℕ) (table : LookupTable) (behind : Option Latch) →
    place < length tables → slice_get tables place ≡ Some table → behind ≡ latch_after circuit table.output → above ≡ length (take_while (is_above table.line) latches) →
    ((bles ++ map element_of_latch (take above latches)) ++ element_of_table table behind ∷ []) ++ in_line_order circuit (drop (place + 1) tables) (drop above latches) ≡ bles ++ in_line_order circuit (drop place tables) latches
table_added circuit bles tables latches place above table behind within at latch count = grind (arith, length-prefix_len, order_at, drop_place, append_assoc)
