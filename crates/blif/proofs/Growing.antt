-- Parts of a flat list to which items are appended.
use Rattle.blif.proofs.Prelude.{◌≡◌, ℕ, ◌≤◌, List, [], ◌∷◌, ◌++◌, length, map, refl, arith, length-append, length-drop, map_push, take-append-le, drop-append-le, drop_at, take_all, IndexSpan, TableSpan, part_of, AreWithin, AreTablesWithin, table_at}

-- a part is unchanged
pub part_of-append : {A : Type 0} (xs ys : List A) (span : IndexSpan) → span.start ≤ span.end → span.end ≤ length xs → part_of (xs ++ ys) span ≡ part_of xs span
part_of-append xs ys span ordered within = grind (arith, length-drop, drop-append-le, take-append-le)

-- the appended items are the part at their span
pub part_of-added : {A : Type 0} (xs ys : List A) (start end : ℕ) → start ≡ length xs → end ≡ length (xs ++ ys) → part_of (xs ++ ys) (record { start = start; end = end }) ≡ ys
part_of-added xs ys start end starts ends = grind (arith, length-append, drop_at, take_all)

-- the parts at spans within the list are unchanged
pub parts-append : {A : Type 0} (xs ys : List A) (spans : List IndexSpan) → AreWithin (length xs) spans → map (part_of (xs ++ ys)) spans ≡ map (part_of xs) spans
parts-append xs ys [] within = refl
parts-append xs ys (span ∷ spans) within = grind (arith, part_of-append, parts-append xs ys spans within.1)

-- the parts with one more, whose items were appended to the list
pub parts_push : {A : Type 0} (xs ys : List A) (spans : List IndexSpan) (start end : ℕ) → AreWithin (length xs) spans → start ≡ length xs → end ≡ length (xs ++ ys) → map (part_of (xs ++ ys)) (spans ++ record { start = start; end = end } ∷ []) ≡ map (part_of xs) spans ++ ys ∷ []
parts_push xs ys spans start end within starts ends = grind (arith, map_push, parts-append, part_of-added)

-- the tables whose inputs are within the list are unchanged
tables-append : (xs ys : List ℕ) (tables : List TableSpan) → AreTablesWithin (length xs) tables → map (table_at (xs ++ ys)) tables ≡ map (table_at xs) tables
tables-append xs ys [] within = refl
tables-append xs ys (table ∷ tables) within = grind (arith, part_of-append, tables-append xs ys tables within.1)

-- the tables with one more, whose inputs were appended to the list
pub tables_push : (xs ys : List ℕ) (tables : List TableSpan) (line start end output : ℕ) → AreTablesWithin (length xs) tables → start ≡ length xs → end ≡ length (xs ++ ys) → map (table_at (xs ++ ys)) (tables ++ record { line = line; inputs = record { start = start; end = end }; output = output } ∷ []) ≡ map (table_at xs) tables ++ record { line = line; inputs = ys; output = output } ∷ []
tables_push xs ys tables line start end output within starts ends = grind (arith, map_push, tables-append, part_of-added)
