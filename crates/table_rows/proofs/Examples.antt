-- Small tables.
use Rattle.std.proofs.Common.{◌≡◌, ℕ, Bool, true, false, List, [], ◌∷◌, refl, codes}
use Rattle.line_text.specs.Lines.{JoinedLine}
use Rattle.table_rows.specs.CellLines.{args_at, init_in, rows_at, type_in}
use Rattle.table_rows.specs.TableBits.{bits_of, value_of, wire_bits}

abbrev row : List ℕ → List ℕ → List (List ℕ)
row pattern output = pattern ∷ output ∷ []

-- and: net 5 is input 0, net 6 is input 1
and_bits : bits_of 2 (row (codes "11") (codes "1") ∷ []) (5 ∷ 6 ∷ []) (5 ∷ 6 ∷ []) ≡ false ∷ false ∷ false ∷ true ∷ []
and_bits = refl

-- not a, and b; the BLE's inputs are in the other order
other_order : bits_of 2 (row (codes "01") (codes "1") ∷ []) (5 ∷ 6 ∷ []) (6 ∷ 5 ∷ []) ≡ false ∷ true ∷ false ∷ false ∷ []
other_order = refl

-- rows of output 0: the value is 1 where none applies
off_rows : bits_of 2 (row (codes "1-") (codes "0") ∷ row (codes "-1") (codes "0") ∷ []) (5 ∷ 6 ∷ []) (5 ∷ 6 ∷ []) ≡ true ∷ false ∷ false ∷ false ∷ []
off_rows = refl

-- an input that is named twice has one value: `10` never applies
named_twice : bits_of 2 (row (codes "10") (codes "1") ∷ row (codes "11") (codes "1") ∷ []) (5 ∷ 5 ∷ []) (5 ∷ []) ≡ false ∷ true ∷ false ∷ true ∷ []
named_twice = refl

-- constants
one : bits_of 1 ((codes "1" ∷ []) ∷ []) [] [] ≡ true ∷ true ∷ []
one = refl

nothing : bits_of 1 [] [] [] ≡ false ∷ false ∷ []
nothing = refl

wire : wire_bits 2 ≡ false ∷ true ∷ false ∷ true ∷ []
wire = refl

-- the lines of a netlist
abbrev lines : List JoinedLine
lines = record { number = 1; words = codes ".model" ∷ codes "m" ∷ [] } ∷ record { number = 3; words = codes ".names" ∷ codes "a" ∷ codes "f" ∷ [] }
    ∷ record { number = 4; words = row (codes "0") (codes "1") } ∷ record { number = 5; words = row (codes "-") (codes "1") }
    ∷ record { number = 6; words = codes ".latch" ∷ codes "f" ∷ codes "q" ∷ codes "re" ∷ codes "c" ∷ codes "1" ∷ [] }
    ∷ record { number = 7; words = codes ".latch" ∷ codes "q" ∷ codes "r" ∷ [] } ∷ []

rows_of_names : rows_at lines 3 ≡ row (codes "0") (codes "1") ∷ row (codes "-") (codes "1") ∷ []
rows_of_names = refl

no_rows : rows_at lines 6 ≡ []
no_rows = refl

latch_type : type_in (args_at lines 6) ≡ codes "re"
latch_type = refl

latch_init : init_in (args_at lines 6) ≡ codes "1"
latch_init = refl

latch_alone : init_in (args_at lines 7) ≡ codes "3"
latch_alone = refl
