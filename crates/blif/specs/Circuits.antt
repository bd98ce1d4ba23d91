-- The circuit of lines without a fault, with nets by number.
use Rattle.std.specs.Prelude.{ℕ, List, [], ◌∷◌, ◌++◌, map, codes, slice_index_or, if◌then◌else◌}
use Rattle.std.specs.List.{flat_map}
use Rattle.std.specs.Option.{option_map}
use Rattle.line_text.specs.Lines.{JoinedLine}
use Rattle.blif.specs.declared.circuit.Circuit.{Circuit}
use Rattle.blif.specs.declared.keyword.Keyword.{Keyword}
use Rattle.blif.specs.declared.keyword.Keyword.TheVariants.{Names, Latch}
use Rattle.blif.specs.declared.latches.Latch.{Latch as StoredLatch}
use Rattle.blif.specs.Names.{number_of}
use Rattle.blif.specs.Keywords.{args_of, last_of}
use Rattle.blif.specs.LatchLines.{is_latch, control_of}
use Rattle.blif.specs.LineNets.{front_of}
use Rattle.blif.specs.LookupTables.{LookupTable}
use Rattle.blif.specs.Sights.{inputs_of, kind_of, outputs_of, sights_of}

-- the table with these names on the line with this number
abbrev pub table_with : List (List ℕ) → ℕ → List (List ℕ) → List LookupTable
table_with nets number [] = []
table_with nets number (name ∷ names) = record { line = number; inputs = map (number_of nets) (front_of (name ∷ names)); output = number_of nets (last_of (name ∷ names)) } ∷ []

-- the tables that a line of this kind adds
abbrev pub tables_in : List (List ℕ) → ℕ → Keyword → List (List ℕ) → List LookupTable
tables_in nets number Names words = table_with nets number (args_of words)
tables_in nets number keyword words = []

-- the latch with these words on the line with this number
abbrev pub latch_with : List (List ℕ) → ℕ → List (List ℕ) → List StoredLatch
latch_with nets number args =
    if is_latch args then record { line = number; input = number_of nets (slice_index_or args 0 []); output = number_of nets (slice_index_or args 1 []); control = option_map (number_of nets) (control_of args) } ∷ [] else []

-- the latches that a line of this kind adds
abbrev pub latches_in : List (List ℕ) → ℕ → Keyword → List (List ℕ) → List StoredLatch
latches_in nets number Latch words = latch_with nets number (args_of words)
latches_in nets number keyword words = []

-- the name of the model that the first line begins, `top` if it has no name
abbrev pub model_of : List JoinedLine → List ℕ
model_of [] = codes "top"
model_of (line ∷ lines) = slice_index_or (args_of line.words) 0 (codes "top")

-- the circuit of these lines, whose clocks come after the inputs of its `.inputs` lines
unfoldable pub circuit_from : List (List ℕ) → List JoinedLine → Circuit
circuit_from declared lines =
    let sights = sights_of declared lines in record {
      model = model_of lines;
      nets = sights.nets;
      inputs = map (number_of sights.nets) (flat_map inputs_of lines) ++ map (number_of sights.nets) sights.clocks;
      outputs = map (number_of sights.nets) (flat_map outputs_of lines);
      tables = flat_map (λ line. tables_in sights.nets line.number (kind_of line) line.words) lines;
      latches = flat_map (λ line. latches_in sights.nets line.number (kind_of line) line.words) lines;
    }
