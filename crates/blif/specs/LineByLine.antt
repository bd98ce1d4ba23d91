-- Private: the contributions of lines, one line after another.
use Rattle.std.specs.Prelude.{ℕ, ◌≡◌, true, not, ◌||◌, List, [], ◌++◌, map, filter}
use Rattle.std.specs.List.{before_first, flat_map}
use Rattle.line_text.specs.Lines.{JoinedLine}
use Rattle.blif.specs.declared.circuit.Circuit.{Circuit}
use Rattle.blif.specs.declared.keyword.Keyword.{Keyword}
use Rattle.blif.specs.declared.latches.Latch.{Latch as StoredLatch}
use Rattle.blif.specs.Names.{has_name, number_of, with_names}
use Rattle.blif.specs.LineNets.{names_in, drives_in, inputs_in, clocks_in, outputs_in}
use Rattle.blif.specs.Covers.{cover_after}
use Rattle.blif.specs.LookupTables.{LookupTable}
use Rattle.blif.specs.Sights.{Sights, inputs_of, is_end, kind_of, names_of, outputs_of}
use Rattle.blif.specs.Circuits.{latches_in, model_of, tables_in}

-- the nets that the line drives, if it is not a `.clock` line
abbrev pub drives_of : JoinedLine → List (List ℕ)
drives_of line = drives_in (kind_of line) line.words

-- the clocks that the line names
abbrev pub clocks_of : JoinedLine → List (List ℕ)
clocks_of line = clocks_in (kind_of line) line.words

-- these are all nets of the lines, and these are the numbers of the nets that the lines name, in
-- order
pub record AreNetsOf (lines : List JoinedLine) (all : List (List ℕ)) (given : List ℕ) : Type 0 where
  pub nets : all ≡ with_names [] (flat_map names_of lines)
  pub numbers : given ≡ map (number_of all) (flat_map names_of lines)

-- the lines before the end
abbrev pub lines_to_end : List JoinedLine → List JoinedLine
lines_to_end lines = before_first (λ line. is_end (kind_of line)) lines

-- those of the names that are not declared as inputs
abbrev pub undeclared_names : List (List ℕ) → List (List ℕ) → List (List ℕ)
undeclared_names declared names = filter (λ name. not (has_name declared name)) names

-- the state after one more line, of this kind and with these words
abbrev pub sights_after : Keyword → List (List ℕ) → Sights → Sights
sights_after keyword words old = record {
  declared = old.declared;
  begun = true;
  ended = old.ended || is_end keyword;
  nets = with_names old.nets (names_in keyword words);
  drivers = old.drivers ++ drives_in keyword words;
  clocks = with_names old.clocks (undeclared_names old.declared (clocks_in keyword words));
  outputs = old.outputs ++ outputs_in keyword words;
  cover = cover_after keyword words old.cover;
}

-- the parts of a circuit that lines add
pub record Parts : Type 0 where
  pub inputs : List ℕ
  pub outputs : List ℕ
  pub tables : List LookupTable
  pub latches : List StoredLatch

-- the parts that these lines add
unfoldable pub parts_of : List (List ℕ) → List JoinedLine → Parts
parts_of nets lines = record {
  inputs = map (number_of nets) (flat_map inputs_of lines);
  outputs = map (number_of nets) (flat_map outputs_of lines);
  tables = flat_map (λ line. tables_in nets line.number (kind_of line) line.words) lines;
  latches = flat_map (λ line. latches_in nets line.number (kind_of line) line.words) lines;
}

-- the circuit of these parts and nets, with these clocks
abbrev pub circuit_with : List (List ℕ) → List (List ℕ) → List JoinedLine → Parts → Circuit
circuit_with nets clocks lines parts = record {
  model = model_of lines;
  nets = nets;
  inputs = parts.inputs ++ map (number_of nets) clocks;
  outputs = parts.outputs;
  tables = parts.tables;
  latches = parts.latches;
}

-- the parts after one more line
abbrev pub parts_after : List (List ℕ) → ℕ → Keyword → List (List ℕ) → Parts → Parts
parts_after nets number keyword words old = record {
  inputs = old.inputs ++ map (number_of nets) (inputs_in keyword words);
  outputs = old.outputs ++ map (number_of nets) (outputs_in keyword words);
  tables = old.tables ++ tables_in nets number keyword words;
  latches = old.latches ++ latches_in nets number keyword words;
}
