-- The meaning of a netlist text: its circuit, or its least fault.
use Rattle.std.specs.Prelude.{ℕ, Bool, true, false, not, List, [], ◌∷◌, ◌++◌, Result, Ok, Err, map, length, nat_lt, if◌then◌else◌}
use Rattle.std.specs.List.{before_first, flat_map}
use Rattle.std.specs.Option.{option_map_or}
use Rattle.std.specs.Result.{result_flatten, result_map_both}
use Rattle.line_text.specs.Lines.{JoinedLine, lines_of}
use Rattle.line_text.specs.LeastFault.{Found, least_fault}
use Rattle.line_text.specs.declared.lines.TheConstants.{MAX_TEXT}
use Rattle.blif.specs.declared.circuit.Circuit.{Circuit}
use Rattle.blif.specs.declared.fault.BlifFault.{BlifFault}
use Rattle.blif.specs.declared.fault.BlifFaultKind.TheVariants.{Undriven, NoModel, OverLimit}
use Rattle.blif.specs.Names.{has_name, names_with_index, with_names}
use Rattle.blif.specs.Faults.{fault_of_lines, number_of}
use Rattle.blif.specs.LineNets.{reads_in}
use Rattle.blif.specs.Sights.{sights_of, kind_of, is_end, inputs_of}
use Rattle.blif.specs.BlifFaults.{WordFault, at_words, driven_nets, faults_in, of_line}
use Rattle.blif.specs.Circuits.{circuit_from}
use Rattle.blif.specs.LawfulCircuits.{IsCircuit, IsNarrow}

-- the inputs that `.inputs` lines declare before the end, each once
unfoldable pub declared_in : List JoinedLine → List (List ℕ)
declared_in lines = with_names [] (flat_map inputs_of (before_first (λ line. is_end (kind_of line)) lines))

-- these faults of the line with this number, found at the line or only at the end
abbrev pub at_line : Bool → ℕ → List WordFault → List (Found BlifFault)
at_line at_end number faults = map (λ fault. record { at_end = at_end; line = number; number = number_of fault.kind; word = fault.word; fault = record { line = number; kind = fault.kind } }) faults

-- the faults of the lines that follow the lines above
unfoldable pub line_faults : ℕ → List (List ℕ) → List JoinedLine → List JoinedLine → List (Found BlifFault)
line_faults lut_size declared above [] = []
line_faults lut_size declared above (line ∷ lines) =
    at_line false line.number (faults_in lut_size (sights_of declared above) (kind_of line) line.words)
    ++ line_faults lut_size declared (above ++ line ∷ []) lines

-- a fault for each net that the line reads and that is not driven
unfoldable pub undriven_faults : List (List ℕ) → JoinedLine → List (Found BlifFault)
undriven_faults drivers line = at_line true line.number (at_words Undriven (names_with_index (λ name. not (has_name drivers name)) (reads_in (kind_of line) line.words)))

-- the faults that are found at the end
unfoldable pub final_faults : List (List ℕ) → List JoinedLine → List (Found BlifFault)
final_faults declared [] = at_line true 0 (of_line NoModel)
final_faults declared (line ∷ lines) = flat_map (undriven_faults (driven_nets (sights_of declared (line ∷ lines)))) (line ∷ lines)

-- all faults of the lines, and those that are found at the end
abbrev pub all_faults : ℕ → List JoinedLine → List (Found BlifFault)
all_faults lut_size lines = line_faults lut_size (declared_in lines) [] lines ++ final_faults (declared_in lines) lines

-- the meaning of the lines: their least fault, or their circuit if they have no fault
unfoldable pub circuit_of_lines : ℕ → List JoinedLine → Result Circuit BlifFault
circuit_of_lines lut_size lines = option_map_or Err (least_fault (all_faults lut_size lines)) (Ok (circuit_from (declared_in lines) lines))

-- the circuit, or the least fault: first the text's size, then a fault of splitting it into lines,
-- then a fault of the netlist
unfoldable pub circuit_of : List ℕ → ℕ → Result Circuit BlifFault
circuit_of text lut_size =
    if nat_lt MAX_TEXT (length text) then Err (record { line = 0; kind = OverLimit })
    else result_flatten (result_map_both (circuit_of_lines lut_size) fault_of_lines (lines_of text))

-- a circuit that is lawful, and whose tables have at most lut_size inputs
abbrev pub IsLawfulFor : ℕ → Circuit → Type 0
IsLawfulFor lut_size circuit = IsCircuit circuit × IsNarrow lut_size circuit
