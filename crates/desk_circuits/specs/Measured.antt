-- The circuit of a netlist, with its longest path.
use Rattle.std.specs.Prelude.{ℕ, ◌≡◌, List, Option, Some, None, Ok, IfSome}
use Rattle.desk_circuits.specs.Prelude.{circuit_of, Circuit, IsLongest, IsLoop, Longest, Path, NoPath, Loop, FileStates}
use Rattle.desk_circuits.specs.PathWires.{HasWires, ShowsStops}
use Rattle.desk_circuits.specs.Strips.{StripFiles, present_files}
use Rattle.desk_circuits.specs.declared.longest.MeasuredCircuit.{MeasuredCircuit}
use Rattle.desk_circuits.specs.declared.warnings.TheConstants.{ANY_TABLE}

-- the netlist has this circuit, with tables of any number of inputs
abbrev pub IsCircuitOf : List ℕ → Circuit → Type 0
IsCircuitOf netlist circuit = circuit_of netlist ANY_TABLE ≡ Ok circuit

-- the wires of the longest path are those by the files; no other wires are known
abbrev pub AreWiresOf : Option StripFiles → Circuit → Longest → ℕ → Type 0
AreWiresOf (Some files) circuit (Path path) wires = HasWires files circuit path wires
AreWiresOf (Some files) circuit NoPath wires = ⊥
AreWiresOf (Some files) circuit Loop wires = ⊥
AreWiresOf None circuit longest wires = ⊥

-- the netlist's circuit, and its longest path; the tables of a loop, if they are known; and the
-- wires of the path by the files, if they are known. They may be unknown if memory runs out.
pub record IsMeasured (netlist : List ℕ) (files : Option StripFiles) (measured : MeasuredCircuit) : Type 0 where
  pub circuit : IsCircuitOf netlist measured.circuit
  pub longest : IsLongest measured.circuit measured.longest
  pub looped : IfSome measured.looped (λ tables. IsLoop measured.circuit.tables tables.items)
  pub wires : IfSome measured.wires (AreWiresOf files measured.circuit measured.longest)

-- the circuit is that of the netlist among these files, measured by the others
abbrev pub IsOfNetlist : Option (List ℕ) → Option StripFiles → MeasuredCircuit → Type 0
IsOfNetlist (Some netlist) files measured = IsMeasured netlist files measured
IsOfNetlist None files measured = ⊥

abbrev pub IsOfFiles : FileStates → MeasuredCircuit → Type 0
IsOfFiles states measured = IsOfNetlist states.netlist (present_files states) measured

-- it is that circuit, or is not known: there is no netlist, it has a fault, or memory ran out
abbrev pub IsOfFilesIfAny : FileStates → Option MeasuredCircuit → Type 0
IsOfFilesIfAny states measured = IfSome measured (IsOfFiles states)

-- the text has the stops of the longest path, if there is one, by the three files
abbrev pub ShowsLongest : StripFiles → Circuit → Longest → List ℕ → Type 0
ShowsLongest files circuit (Path path) text = ShowsStops files circuit path text
ShowsLongest files circuit NoPath text = ⊥
ShowsLongest files circuit Loop text = ⊥

-- the text has those of a netlist's longest path
pub record ShowsNetlistStops (netlist : List ℕ) (files : StripFiles) (text : List ℕ) : Type 0 where
  pub circuit : Circuit
  pub of : IsCircuitOf netlist circuit
  pub longest : Longest
  pub is_longest : IsLongest circuit longest
  pub stops : ShowsLongest files circuit longest text

-- the text has those of the netlist among a name's files, by the others, if all are present
abbrev pub ShowsIfAll : Option (List ℕ) → Option StripFiles → List ℕ → Type 0
ShowsIfAll (Some netlist) (Some files) text = ShowsNetlistStops netlist files text
ShowsIfAll (Some netlist) None text = ⊥
ShowsIfAll None files text = ⊥

abbrev pub ShowsPresentStops : FileStates → List ℕ → Type 0
ShowsPresentStops states text = ShowsIfAll states.netlist (present_files states) text
