-- What names used, in lines and as a table.
use Rattle.std.specs.Prelude.{ℕ, ◌≡◌, Bool, true, false, List, [], ◌∷◌, ◌++◌, codes, decimal, Option}
use Rattle.std.specs.List.{AllZip, concat}
use Rattle.desk_circuits.specs.Prelude.{NameAccount, Usage}
use Rattle.desk_circuits.specs.EachText.{ShowsEach}
use Rattle.desk_circuits.specs.Fields.{known_field, number_fields}
use Rattle.desk_circuits.specs.Measured.{IsOfFilesIfAny}
use Rattle.desk_circuits.specs.PathLines.{longest_line, tables_if_known, wires_if_known}
use Rattle.desk_circuits.specs.declared.longest.MeasuredCircuit.{MeasuredCircuit}
use Rattle.desk_circuits.specs.declared.usages.NameFacts.{NameFacts}

-- what a name used, in a line
abbrev pub usage_line : List ℕ → Usage → List ℕ
usage_line name usage = concat (
    name ∷ codes ": columns " ∷ decimal usage.columns ∷ codes ", lines " ∷ decimal usage.lines ∷ codes ", refused " ∷ decimal usage.refused
    ∷ codes ", jobs " ∷ decimal usage.jobs ∷ codes ", steps by the operator " ∷ decimal usage.steps ∷ codes "\n" ∷ [])

-- the tables and the wires of the longest path of its netlist, as the last fields of a row
abbrev pub path_fields : Option MeasuredCircuit → List ℕ
path_fields circuit = known_field (tables_if_known circuit) ++ (known_field (wires_if_known circuit) ++ concat (codes "\n" ∷ []))

-- what a name used, as a row of a table
abbrev pub usage_row : List ℕ → Usage → Option MeasuredCircuit → List ℕ
usage_row name usage circuit =
    concat (name ∷ []) ++ (number_fields (usage.columns ∷ usage.lines ∷ usage.refused ∷ usage.jobs ∷ usage.steps ∷ []) ++ path_fields circuit)

-- the row or the lines of a name
abbrev pub usage_text : Bool → List ℕ → Usage → Option MeasuredCircuit → List ℕ
usage_text true name usage circuit = usage_row name usage circuit
usage_text false name usage circuit = usage_line name usage ++ longest_line name circuit

-- the text shows what the name of an account used, with the circuit of the netlist that it has
abbrev pub ShowsUsage : Bool → NameAccount → List ℕ → Type 0
ShowsUsage is_table account text = (circuit : Option MeasuredCircuit) × IsOfFilesIfAny account.files circuit × (text ≡ usage_text is_table account.name account.usage circuit)

-- the headings of a table; lines have none
abbrev pub usage_headings : Bool → List ℕ
usage_headings true = concat (codes "name,columns,lines,refused,jobs,steps_by_the_operator,longest_path,longest_path_wires\n" ∷ [])
usage_headings false = []

-- the text shows what the names of all accounts used
abbrev pub ShowsUsages : Bool → List NameAccount → List ℕ → Type 0
ShowsUsages is_table accounts text = (lines : List ℕ) × ShowsEach (ShowsUsage is_table) accounts lines × (text ≡ usage_headings is_table ++ lines)

-- an account with the circuit of the netlist that it has, if it is known
pub record IsFactsOf (account : NameAccount) (facts : NameFacts) : Type 0 where
  pub name : facts.name.now ≡ account.name
  pub usage : facts.usage ≡ account.usage
  pub circuit : IsOfFilesIfAny account.files facts.circuit

-- those of all accounts, in order
abbrev pub AreFactsOf : List NameAccount → List NameFacts → Type 0
AreFactsOf accounts facts = AllZip IsFactsOf accounts facts
