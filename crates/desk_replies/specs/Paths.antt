-- The longest path of each tenancy's netlist, in a report.
use Rattle.std.specs.Prelude.{ℕ, ◌≡◌, Bool, true, false, List, [], ◌∷◌, ◌++◌, codes, find, map, Option, Some, None}
use Rattle.std.specs.List.{AllZip, concat}
use Rattle.std.specs.Str.{bytes_eq}
use Rattle.desk_replies.specs.Prelude.{ShowsEach, IsOfFilesIfAny, longest_line, path_fields, MeasuredCircuit, Report, TenancyUse, NameAccount, account_now}
use Rattle.desk_replies.specs.Tables.{heading_fields, row_fields}
use Rattle.desk_replies.specs.declared.report_facts.TenancyFacts.{TenancyFacts}
use Rattle.desk_replies.specs.declared.report_facts.Told.{Told}

-- the first account of that name
abbrev pub account_of : List NameAccount → List ℕ → Option NameAccount
account_of accounts name = find (λ account. bytes_eq account.name name) accounts

-- the circuit of the netlist that the account has, if it is known
abbrev pub IsOfAccount : Option NameAccount → Option MeasuredCircuit → Type 0
IsOfAccount (Some account) circuit = IsOfFilesIfAny account.files circuit
IsOfAccount None circuit = circuit ≡ None

abbrev pub HasCircuit : List NameAccount → List ℕ → Option MeasuredCircuit → Type 0
HasCircuit accounts name circuit = IsOfAccount (account_of accounts name) circuit

-- the accounts of a served script
abbrev pub told_accounts : Told → List NameAccount
told_accounts told = map account_now told.accounts.now

-- a tenancy with the circuit of the netlist that the account of its name has, if the accounts are
-- known
abbrev pub HasCircuitIfTold : Option (List NameAccount) → List ℕ → Option MeasuredCircuit → Type 0
HasCircuitIfTold (Some accounts) name circuit = HasCircuit accounts name circuit
HasCircuitIfTold None name circuit = circuit ≡ None

pub record IsFactOf (accounts : Option (List NameAccount)) (uses : TenancyUse) (fact : TenancyFacts) : Type 0 where
  pub is_use : fact.uses ≡ uses
  pub circuit : HasCircuitIfTold accounts uses.tenancy.name.now fact.circuit

abbrev pub AreFactsOf : Option (List NameAccount) → List TenancyUse → List TenancyFacts → Type 0
AreFactsOf accounts tenancies facts = AllZip (IsFactOf accounts) tenancies facts

-- the row of a tenancy in a table, with its longest path, or just the line of that
abbrev pub path_text : Bool → TenancyUse → Option MeasuredCircuit → List ℕ
path_text true uses circuit = row_fields uses ++ path_fields circuit
path_text false uses circuit = longest_line uses.tenancy.name.now circuit

-- the text has the row of a tenancy, or the line of its longest path
abbrev pub ShowsPath : Bool → List NameAccount → TenancyUse → List ℕ → Type 0
ShowsPath is_row accounts uses text = (circuit : Option MeasuredCircuit) × HasCircuit accounts uses.tenancy.name.now circuit × (text ≡ path_text is_row uses circuit)

-- the lines of all tenancies
abbrev pub ShowsPaths : List NameAccount → Report → List ℕ → Type 0
ShowsPaths accounts report text = ShowsEach (ShowsPath false accounts) report.tenancies.items text

-- the headings of the table with longest paths
abbrev pub path_headings : List ℕ
path_headings = heading_fields ++ concat (codes ",longest_path,longest_path_wires\n" ∷ [])

-- the table of all tenancies, with their longest paths
abbrev pub ShowsPathTable : List NameAccount → Report → List ℕ → Type 0
ShowsPathTable accounts report text = (rows : List ℕ) × ShowsEach (ShowsPath true accounts) report.tenancies.items rows × (text ≡ path_headings ++ rows)
