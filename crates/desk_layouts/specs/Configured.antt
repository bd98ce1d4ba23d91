-- What a device is loaded with.
use Rattle.std.specs.Prelude.{ℕ, ◌≡◌, ◌⊎◌, Bool, true, List, Contains, Option, Ok, ⊤}
use Rattle.desk_layouts.specs.Prelude.{JoinedLine, lines_of, LookupTable, holds_table, traced_ble, configuration_of, configuration_text, ConfigurationLine, AreBlesApart, Configures, HasOneDriver, HasValues, Spot, LaidCircuit, Outcome, FileFailed, NoMemory, OutputFailed, Verilog}
use Rattle.desk_layouts.specs.Checked.{AreRead, IsLaidIn}
use Rattle.desk_layouts.specs.Refused.{IsRefusal}
use Rattle.desk_layouts.specs.declared.given_files.GivenFiles.{GivenFiles}
use Rattle.desk_layouts.specs.declared.layout_input.LayoutPaths.{LayoutPaths}

-- the configuration of the layout, with the tables of a netlist of these lines
abbrev pub configuration_with : List JoinedLine → LaidCircuit → List ConfigurationLine
configuration_with lines laid = configuration_of lines laid.circuit laid.arch laid.strip laid.layout

abbrev pub text_with : List JoinedLine → LaidCircuit → List ℕ
text_with lines laid = configuration_text lines laid.circuit laid.arch laid.strip laid.layout

-- Walked back over the configuration, each input, clock and output leads to the place of the table,
-- latch or pad that drives its net, and to nothing else. No two BLEs are at one place, and each
-- table has the values of its rows.
pub record Works (lines : List JoinedLine) (laid : LaidCircuit) : Type 0 where
  pub connects : Configures laid.circuit laid.arch laid.strip laid.layout (configuration_with lines laid)
  pub one_driver : HasOneDriver laid.arch laid.strip (configuration_with lines laid)
  pub apart : AreBlesApart laid.arch laid.layout
  pub values : (table : LookupTable) → Contains laid.circuit.tables table → (spot : Spot laid.layout) →
      holds_table laid.circuit (traced_ble laid.arch spot.laid spot.ble) table ≡ true → HasValues lines laid.circuit laid.arch laid.layout (configuration_with lines laid) spot table

-- the text is the configuration of a layout that implements the circuit, of which the files with
-- these bytes are the print, with the tables of this netlist
pub record IsConfigurationOf (paths : LayoutPaths) (given : GivenFiles) (text : List ℕ) : Type 0 where
  pub laid : LaidCircuit
  pub laid_in : IsLaidIn paths given laid
  pub lines : List JoinedLine
  pub lines_are : lines_of given.netlist.items ≡ Ok lines
  pub text_is : text ≡ text_with lines laid
  pub works : Works lines laid

-- the files at the paths are read, and the text is the configuration of their layout
pub record IsConfigured (known : List ℕ → Option (List ℕ)) (paths : LayoutPaths) (text : List ℕ) : Type 0 where
  pub given : GivenFiles
  pub read : AreRead known paths given
  pub configuration : IsConfigurationOf paths given text

-- why a configuration is not written: the output failed, or the file for its Verilog, of which
-- this is known, or memory ran out
abbrev pub IsUnwritten : Type 0 → Bool → Outcome → Type 0
IsUnwritten written failed NoMemory = ⊤
IsUnwritten written failed OutputFailed = failed ≡ true
IsUnwritten written failed (FileFailed role) = (role ≡ Verilog) × written
IsUnwritten written failed other = ⊥

-- private: or the files are refused
abbrev pub IsUnwrittenOr : Type 0 → Bool → LayoutPaths → GivenFiles → Outcome → Type 0
IsUnwrittenOr written failed paths given outcome = IsUnwritten written failed outcome ⊎ IsRefusal paths given outcome
