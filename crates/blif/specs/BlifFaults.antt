-- The faults of a line of a netlist.
use Rattle.std.specs.Prelude.{ℕ, Bool, true, false, not, ◌&&◌, ◌||◌, List, [], ◌∷◌, ◌++◌, Option, None, Some, map, length, nat_lt, if◌then◌else◌}
use Rattle.blif.specs.declared.circuit.TheConstants.{MAX_NETS}
use Rattle.blif.specs.declared.cover.Cover.{Cover}
use Rattle.blif.specs.declared.keyword.Keyword.{Keyword}
use Rattle.blif.specs.declared.keyword.Keyword.TheVariants.{Model, Inputs, Outputs, Clock, Names, Latch, Other, Row}
use Rattle.blif.specs.declared.fault.BlifFaultKind.{BlifFaultKind}
use Rattle.blif.specs.declared.fault.BlifFaultKind.TheVariants.{Unknown, BadCover, MixedCover, TooWide, TwoDrivers, RepeatedOutput, BadLatch, NoModel, OverLimit}
use Rattle.blif.specs.Names.{has_name, names_with_index, repeats_from, with_names}
use Rattle.blif.specs.Keywords.{args_of}
use Rattle.blif.specs.LatchLines.{is_latch}
use Rattle.blif.specs.LineNets.{names_in, output_of, latch_output}
use Rattle.blif.specs.Covers.{is_row, is_mixed}
use Rattle.blif.specs.Sights.{Sights}

-- a fault of a line, and the index of its word among the nets that are checked, 0 if the whole line
-- is at fault
pub record WordFault : Type 0 where
  pub word : ℕ
  pub kind : BlifFaultKind

-- this fault of the whole line
abbrev pub of_line : BlifFaultKind → List WordFault
of_line kind = record { word = 0; kind = kind } ∷ []

-- this fault of the whole line, if the test is met
abbrev pub fault_where : Bool → BlifFaultKind → List WordFault
fault_where test kind = if test then of_line kind else []

-- a fault for each of these names, at the name's index
abbrev pub at_words : (List ℕ → BlifFaultKind) → List (ℕ × List ℕ) → List WordFault
at_words kind names = map (λ name. record { word = name.0; kind = kind name.1 }) names

-- the nets that inputs, clocks, tables and latches drive
abbrev pub driven_nets : Sights → List (List ℕ)
driven_nets above = above.clocks ++ above.drivers

-- a fault for each of the names that is driven above, or occurs earlier among them
abbrev pub driver_faults : List (List ℕ) → List (List ℕ) → List WordFault
driver_faults driven_above names = at_words TwoDrivers (repeats_from 0 driven_above names)

-- the faults of a table, which has at most lut_size inputs
abbrev pub table_faults : ℕ → List (List ℕ) → List (List ℕ) → List WordFault
table_faults lut_size driven_above [] = of_line BadCover
table_faults lut_size driven_above (name ∷ names) = fault_where (nat_lt lut_size (length names)) TooWide ++ driver_faults driven_above (output_of (name ∷ names))

-- the faults of a row that follows this cover
abbrev pub row_faults : Option Cover → List (List ℕ) → List WordFault
row_faults None words = of_line Unknown
row_faults (Some cover) words = fault_where (not (is_row cover.inputs words)) BadCover ++ fault_where (is_mixed cover.output words) MixedCover

-- the faults that a line of this kind has by itself or with the lines above it; a clock that is not
-- a declared input is driven by its `.clock` lines, so nothing else may drive it
abbrev pub kind_faults : ℕ → Sights → Keyword → List (List ℕ) → List WordFault
kind_faults lut_size above Model words = fault_where above.begun Unknown
kind_faults lut_size above Inputs words = driver_faults (driven_nets above) (args_of words)
kind_faults lut_size above Outputs words = at_words RepeatedOutput (repeats_from 0 above.outputs (args_of words))
kind_faults lut_size above Clock words = at_words TwoDrivers (names_with_index (λ name. not (has_name above.declared name) && has_name above.drivers name) (args_of words))
kind_faults lut_size above Names words = table_faults lut_size (driven_nets above) (args_of words)
kind_faults lut_size above Latch words = if is_latch (args_of words) then driver_faults (driven_nets above) (latch_output (args_of words)) else of_line BadLatch
kind_faults lut_size above Other words = of_line Unknown
kind_faults lut_size above Row words = row_faults above.cover words
kind_faults lut_size above keyword words = []

-- whether a line of this kind begins a model
abbrev pub is_model : Keyword → Bool
is_model Model = true
is_model keyword = false

-- all faults of a line of this kind. After the end it is Unknown and has no other fault. Before the
-- end it has the faults of its kind; the first line must begin the model, and the nets of the lines
-- up to this one must not exceed the limit.
abbrev pub faults_in : ℕ → Sights → Keyword → List (List ℕ) → List WordFault
faults_in lut_size above keyword words =
    if above.ended then of_line Unknown else
    kind_faults lut_size above keyword words
    ++ (fault_where (not (above.begun || is_model keyword)) NoModel
    ++ fault_where (nat_lt MAX_NETS (length (with_names above.nets (names_in keyword words)))) OverLimit)
