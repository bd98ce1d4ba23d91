-- The nets that a line names, drives and reads.
use Rattle.std.specs.Prelude.{ℕ, ◌-◌, List, [], ◌∷◌, ◌++◌, take, drop, length, if◌then◌else◌}
use Rattle.std.specs.Option.{option_to_list}
use Rattle.blif.specs.declared.keyword.Keyword.{Keyword}
use Rattle.blif.specs.declared.keyword.Keyword.TheVariants.{Inputs, Outputs, Clock, Names, Latch}
use Rattle.blif.specs.Keywords.{args_of, last_of}
use Rattle.blif.specs.LatchLines.{is_latch, control_of}

-- the nets of a latch: the first `count` of its input and output, and its control
abbrev pub latch_nets : ℕ → List (List ℕ) → List (List ℕ)
latch_nets count args = if is_latch args then take count args ++ option_to_list (control_of args) else []

-- the nets that a line of this kind names
abbrev pub names_in : Keyword → List (List ℕ) → List (List ℕ)
names_in Inputs words = args_of words
names_in Outputs words = args_of words
names_in Clock words = args_of words
names_in Names words = args_of words
names_in Latch words = latch_nets 2 (args_of words)
names_in keyword words = []

-- the last word, if the list has one
abbrev pub output_of : List (List ℕ) → List (List ℕ)
output_of [] = []
output_of (word ∷ words) = last_of (word ∷ words) ∷ []

abbrev pub latch_output : List (List ℕ) → List (List ℕ)
latch_output args = if is_latch args then drop 1 (take 2 args) else []

-- the nets that a line of this kind drives by itself; which nets a `.clock` line drives depends on
-- the `.inputs` lines of the whole text
abbrev pub drives_in : Keyword → List (List ℕ) → List (List ℕ)
drives_in Inputs words = args_of words
drives_in Names words = output_of (args_of words)
drives_in Latch words = latch_output (args_of words)
drives_in keyword words = []

-- the inputs that a line of this kind declares
abbrev pub inputs_in : Keyword → List (List ℕ) → List (List ℕ)
inputs_in Inputs words = args_of words
inputs_in keyword words = []

-- the clocks that a line of this kind names
abbrev pub clocks_in : Keyword → List (List ℕ) → List (List ℕ)
clocks_in Clock words = args_of words
clocks_in keyword words = []

-- the outputs that a line of this kind declares
abbrev pub outputs_in : Keyword → List (List ℕ) → List (List ℕ)
outputs_in Outputs words = args_of words
outputs_in keyword words = []

-- the words before the last
abbrev pub front_of : List (List ℕ) → List (List ℕ)
front_of words = take (length words - 1) words

-- the nets that a line of this kind reads
abbrev pub reads_in : Keyword → List (List ℕ) → List (List ℕ)
reads_in Outputs words = args_of words
reads_in Names words = front_of (args_of words)
reads_in Latch words = latch_nets 1 (args_of words)
reads_in keyword words = []
