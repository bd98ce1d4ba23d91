-- The first lines of the nets in a `.route` file.
use Rattle.std.specs.Prelude.{ℕ, ◌≡◌, ◌++◌, Bool, true, false, List, length, filter, codes, Some}
use Rattle.strip_files.specs.Prelude.{decimal_of, physical_lines}
use Rattle.strip_files.specs.EachLine.{AddsNext, AreEachFrom}
use Rattle.strip_files.specs.Starts.{is_net_line}
use Rattle.strip_files.specs.declared.route_text.Net.{Net}

-- what follows the name of a net
abbrev pub name_end : Bool → List ℕ
name_end true = codes "): global net connecting:"
name_end false = codes ")"

-- private: what of it ends the word with the name
abbrev pub word_end : Bool → List ℕ
word_end true = codes "):"
word_end false = codes ")"

-- the line has the number of a net, its name, and whether it is global
pub record IsNetLine (number : ℕ) (line name : List ℕ) (is_global : Bool) : Type 0 where
  pub digits : List ℕ
  pub text : line ≡ codes "Net " ++ (digits ++ (codes " (" ++ (name ++ name_end is_global)))
  pub number_is : decimal_of 32 digits ≡ Some number

-- the line of that net
abbrev pub IsLineOfNet : ℕ → List ℕ → Net → Type 0
IsLineOfNet number line net = IsNetLine number line net.name.now net.is_global

-- the lines of a text with the beginning of a net's
abbrev pub net_lines : List ℕ → List (List ℕ)
net_lines text = filter is_net_line (physical_lines text)

-- the nets are those of the text's lines, by number, with their names
abbrev pub AreNamed : List ℕ → List Net → Type 0
AreNamed text nets = AreEachFrom IsLineOfNet 0 (net_lines text) nets

-- private: the line's net is read
abbrev pub IsNetReadOn : List ℕ → List Net → List Net → Type 0
IsNetReadOn line old new = AddsNext (is_net_line line) (IsLineOfNet (length old) line) old new
