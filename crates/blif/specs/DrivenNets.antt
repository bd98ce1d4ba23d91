-- The nets of a whole text, and those that are driven.
use Rattle.std.specs.Prelude.{ℕ, ◌≡◌, ◌≤◌, Bool, List, ◌++◌, length, map}
use Rattle.blif.specs.declared.circuit.TheConstants.{MAX_NETS}
use Rattle.blif.specs.Names.{has_name}

-- the nets, the clocks among them that are inputs, and the nets that other inputs, tables and
-- latches drive
pub record DrivenNets : Type 0 where
  pub nets : List (List ℕ)
  pub clocks : List (List ℕ)
  pub drivers : List (List ℕ)

-- private: the number of nets is within the limit, and each net is marked by whether it is driven
pub record AreMarked (nets clocks drivers : List (List ℕ)) (marks : List Bool) : Type 0 where
  pub few : length nets ≤ MAX_NETS
  pub marks_are : marks ≡ map (has_name (clocks ++ drivers)) nets
