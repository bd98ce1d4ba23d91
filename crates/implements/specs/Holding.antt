-- When logic elements (BLEs) are the tables and latches of a circuit.
use Rattle.std.specs.Prelude.{ℕ, ◌≡◌, Bool, true, false, ◌&&◌, ◌||◌, ◌==◌, List, [], ◌∷◌, All, Option, Some, None, count_by, length}
use Rattle.std.specs.List.{list_all, list_any}
use Rattle.implements.specs.Prelude.{Circuit, Latch, LookupTable, distinct_nets, has, LogicElement, is_read_once}

-- the BLE receives these nets, each once, and no others
abbrev pub receives : LogicElement → List ℕ → Bool
receives element nets = (length element.inputs == length (distinct_nets nets)) && (list_all (has nets) element.inputs && list_all (has element.inputs) nets)

-- both are the same net, or neither is a net
abbrev pub is_same_net : Option ℕ → Option ℕ → Bool
is_same_net None None = true
is_same_net (Some net) (Some other) = net == other
is_same_net _ _ = false

-- the BLE is that table
abbrev pub is_table : LogicElement → LookupTable → Bool
is_table element table = (element.output == table.output) && (receives element table.inputs && is_same_net element.clock None)

-- the BLE is that latch
abbrev pub is_latch : LogicElement → Latch → Bool
is_latch element latch = (element.output == latch.output) && (receives element (latch.input ∷ []) && is_same_net element.clock latch.control)

-- the BLE is the table and the latch together, and nothing but the latch reads what the table
-- drives
abbrev pub is_pair : Circuit → LogicElement → LookupTable → Latch → Bool
is_pair circuit element table latch =
    ((latch.input == table.output) && is_read_once circuit table.output)
    && ((element.output == latch.output) && (receives element table.inputs && is_same_net element.clock latch.control))

abbrev pub holds_table : Circuit → LogicElement → LookupTable → Bool
holds_table circuit element table = is_table element table || list_any (is_pair circuit element table) circuit.latches

abbrev pub holds_latch : Circuit → LogicElement → Latch → Bool
holds_latch circuit element latch = is_latch element latch || list_any (λ table. is_pair circuit element table latch) circuit.tables

-- each BLE is a table, a latch or both, and each table and each latch of the circuit is in exactly
-- one BLE
pub record AreBlesOf (circuit : Circuit) (elements : List LogicElement) : Type 0 where
  pub each : All (λ element. (list_any (holds_table circuit element) circuit.tables || list_any (holds_latch circuit element) circuit.latches) ≡ true) elements
  pub tables : All (λ table. count_by (λ element. holds_table circuit element table) elements ≡ 1) circuit.tables
  pub latches : All (λ latch. count_by (λ element. holds_latch circuit element latch) elements ≡ 1) circuit.latches
