-- Private: a longest way, traced back from its end.
use Rattle.std.specs.Prelude.{ℕ, ◌≡◌, ◌+◌, ◌<◌, List, length, slice_get, Some}
use Rattle.blif.specs.LookupTables.{LookupTable}
use Rattle.longest_path.specs.declared.reach.Reach.{Reach}
use Rattle.longest_path.specs.declared.trace.StepBack.{StepBack}
use Rattle.longest_path.specs.declared.trace.Way.{Way}
use Rattle.longest_path.specs.Paths.{AreAt, IsIn, IsWay}
use Rattle.longest_path.specs.Reaches.{IsFarthest, steps_to}
use Rattle.longest_path.specs.Settled.{IsSettled}

-- the ways of some starts are settled
abbrev pub CanTrace : List LookupTable → List Reach → Type 0
CanTrace tables reach = (starts : List ℕ) × IsSettled (length reach) tables starts reach

-- the table drives the net, and its farthest net has that number of steps
pub record Leads (reach : List Reach) (table : LookupTable) (net steps : ℕ) : Type 0 where
  pub drives : table.output ≡ net
  pub before : ℕ
  pub farthest : IsFarthest reach table.inputs before
  pub far : steps_to reach before ≡ steps

-- none of the first tables does
abbrev pub NoneLeads : List LookupTable → List Reach → ℕ → ℕ → ℕ → Type 0
NoneLeads tables reach count net steps =
    (number : ℕ) (table : LookupTable) → number < count → slice_get tables number ≡ Some table → Leads reach table net steps → ⊥

-- the table drives the net, and reads one that has that number of steps
pub record IsStepBack (tables : List LookupTable) (reach : List Reach) (net steps : ℕ) (back : StepBack) : Type 0 where
  pub table : LookupTable
  pub is : slice_get tables back.table ≡ Some table
  pub drives : table.output ≡ net
  pub reads : IsIn table.inputs back.net
  pub far : steps_to reach back.net ≡ steps

-- a way through the tables of these numbers, the last one first
pub record IsThrough (tables : List LookupTable) (from : ℕ) (numbers : List ℕ) (to : ℕ) : Type 0 where
  pub through : List LookupTable
  pub at : AreAt tables numbers through
  pub way : IsWay tables from through to

-- the way begins at a start, and has as many tables as there are steps to its end, but one
pub record IsTraced (tables : List LookupTable) (reach : List Reach) (to : ℕ) (way : Way) : Type 0 where
  pub through : IsThrough tables way.from way.tables.items to
  pub first : steps_to reach way.from ≡ 1
  pub count : length way.tables.items + 1 ≡ steps_to reach to
