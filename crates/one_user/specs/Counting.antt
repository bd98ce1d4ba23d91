-- The counts of a packed netlist, and the least device that has room for them.
use Rattle.std.specs.Prelude.{ℕ, ◌≡◌, ◌+◌, ◌*◌, ◌<◌, ◌≤◌, length, Ok}
use Rattle.one_user.specs.Prelude.{circuit_of, Circuit, block_nets, packed_of}
use Rattle.one_user.specs.Outcomes.{Task, outcome_of}
use Rattle.one_user.specs.declared.counts.Counted.{Counted}
use Rattle.one_user.specs.declared.counts.Counted.TheVariants.{Counts, Refused}
use Rattle.one_user.specs.declared.figures.PackedCounts.{PackedCounts}
use Rattle.one_user.specs.declared.outcome.FlowOutcome.TheVariants.{Refused as RefusedOutcome}

-- the counts are those of the packed netlist
abbrev pub AreCounts : Task → PackedCounts → Type 0
AreCounts task counts =
    (circuit : Circuit) × (circuit_of task.text task.arch.lut_size ≡ Ok circuit) × (counts.clusters ≡ length (packed_of circuit task.arch).clusters)
    × (counts.pads ≡ length circuit.inputs + length circuit.outputs) × (counts.nets ≡ length (block_nets (packed_of circuit task.arch)))

-- the counts of the netlist, or why it is refused
abbrev pub IsCounted : Task → Counted → Type 0
IsCounted task (Counts counts) = AreCounts task counts
IsCounted task (Refused refusal) = outcome_of task ≡ RefusedOutcome refusal

-- a device of that size has a place for each cluster, and, with that many pads at each end of a
-- column, one for each pad
pub record HasRoom (counts : PackedCounts) (io_rat columns rows : ℕ) : Type 0 where
  pub blocks : counts.clusters ≤ columns * rows
  pub pads : counts.pads ≤ 2 * columns * io_rat

-- with one side less than that no square has room; with one column less no device of these rows,
-- and with one row less no device of these columns
abbrev pub NoSquareBelow : PackedCounts → ℕ → ℕ → Type 0
NoSquareBelow counts io_rat limit = (side : ℕ) → 1 ≤ side → side < limit → HasRoom counts io_rat side side → ⊥

abbrev pub NoColumnsBelow : PackedCounts → ℕ → ℕ → ℕ → Type 0
NoColumnsBelow counts io_rat rows limit = (columns : ℕ) → 1 ≤ columns → columns < limit → HasRoom counts io_rat columns rows → ⊥

abbrev pub NoRowsBelow : PackedCounts → ℕ → ℕ → ℕ → Type 0
NoRowsBelow counts io_rat columns limit = (rows : ℕ) → 1 ≤ rows → rows < limit → HasRoom counts io_rat columns rows → ⊥
