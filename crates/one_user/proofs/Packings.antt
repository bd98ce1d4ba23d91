-- The progress after the last step of a packing.
use Rattle.one_user.proofs.Prelude.{ℕ, ◌≡◌, true, Ok, Err, arith, circuit_of, Circuit, PackedCircuit, packed_of, is_last, is_whole, packing_sources, kind_of, Progress, Work, HasCounts, IsWhole, Task, AreCounts, IsTold, PackedCounts}
use Rattle.job_state.specs.declared.progress.Progress.TheVariants as told
use Rattle.job_state.specs.declared.sources.JobKind.TheVariants.{Packing as PackingJob}
use Rattle.job_state.specs.declared.work.Work.TheVariants.{Packed}

-- a packing that is whole
packed_work : (work : Work) → kind_of work ≡ PackingJob → is_whole work ≡ true → (packed : PackedCircuit) × (work ≡ Packed packed)
packed_work work kind whole = grind arith

pub packing_told : (task : Task) (circuit : Circuit) (number : ℕ) (progress : Progress) → circuit_of task.text task.arch.lut_size ≡ Ok circuit →
    is_last (packing_sources task.arch task.strip task.text) number ≡ true → IsTold (packing_sources task.arch task.strip task.text) number progress →
    IsWhole progress × ((counts : PackedCounts) → HasCounts progress counts → AreCounts task counts)
unfolding packed_of
packing_told task circuit number progress said last is = grind arith
