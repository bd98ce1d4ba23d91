-- A whole packing for which memory ran out when it was to be shared.
use Rattle.job_state.proofs.Prelude.{ℕ, ◌≡◌, ◌+◌, arith, Arch, Circuit, PackedCircuit, PackingUnderWay, packed_of, packing_steps, before_last}

abbrev under_way : Circuit → Arch → ℕ → PackingUnderWay
under_way circuit arch made = record { circuit = circuit; arch = arch; made = made }

-- it counts as the packing before its last step
pub before_last_is : (old : PackingUnderWay) (packed : PackedCircuit) → packed ≡ packed_of old.circuit old.arch → old.made + 1 ≡ packing_steps old.circuit old.arch → before_last packed ≡ old
unfolding packed_of
before_last_is old packed same last = grind arith
