-- Private: a packing, and one whose last step has made its clusters but ran out of memory to share
-- them.
use Rattle.std.specs.Prelude.{◌≡◌, ◌-◌}
use Rattle.job_state.specs.Prelude.{PackedCircuit, PackingUnderWay, packed_of, packing_steps}
use Rattle.job_state.specs.declared.packing.Made.{Made}
use Rattle.job_state.specs.declared.packing.Made.TheVariants.{Growing, Whole}

-- the packing before its last step
abbrev pub before_last : PackedCircuit → PackingUnderWay
before_last packed = record { circuit = packed.circuit; arch = packed.arch; made = packing_steps packed.circuit packed.arch - 1 }

-- the packing that counts as made: clusters that are not shared yet don't count
abbrev pub packing_made : Made → PackingUnderWay
packing_made (Growing packing) = packing
packing_made (Whole packed) = before_last packed

-- all clusters are the circuit's
abbrev pub IsExact : Made → Type 0
IsExact (Growing packing) = Unit {0}
IsExact (Whole packed) = packed ≡ packed_of packed.circuit packed.arch
