-- The widest strip that a device would admit now.
use Rattle.std.specs.Prelude.{ℕ, ◌<◌, length, Option, Some, None}
use Rattle.strips.specs.declared.layout.TheConstants.{MAX_STRIPS}
use Rattle.strips.specs.Plan.{Plan, IsFirstFit}
use Rattle.device_report.specs.declared.widest.Room.{Room}

-- a strip of that width would be admitted at that offset: one more strip is allowed, and the offset
-- is the least at which it fits
abbrev pub IsAdmittedAt : Plan → ℕ → ℕ → Type 0
IsAdmittedAt plan width offset = (length plan.strips < MAX_STRIPS) × IsFirstFit plan width (Some offset)

-- the greatest width that would be admitted, with its offset; `None` if no width would be
abbrev pub IsWidest : Plan → Option Room → Type 0
IsWidest plan (Some room) = IsAdmittedAt plan room.width room.offset × ((width offset : ℕ) → room.width < width → IsAdmittedAt plan width offset → ⊥)
IsWidest plan None = (width offset : ℕ) → IsAdmittedAt plan width offset → ⊥
