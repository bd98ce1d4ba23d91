-- Private: strips that were moved to the left, one after another.
use Rattle.std.specs.Prelude.{ℕ, ◌≡◌, ◌+◌, ◌<◌, ◌≤◌, List, get_or, length}
use Rattle.strips.specs.Plan.{IsLaidOut, Plan}
use Rattle.strips.specs.declared.placed_strip.PlacedStrip.{PlacedStrip}

-- one of the strips that end before that front leaves no column between itself and a strip of that
-- width at that offset
pub record Blocks (strips : List PlacedStrip) (front offset width : ℕ) : Type 0 where
  pub place : ℕ
  pub strip : PlacedStrip
  pub within : place < length strips
  pub at : (d : PlacedStrip) → get_or strips place d ≡ strip
  pub before : strip.offset + strip.width + 1 ≤ front
  pub near : (offset < strip.offset + strip.width + 1) × (strip.offset < offset + width + 1)

-- the strips before the front leave no offset below it
abbrev pub IsFull : List PlacedStrip → ℕ → Type 0
IsFull strips front = (offset width : ℕ) → offset < front → Blocks strips front offset width

-- a strip that was at the next offset or after it is where it was; any other one is before the
-- front, and the strips before it leave no offset below its own
pub record Sits (strips : List PlacedStrip) (next front : ℕ) (old new : PlacedStrip) : Type 0 where
  pub id : new.id ≡ old.id
  pub width : new.width ≡ old.width
  pub later : next ≤ old.offset → (new.offset ≡ old.offset) × (front ≤ old.offset)
  pub done : old.offset < next → (new.offset + new.width + 1 ≤ front) × IsFull strips new.offset

-- the strips that were before the next offset are moved
pub record IsSettled (old : List PlacedStrip) (plan : Plan) (next : ℕ) : Type 0 where
  pub laid : IsLaidOut plan
  pub count : length plan.strips ≡ length old
  pub front : ℕ
  pub full : IsFull plan.strips front
  pub sits : (i : ℕ) (d : PlacedStrip) → i < length old → Sits plan.strips next front (get_or old i d) (get_or plan.strips i d)
