-- When two states of a tenancy stand alike.
use Rattle.std.specs.Prelude.{◌≡◌, ◌≢◌, List, [], ◌∷◌, Bool, true, false, None, ⊤}
use Rattle.tenant_slot.specs.declared.slot.TheConstants.{MAX_ENTRIES}
use Rattle.tenant_slot.specs.declared.command.Command.TheVariants.{Withdraw}
use Rattle.tenant_slot.specs.declared.event.Event.{Event}
use Rattle.tenant_slot.specs.declared.event.Event.TheVariants.{Command as Asked, Advance as Stepped}
use Rattle.tenant_slot.specs.declared.reply.StateName.{StateName}
use Rattle.tenant_slot.specs.declared.reply.StateName.TheVariants.{Empty, Loaded, Packing, Packed}
use Rattle.tenant_slot.specs.SingleUser.{State, answer_to, is_lawful, is_next, step}

-- the seed and the effort are those of a placing that runs or has ended; in other states nothing
-- depends on them
abbrev pub has_seed : StateName → Bool
has_seed Empty = false
has_seed Loaded = false
has_seed Packing = false
has_seed Packed = false
has_seed name = true

-- two states are alike but for the number of generations and entries before them, and for a seed
-- and an effort on which nothing depends
pub record StandAlike (s t : State) : Type 0 where
  pub rest : s ≡ record t { seed = s.seed; effort = s.effort; generation = s.generation; entries = s.entries }
  pub seeds : has_seed t.name ≡ true → (s.seed ≡ t.seed) × (s.effort ≡ t.effort)

-- the journal isn't full
abbrev pub HasRoom : State → Type 0
HasRoom s = s.entries ≢ MAX_ENTRIES

-- an event that changes nothing but the number of entries: a command that is refused or only asks,
-- or a step that is stale
abbrev pub ChangesNothing : State → Event → Type 0
ChangesNothing s event = (answer_to s event).0 ≡ None

abbrev pub Withdraws : State → Type 0
Withdraws s = is_lawful s.name Withdraw ≡ true

-- the same command, or in each the next step of its job
abbrev pub IsSame : State → Event → State → Event → Type 0
IsSame s (Asked command) t (Asked other) = command ≡ other
IsSame s (Asked command) t (Stepped made) = ⊥
IsSame s (Stepped made) t (Asked command) = ⊥
IsSame s (Stepped made) t (Stepped other) = (is_next s made ≡ true) × (is_next t other ≡ true)

-- the same events, one after another, while both journals have room
abbrev pub AreSame : State → List Event → State → List Event → Type 0
AreSame s [] t [] = ⊤
AreSame s [] t (other ∷ others) = ⊥
AreSame s (event ∷ events) t [] = ⊥
AreSame s (event ∷ events) t (other ∷ others) = IsSame s event t other × HasRoom s × HasRoom t × AreSame (step s event).0 events (step t other).0 others
