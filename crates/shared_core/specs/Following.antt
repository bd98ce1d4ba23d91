-- How a service goes on from the one that a core was made with.
use Rattle.std.specs.Prelude.{ℕ, ◌≡◌, false, [], Some, length, take, IsSomeAnd}
use Rattle.shared_core.specs.Prelude.{Arch, History, ServiceState, empty_service, history_of}
use Rattle.shared_core.specs.CoreState.{is_live}

-- a history goes on: it is of the same tenancy and architecture, in a strip of the same size; its
-- entries don't change, and others only follow them; what is closed stays closed
pub record GoesOn (h g : History) : Type 0 where
  pub id : g.id ≡ h.id
  pub arch : g.arch ≡ h.arch
  pub strip : g.strip ≡ h.strip
  pub entries : take (length h.entries) g.entries ≡ h.entries
  pub closed : h.live ≡ false → g.live ≡ false

-- a service goes on: it is of the same device, and each of its histories goes on
pub record Follows (old new : ServiceState) : Type 0 where
  pub device : new.device ≡ old.device
  pub each : (id : ℕ) (h : History) → history_of old.histories id ≡ Some h → IsSomeAnd (history_of new.histories id) (GoesOn h)

-- no tenancy is admitted, ended or moved
pub record Stays (old new : ServiceState) : Type 0 where
  pub plan : new.plan ≡ old.plan
  pub count : length new.histories ≡ length old.histories
  pub live : (id : ℕ) → is_live new.histories id ≡ is_live old.histories id

-- a service that no core is made with
abbrev pub some_arch : Arch
some_arch = record { io_rat = 1; pins = []; cluster_size = 1; lut_size = 1; tracks = 1; fc_output = 1; fc_input = 1; fc_pad = 1 }

abbrev pub no_service : ServiceState
no_service = empty_service (record { arch = some_arch; columns = 1; rows = 1; text_limit = 0 })
