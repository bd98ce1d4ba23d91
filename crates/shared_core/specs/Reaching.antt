-- How the calls of threads reach the service of a core.
use Rattle.std.specs.Prelude.{ℕ, ◌≡◌, Bool, true, false, List, [], ◌∷◌, map, All, Ok, ◌==◌, if◌then◌else◌}
use Rattle.std.specs.List.{flat_map}
use Rattle.shared_core.specs.Prelude.{Receipted, Call, Run, Tenant, Take, Put, GiveBack, ServiceState}
use Rattle.shared_core.specs.CoreState.{Marked, places_of}

-- the calls that threads make: commands that are served, and what workers do with jobs. None
-- admits, ends or moves a tenancy, and a command that is refused changes nothing
abbrev pub is_of_threads : Call → Bool
is_of_threads (Tenant id command (Ok receipt)) = true
is_of_threads (Take id answer) = true
is_of_threads (Put done foreign answer) = true
is_of_threads (GiveBack job) = true
is_of_threads call = false

-- the receipt of a call that is a command of that tenancy, and is served
abbrev pub own_receipt : ℕ → Call → List Receipted
own_receipt id (Tenant t command (Ok receipt)) = if t == id then receipt ∷ [] else []
own_receipt id call = []

-- all these receipts, in order
abbrev pub own_receipts : ℕ → List Call → List Receipted
own_receipts id calls = flat_map (own_receipt id) calls

-- calls of threads lead from the service with which the core began to this one, and the commands of
-- each tenancy that are served in them are those that its lease entered: their places are the
-- marked ones, in order
pub record IsReached (begun service : ServiceState) (marks : List Marked) : Type 0 where
  pub calls : List Call
  pub run : Run begun calls service
  pub kinds : All (λ call. is_of_threads call ≡ true) calls
  pub commands : (id : ℕ) → map (λ r. r.place) (own_receipts id calls) ≡ places_of marks id
