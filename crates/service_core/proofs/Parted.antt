-- The strips stay separated over every run.
use Rattle.service_core.proofs.Prelude.{◌≡◌, ℕ, List, [], ◌∷◌, arith, All-filter, AllPairs-filter, PlacedStrip, Plan, IsParted, strips_without, IsParted-with, IsParted-with-inside, IsParted-with-apart, Device, ServiceState, empty_service, Call, Run, AreParted}
use Rattle.service_core.proofs.Effects.{Admitted, Effect, Entered, Evicted, Moved, Nothing, Turned, effect, run_keeps}

IsParted-without : (plan : Plan) (id : ℕ) → IsParted plan → IsParted (record plan { strips = strips_without plan.strips id })
IsParted-without plan id parted = search (All-filter, AllPairs-filter, arith)

-- the strips are separated on a device of `columns` columns
record IsPartedOn (columns : ℕ) (state : ServiceState) : Type 0 where
  same : state.plan.columns ≡ columns
  parted : IsParted state.plan

parted_after : (columns : ℕ) (old new : ServiceState) → Effect old new → IsPartedOn columns old → IsPartedOn columns new
parted_after columns old new (Nothing same) was = rw same was
parted_after columns old new (Admitted width offset can fits is) was =
    let nameless : PlacedStrip = record { id = 0; offset = offset; width = width } in
    let with_it : IsParted _ = fits.0.parted in
    rw is (record { same = was.same; parted = IsParted-with old.plan _ was.parted (IsParted-with-inside old.plan nameless with_it) (IsParted-with-apart old.plan nameless with_it) })
parted_after columns old new (Evicted id is) was = rw is (record { same = was.same; parted = IsParted-without old.plan id was.parted })
parted_after columns old new (Moved id offset parted is) was = rw is (record { same = was.same; parted = parted })
parted_after columns old new (Entered id e h next is) was = rw is (record { same = was.same; parted = was.parted })
parted_after columns old new (Turned id here is) was = rw is (record { same = was.same; parted = was.parted })

run_parted : (columns : ℕ) (old : ServiceState) (calls : List Call) (new : ServiceState) → Run old calls new → IsPartedOn columns old → IsPartedOn columns new
run_parted columns old [] new run was = rw run was
run_parted columns old (call ∷ calls) new run was = run_parted columns run.0 calls new run.2 (parted_after columns old run.0 (effect old call run.0 run.1) was)

pub are_parted : (device : Device) (calls : List Call) (state : ServiceState) → Run (empty_service device) calls state → AreParted device state
are_parted device calls state run = grind (arith, run_keeps, run_parted)
