-- Over every run, no tenancy's strip is of width 0.
use Rattle.device_law.proofs.Prelude.{ℕ, ◌<◌, ◌+◌, List, [], ◌∷◌, length, arith, All, All-nil, All-push, Device, History, with_entry, with_here, Call, Run, ServiceState, admitted_history, empty_service, closed_history, Admitted, Effect, Entered, Evicted, Moved, Nothing, Turned, effect, All-modified}

abbrev pub IsWide : History → Type 0
IsWide h = 0 < h.strip.width

wide_after : (old new : ServiceState) → Effect old new → All IsWide old.histories → All IsWide new.histories
wide_after old new (Nothing same) was = rw same was
wide_after old new (Admitted width offset can fits is) was = rw is (All-push IsWide old.histories (admitted_history old.device (length old.histories + 1) width) was fits.0.wide)
wide_after old new (Evicted id is) was = rw is (All-modified IsWide old.histories id closed_history (λ h found wide. wide) was)
wide_after old new (Moved id offset parted is) was = rw is was
wide_after old new (Entered id e h next is) was = rw is (All-modified IsWide old.histories id (with_entry e) (λ h found wide. wide) was)
wide_after old new (Turned id here is) was = rw is (All-modified IsWide old.histories id (with_here here) (λ h found wide. wide) was)

run_wide : (old : ServiceState) (calls : List Call) (new : ServiceState) → Run old calls new → All IsWide old.histories → All IsWide new.histories
run_wide old [] new run was = rw run was
run_wide old (call ∷ calls) new run was = run_wide run.0 calls new run.2 (wide_after old run.0 (effect old call run.0 run.1) was)

pub are_wide : (device : Device) (calls : List Call) (state : ServiceState) → Run (empty_service device) calls state → All IsWide state.histories
are_wide device calls state run = run_wide (empty_service device) calls state run (All-nil IsWide)
