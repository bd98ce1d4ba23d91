-- What the calls of an outlet do.
use Rattle.std.specs.Prelude.{ℕ, List, [], ◌∷◌, Bool, false, Option, Some, None, Result, Ok, Err, is_some}
use Rattle.live_threads.specs.Prelude.{Fails, Happens, View, Kept, Told, FailedDevice, Input, Log, Output}
use Rattle.live_threads.specs.declared.outlet.Devices.{Devices}

-- the bytes are kept
abbrev pub Keeps : View → View → List ℕ → Result (Unit {0}) FailedDevice → Type 0
Keeps old new bytes (Ok u) = Happens old new (Kept bytes ∷ [])
Keeps old new bytes (Err fault) = Fails old new fault Kept bytes

-- the bytes are told
abbrev pub Tells : View → View → List ℕ → Result (Unit {0}) FailedDevice → Type 0
Tells old new bytes (Ok u) = Happens old new (Told bytes ∷ [])
Tells old new bytes (Err fault) = Fails old new fault Told bytes

-- private: the bytes of a log, if there is one
abbrev pub log_of : {L : Type 0} → (L → Option (List ℕ)) → Option L → Option (List ℕ)
log_of kept None = None
log_of kept (Some log) = kept log

-- private: whether a log has failed, if there is one
abbrev pub log_failed : {L : Type 0} → (L → Bool) → Option L → Bool
log_failed has_failed None = false
log_failed has_failed (Some log) = has_failed log

-- private: whether that device has failed
abbrev pub has_failed : {L : Type 0} → (L → Bool) → Option L → Bool → FailedDevice → Bool
has_failed failed log output Input = false
has_failed failed log output Log = log_failed failed log
has_failed failed log output Output = output

-- what one sees of a log and an output
abbrev pub view_of : {W L : Type 0} → (W → Option (List ℕ)) → (W → Bool) → (L → Option (List ℕ)) → (L → Bool) → Devices W L → View
view_of contents writer_failed kept log_failed devices = record {
  remaining = None;
  has_log = is_some devices.log;
  log = log_of kept devices.log;
  output = contents devices.writer;
  history = None;
  has_failed = has_failed log_failed devices.log (writer_failed devices.writer);
}
