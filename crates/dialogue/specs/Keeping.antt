-- Private: bytes that are kept on a log, if there is one.
use Rattle.std.specs.Prelude.{ℕ, ◌≡◌, ◌≤◌, List, length, take, Bool, true, false, Option, Some, None, Result, Ok, Err}
use Rattle.std.specs.Io.KnownBytes.{Appends}
use Rattle.dialogue.specs.declared.dialogue.FailedDevice.{FailedDevice}
use Rattle.dialogue.specs.declared.dialogue.FailedDevice.TheVariants.{Input, Log, Output}

abbrev pub log_of : {L : Type 0} → (L → Option (List ℕ)) → Option L → Option (List ℕ)
log_of kept None = None
log_of kept (Some log) = kept log

abbrev pub log_failed : {L : Type 0} → (L → Bool) → Option L → Bool
log_failed has_failed None = false
log_failed has_failed (Some log) = has_failed log

abbrev pub failed_device : {L : Type 0} → Bool → (L → Bool) → Option L → Bool → FailedDevice → Bool
failed_device input has_failed log output Input = input
failed_device input has_failed log output Log = log_failed has_failed log
failed_device input has_failed log output Output = output

-- the log kept the bytes, or has failed
abbrev pub KeepsBytes : {L : Type 0} → (L → Option (List ℕ)) → (L → Bool) → Option L → Option L → List ℕ → Result (Unit {0}) FailedDevice → Type 0
KeepsBytes kept has_failed old new bytes (Ok u) = Appends (log_of kept old) (log_of kept new) bytes
KeepsBytes kept has_failed old new bytes (Err fault) = (fault ≡ Log) × (log_failed has_failed new ≡ true) × ((n : ℕ) × Appends (log_of kept old) (log_of kept new) (take n bytes))
