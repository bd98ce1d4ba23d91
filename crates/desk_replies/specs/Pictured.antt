-- How the tool that draws a device ends.
use Rattle.std.specs.Prelude.{ℕ, ◌≡◌, ◌⊎◌, List, Option, Ok, Err, IfSome, ⊤}
use Rattle.desk_replies.specs.Prelude.{Gives, device_in, ListedDevice, DeviceSize, Outcome, Done, InputFailed, NoMemory, OutputFailed, ReplyRefused}

-- why a text is refused: it has this fault, or memory ran out
abbrev pub IsRefusedText : DeviceSize → List ℕ → Outcome → Type 0
IsRefusedText size printed NoMemory = ⊤
IsRefusedText size printed (ReplyRefused fault) = device_in size printed ≡ Err fault
IsRefusedText size printed other = ⊥

-- a picture of the device that the text prints is drawn, or the output fails, or the text is
-- refused
abbrev pub IsTextEnd : DeviceSize → List ℕ → Outcome → Type 0
IsTextEnd size printed Done = (device : ListedDevice) × Gives (device_in size printed) (Ok device)
IsTextEnd size printed OutputFailed = ⊤
IsTextEnd size printed other = IsRefusedText size printed other

-- the same of the text of the whole input, if that is known
pub record IsInputEnd (input : Option (List ℕ)) (size : DeviceSize) (outcome : Outcome) : Type 0 where
  pub printed : List ℕ
  pub are_printed : IfSome input (λ bytes. printed ≡ bytes)
  pub end : IsTextEnd size printed outcome

-- or the input could not be read, or memory ran out
abbrev pub IsPictureEnd : Option (List ℕ) → DeviceSize → Outcome → Type 0
IsPictureEnd input size outcome = (outcome ≡ InputFailed) ⊎ ((outcome ≡ NoMemory) ⊎ IsInputEnd input size outcome)
