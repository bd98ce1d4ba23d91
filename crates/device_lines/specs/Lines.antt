-- The lines with which the service's program shows a device: those of `op list` and `op owners`,
-- and the replies that report a change.
use Rattle.std.specs.Prelude.{ℕ, ◌≡◌, ◌+◌, ◌-◌, Bool, false, ◌&&◌, ◌||◌, ◌==◌, nat_lt, nat_le, List, [], ◌∷◌, length, codes, Option, Some, None, option_map, Result, Ok, Err, if◌then◌else◌}
use Rattle.std.specs.Option.{option_or}
use Rattle.std.specs.Char.{is_ascii_alphabetic, is_ascii_alphanumeric, is_ascii_digit}
use Rattle.std.specs.List.{before_first, list_all}
use Rattle.std.specs.Str.{bytes_eq}
use Rattle.device_lines.specs.Prelude.{MAX_PINS, decimal_of, Resource, ResourceKind, Opin, Ipin, ChanX, ChanY, Pad}
use Rattle.device_lines.specs.declared.changes.Change.{Change}
use Rattle.device_lines.specs.declared.changes.Change.TheVariants.{Admission, Eviction, Other}
use Rattle.device_lines.specs.declared.device.OwnedResource.{OwnedResource}
use Rattle.device_lines.specs.declared.fault.DeviceFault.{DeviceFault}
use Rattle.device_lines.specs.declared.fault.DeviceFault.TheVariants.{BadOwner, NotThere}
use Rattle.device_lines.specs.declared.owned_line.Counted.{Counted}
use Rattle.device_lines.specs.declared.owned_line.Counted.TheVariants.{Tracks, Pins, Pads}
use Rattle.device_lines.specs.declared.owned_line.OwnerLine.{OwnerLine}
use Rattle.device_lines.specs.declared.size.DeviceSize.{DeviceSize}
use Rattle.device_lines.specs.declared.tenancy.Tenancy.{Tenancy}
use Rattle.device_lines.specs.Words.{after_text, first_number, if_given, is_space, number_field, word_field}

-- a live tenancy as a line of `op list` shows it
pub record Listed : Type 0 where
  pub id : ℕ
  pub name : List ℕ
  pub offset : ℕ
  pub width : ℕ
  pub state : List ℕ

abbrev pub listed_of : Tenancy → Listed
listed_of tenancy = record { id = tenancy.id; name = tenancy.name.now; offset = tenancy.offset; width = tenancy.width; state = tenancy.state.now }

-- a letter, a digit or `_`
abbrev pub is_name_byte : ℕ → Bool
is_name_byte byte = is_ascii_alphanumeric byte || byte == 95

-- 1 to 32 of them
abbrev pub is_name : List ℕ → Bool
is_name word = nat_lt 0 (length word) && (nat_le (length word) 32 && list_all is_name_byte word)

-- letters
abbrev pub is_state : List ℕ → Bool
is_state word = nat_lt 0 (length word) && list_all is_ascii_alphabetic word

-- a strip of that width at that offset is within the device
abbrev pub is_on_device : DeviceSize → ℕ → ℕ → Bool
is_on_device size offset width = nat_le 1 width && (nat_le width size.columns && nat_le offset (size.columns - width))

-- the tenancy with these values, if they can be a tenancy's on such a device
abbrev pub listed_on : DeviceSize → Listed → Option Listed
listed_on size listed = if is_name listed.name && (is_state listed.state && is_on_device size listed.offset listed.width) then Some listed else None

-- a line of `op list`: `ID NAME OFFSET WIDTH STATE`
unfoldable pub listed_in : DeviceSize → List ℕ → Option Listed
listed_in size line =
    if_given (number_field line) (λ id.
    if_given (word_field id.1) (λ name.
    if_given (number_field name.1) (λ offset.
    if_given (number_field offset.1) (λ width.
    listed_on size (record { id = id.0; name = name.0; offset = offset.0; width = width.0; state = width.1 })))))

-- a value for a text, and the bytes after that text; `None` if they don't begin with it
abbrev pub means : {A : Type 0} → List ℕ → List ℕ → A → Option (A × List ℕ)
means text bytes value = option_map (λ rest. (value, rest)) (after_text text bytes)

-- the kind of a wire, pin or pad, and the bytes after its word
unfoldable pub first_kind : List ℕ → Option (ResourceKind × List ℕ)
first_kind line =
    option_or (means (codes "CHANX (") line ChanX) (option_or (means (codes "CHANY (") line ChanY) (option_or (means (codes "OPIN (") line Opin) (option_or (means (codes "IPIN (") line Ipin) (means (codes "PAD (") line Pad))))

-- what the number of a wire, pin or pad counts, and the bytes after that word
unfoldable pub first_counted : List ℕ → Option (Counted × List ℕ)
first_counted line = option_or (means (codes ") Track: ") line Tracks) (option_or (means (codes ") Pin: ") line Pins) (means (codes ") Pad: ") line Pads))

-- `KIND (COLUMN,ROW) COUNTED: NUMBER owner ID`
unfoldable pub owner_line : List ℕ → Option OwnerLine
owner_line line =
    if_given (first_kind line) (λ kind.
    if_given (first_number kind.1) (λ x.
    if_given (after_text (codes ",") x.1) (λ row.
    if_given (first_number row) (λ y.
    if_given (first_counted y.1) (λ counted.
    if_given (first_number counted.1) (λ n.
    if_given (after_text (codes " owner ") n.1) (λ owner.
    option_map (λ id. record { node = record { x = x.0; kind = kind.0; y = y.0; n = n.0 }; counted = counted.0; owner = id }) (decimal_of 32 owner))))))))

-- a column or row from 1
abbrev pub is_within : ℕ → ℕ → Bool
is_within place count = nat_le 1 place && nat_le place count

-- below the first row or above the last one
abbrev pub is_end : ℕ → ℕ → Bool
is_end y rows = (y == 0) || (y == rows + 1)

-- the device has the wire, pin or pad; a block has at most 145 pins
abbrev pub is_there : DeviceSize → Resource → Counted → Bool
is_there size node counted = by node.kind counted
  where
    by : ResourceKind → Counted → Bool
    by ChanX Tracks = is_within node.x size.columns && (nat_le node.y size.rows && nat_lt node.n size.tracks)
    by ChanY Tracks = is_within node.y size.rows && (nat_le node.x size.columns && nat_lt node.n size.tracks)
    by Pad Pads = is_within node.x size.columns && (is_end node.y size.rows && nat_lt node.n size.pads)
    by Opin Pads = is_within node.x size.columns && (is_end node.y size.rows && nat_lt node.n size.pads)
    by Ipin Pads = is_within node.x size.columns && (is_end node.y size.rows && nat_lt node.n size.pads)
    by Opin Pins = is_within node.x size.columns && (is_within node.y size.rows && nat_lt node.n MAX_PINS)
    by Ipin Pins = is_within node.x size.columns && (is_within node.y size.rows && nat_lt node.n MAX_PINS)
    by kind counted = false

-- a wire, pin or pad, and the id of the tenancy that owns it
pub record OwnedNode : Type 0 where
  pub node : Resource
  pub owner : ℕ

abbrev pub owned_node : OwnedResource → OwnedNode
owned_node owned = record { node = owned.node; owner = owned.owner }

abbrev pub owned_on : DeviceSize → Option OwnerLine → Result OwnedNode DeviceFault
owned_on size None = Err BadOwner
owned_on size (Some line) = if is_there size line.node line.counted then Ok (record { node = line.node; owner = line.owner }) else Err NotThere

-- the node and the owner of a line of `op owners`, or what is wrong with it
unfoldable pub owned_in : DeviceSize → List ℕ → Result OwnedNode DeviceFault
owned_in size line = owned_on size (owner_line line)

-- private: the possible results of reading such a line
abbrev pub IsOwned : Result OwnedNode DeviceFault → Result OwnedResource DeviceFault → Type 0
IsOwned meant (Ok owned) = meant ≡ Ok (owned_node owned)
IsOwned meant (Err fault) = meant ≡ Err fault

-- the number of lines that follow a line `owners COUNT`
unfoldable pub owner_count : List ℕ → Option ℕ
owner_count line = if_given (after_text (codes "owners ") line) (decimal_of 32)

-- `ok OFFSET` or `ok ID OFFSET`, after `ok `
abbrev pub change_by : List ℕ → Option Change
change_by [] = Some Other
change_by (byte ∷ rest) = if_given (after_text (codes " ") (byte ∷ rest)) (λ offset. option_map (λ _. Admission) (decimal_of 32 offset))

-- what a reply says of a change of the device: `ok` is an eviction, `finished` the end of a job,
-- `ok OFFSET` a move, `ok ID OFFSET` an admission
unfoldable pub change_in : List ℕ → Option Change
change_in line =
    if bytes_eq line (codes "ok") then Some Eviction else
    if bytes_eq line (codes "finished") then Some Other else
    if_given (after_text (codes "ok ") line) (λ numbers. if_given (first_number numbers) (λ first. change_by first.1))

-- the first words of the other replies
abbrev pub is_reply_word : List ℕ → Bool
is_reply_word word =
    bytes_eq word (codes "ok") || bytes_eq word (codes "refused") || bytes_eq word (codes "advanced") || bytes_eq word (codes "finished") || bytes_eq word (codes "stale")
    || bytes_eq word (codes "gone") || bytes_eq word (codes "full") || bytes_eq word (codes "nomemory") || bytes_eq word (codes "none")

-- a line without anything to read: empty, or another reply
abbrev pub is_silent : List ℕ → Bool
is_silent line = (length line == 0) || is_reply_word (before_first is_space line)

abbrev pub begins_with_digit : List ℕ → Bool
begins_with_digit [] = false
begins_with_digit (byte ∷ rest) = is_ascii_digit byte
