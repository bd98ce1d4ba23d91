-- What is read of a device, line by line, from what the service's program prints.
use Rattle.std.specs.Prelude.{ℕ, ◌≡◌, ◌+◌, ◌-◌, ◌^◌, min, Bool, true, false, not, ◌&&◌, ◌||◌, ◌==◌, nat_lt, nat_le, List, [], ◌∷◌, ◌++◌, length, map, find, position, codes, slice_get, is_some, Option, Some, None, option_map, Result, Ok, Err, ⊤, if◌then◌else◌}
use Rattle.std.specs.List.{list_all, slice_split}
use Rattle.std.specs.Option.{option_map_or, option_or}
use Rattle.std.specs.Str.{bytes_eq}
use Rattle.device_lines.specs.Prelude.{Resource, ResourceKind, ChanY, resource_rank, TextError, NoMemory, Fault}
use Rattle.device_lines.specs.declared.changes.Change.{Change}
use Rattle.device_lines.specs.declared.changes.Change.TheVariants.{Admission, Eviction, Other}
use Rattle.device_lines.specs.declared.device.ListedDevice.{ListedDevice}
use Rattle.device_lines.specs.declared.fault.DeviceFault.{DeviceFault}
use Rattle.device_lines.specs.declared.fault.DeviceFault.TheVariants.{NoSection, UnknownLine, BadTenancy, NotParted, OutOfOrder, NotListed, OutsideStrip, Unfinished, NoList, NoOwners}
use Rattle.device_lines.specs.declared.fault.InputFault.{InputFault}
use Rattle.device_lines.specs.declared.reader.Place.{Place}
use Rattle.device_lines.specs.declared.reader.Place.TheVariants.{Before, Inside, Behind}
use Rattle.device_lines.specs.declared.reader.Reader.{Reader}
use Rattle.device_lines.specs.declared.size.DeviceSize.{DeviceSize}
use Rattle.device_lines.specs.Lines.{Listed, begins_with_digit, change_in, is_silent, listed_in, OwnedNode, listed_of, owned_in, owned_node, owner_count}
use Rattle.device_lines.specs.Words.{after_text}

-- what has been read: the last list and the last owners since the last change of the device
pub record Seen : Type 0 where
  pub size : DeviceSize
  pub listed : List Listed
  pub owned : List OwnedNode
  -- the part of the output that the next line is in
  pub place : Place
  -- the previous line is one of a list
  pub in_list : Bool
  -- the number of owners' lines to come, and the number of the line before the first of them
  pub awaited : ℕ
  pub heading : ℕ
  -- the number of live tenancies, by the admissions and evictions
  pub live : ℕ
  -- the number of the line that changed the device last, and whether owners came after it
  pub changed : ℕ
  pub has_owners : Bool

abbrev pub seen_of : Reader → Seen
seen_of reader = record {
  size = reader.device.size;
  listed = map listed_of reader.device.tenancies.items;
  owned = map owned_node reader.device.owned.items;
  place = reader.place;
  in_list = reader.in_list;
  awaited = reader.awaited;
  heading = reader.heading;
  live = reader.live;
  changed = reader.changed;
  has_owners = reader.has_owners;
}

-- before the first line
abbrev pub nothing_seen : DeviceSize → Seen
nothing_seen size = record { size = size; listed = []; owned = []; place = Before; in_list = false; awaited = 0; heading = 0; live = 0; changed = 0; has_owners = false }

abbrev pub Step : Type 0
Step = Result Seen DeviceFault

-- the last element
abbrev pub last_of : {A : Type 0} → List A → Option A
last_of xs = slice_get xs (length xs - 1)

-- a list's ids rise
abbrev pub rises : Option Listed → ℕ → Bool
rises None id = true
rises (Some last) id = nat_lt last.id id

-- at least one unused column is between two strips
abbrev pub are_parted : Listed → Listed → Bool
are_parted a b = nat_lt (a.offset + a.width) b.offset || nat_lt (b.offset + b.width) a.offset

-- the list that a line with that id goes on with: the one whose lines came right before it, if the
-- id follows; otherwise a new one
abbrev pub list_before : Seen → ℕ → List Listed
list_before seen id = if seen.in_list && rises (last_of seen.listed) id then seen.listed else []

abbrev pub seen_in_list : Seen → ℕ → Seen
seen_in_list seen id = record seen { listed = list_before seen id; in_list = true }

abbrev pub with_listed : Seen → Listed → Step
with_listed seen one = if list_all (λ other. are_parted other one) seen.listed then Ok (record seen { listed = seen.listed ++ one ∷ [] }) else Err NotParted

abbrev pub list_line : Seen → Option Listed → Step
list_line seen None = Err BadTenancy
list_line seen (Some one) = with_listed (seen_in_list seen one.id) one

-- a resource comes before another in node order
abbrev pub is_earlier : Resource → Resource → Bool
is_earlier a b =
    nat_lt a.x b.x || ((a.x == b.x) && (nat_lt (resource_rank a.kind) (resource_rank b.kind) || ((resource_rank a.kind == resource_rank b.kind) && (nat_lt a.y b.y || ((a.y == b.y) && nat_lt a.n b.n)))))

abbrev pub follows : Option OwnedNode → OwnedNode → Bool
follows None one = true
follows (Some last) one = is_earlier last.node one.node

-- an owner's line, after which `rest` more are to come
abbrev pub with_owned : Seen → ℕ → OwnedNode → Step
with_owned seen rest one = if follows (last_of seen.owned) one then Ok (record seen { owned = seen.owned ++ one ∷ []; awaited = rest }) else Err OutOfOrder

abbrev pub owner_seen : Seen → ℕ → Result OwnedNode DeviceFault → Step
owner_seen seen rest (Err fault) = Err fault
owner_seen seen rest (Ok one) = with_owned seen rest one

-- the number of live tenancies after a change. Numbers stop at the largest one that they can hold
abbrev pub live_after : ℕ → Change → ℕ
live_after live Admission = min (live + 1) (2 ^ 32 - 1)
live_after live Eviction = live - 1
live_after live Other = live

-- what was read before a change counts no more
abbrev pub changed_by : Seen → ℕ → Change → Seen
changed_by seen number change = record seen { listed = []; owned = []; live = live_after seen.live change; changed = number; has_owners = false }

abbrev pub with_change : Seen → ℕ → Option Change → Seen
with_change seen number None = seen
with_change seen number (Some change) = changed_by seen number change

-- a reply that isn't a line of a list: a heading ends the section
abbrev pub other_line : Seen → List ℕ → ℕ → Option ℕ → Step
other_line seen line number (Some count) = Ok (record seen { owned = []; awaited = count; heading = number; has_owners = true })
other_line seen line number None = if is_silent line then Ok (with_change seen number (change_in line)) else Err UnknownLine

abbrev pub reply_line : Seen → List ℕ → ℕ → Step
reply_line seen line number =
    if begins_with_digit line then list_line seen (listed_in seen.size line) else
    if is_some (after_text (codes "== ") line) then Ok (record seen { in_list = false; place = Behind }) else other_line (record seen { in_list = false }) line number (owner_count line)

abbrev pub inside_line : Seen → List ℕ → ℕ → Step
inside_line seen line number = if seen.awaited == 0 then reply_line seen line number else owner_seen seen (seen.awaited - 1) (owned_in seen.size line)

abbrev pub first_line : Seen → List ℕ → ℕ → Step
first_line seen line number = if bytes_eq line (codes "== op") then Ok (record seen { place = Inside; changed = number }) else Err NoSection

-- a line with that number
abbrev pub line_at : Place → Seen → List ℕ → ℕ → Step
line_at Before seen line number = first_line seen line number
line_at Inside seen line number = inside_line seen line number
line_at Behind seen line number = Ok seen

abbrev pub line_read : Seen → List ℕ → ℕ → Step
line_read seen line number = line_at seen.place seen line number

-- lines are counted from 1, up to the largest number
abbrev pub plus : ℕ → ℕ → ℕ
plus a b = min (a + b) (2 ^ 64 - 1)

-- a fault with the number of its line
abbrev pub at_line : ℕ → DeviceFault → InputFault
at_line line fault = record { fault = fault; line = line }

abbrev pub after_line : (Seen → ℕ → Result (Seen × ℕ) InputFault) → ℕ → Step → Result (Seen × ℕ) InputFault
after_line next number (Ok seen) = next seen number
after_line next number (Err fault) = Err (at_line number fault)

-- lines one after another, after `number` lines: what was read and the number of all lines, or the
-- first fault
unfoldable pub lines_read : List (List ℕ) → Seen → ℕ → Result (Seen × ℕ) InputFault
lines_read [] seen number = Ok (seen, number)
lines_read (line ∷ lines) seen number = after_line (lines_read lines) (plus number 1) (line_read seen line (plus number 1))

-- what is missing at the end
abbrev pub missing_inside : Seen → ℕ → Option InputFault
missing_inside seen lines =
    if nat_lt 0 seen.awaited then Some (at_line lines Unfinished) else
    if nat_lt 0 seen.live && (length seen.listed == 0) then Some (at_line seen.changed NoList) else
    if not seen.has_owners then Some (at_line seen.changed NoOwners) else None

abbrev pub missing_at : Place → Seen → ℕ → Option InputFault
missing_at Before seen lines = Some (at_line lines NoSection)
missing_at Inside seen lines = missing_inside seen lines
missing_at Behind seen lines = missing_inside seen lines

abbrev pub missing_part : Seen → ℕ → Option InputFault
missing_part seen lines = missing_at seen.place seen lines

-- a node is in a column of the strip, or in the vertical channel before its first column
abbrev pub is_chan_y : ResourceKind → Bool
is_chan_y ChanY = true
is_chan_y other = false

abbrev pub is_in_strip : Resource → Listed → Bool
is_in_strip node strip = (nat_lt strip.offset node.x && nat_le node.x (strip.offset + strip.width)) || (is_chan_y node.kind && (node.x == strip.offset))

-- the tenancy with an id
abbrev pub with_id : List Listed → ℕ → Option Listed
with_id listed id = find (λ one. one.id == id) listed

abbrev pub is_owners : List Listed → OwnedNode → Bool
is_owners listed owned = option_map_or (is_in_strip owned.node) (with_id listed owned.owner) false

-- the first node that isn't in its owner's strip
abbrev pub first_foreign : Seen → Option ℕ
first_foreign seen = position (λ one. not (is_owners seen.listed one)) seen.owned

-- what is wrong with a node that isn't
abbrev pub foreign_fault : List Listed → Option OwnedNode → DeviceFault
foreign_fault listed None = NotListed
foreign_fault listed (Some one) = if is_some (with_id listed one.owner) then OutsideStrip else NotListed

abbrev pub owner_fault : Seen → ℕ → InputFault
owner_fault seen place = at_line (plus (plus seen.heading place) 1) (foreign_fault seen.listed (slice_get seen.owned place))

-- the fault of the end: something is missing, or a node isn't in its owner's strip
unfoldable pub last_fault : Seen → ℕ → Option InputFault
last_fault seen lines = option_or (missing_part seen lines) (option_map (owner_fault seen) (first_foreign seen))

abbrev pub is_feed : ℕ → Bool
is_feed byte = byte == 10

-- the lines of a text: what is before, between and after its line feeds
unfoldable pub lines_of : List ℕ → List (List ℕ)
lines_of text = slice_split is_feed text

abbrev pub unless_fault : Seen → Option InputFault → Result Seen InputFault
unless_fault seen (Some fault) = Err fault
unless_fault seen None = Ok seen

abbrev pub end_of : Result (Seen × ℕ) InputFault → Result Seen InputFault
end_of (Ok read) = unless_fault read.0 (last_fault read.0 read.1)
end_of (Err fault) = Err fault

-- the device of that size that an output shows, or the first fault
unfoldable pub device_in : DeviceSize → List ℕ → Result Seen InputFault
device_in size output = end_of (lines_read (lines_of output) (nothing_seen size) 0)

-- a device has what was read
pub record Has (device : ListedDevice) (seen : Seen) : Type 0 where
  pub size : device.size ≡ seen.size
  pub listed : map listed_of device.tenancies.items ≡ seen.listed
  pub owned : map owned_node device.owned.items ≡ seen.owned

-- an error of reading: the first fault, or that memory ran out
abbrev pub IsError : {A : Type 0} → Result A InputFault → TextError InputFault → Type 0
IsError meant (Fault fault) = meant ≡ Err fault
IsError meant NoMemory = ⊤

-- the possible results of reading an output: its device, or an error
abbrev pub Gives : Result Seen InputFault → Result ListedDevice (TextError InputFault) → Type 0
Gives meant (Ok device) = (seen : Seen) × (meant ≡ Ok seen) × Has device seen
Gives meant (Err error) = IsError meant error

-- private: a refusal of a line with its number
abbrev pub error_at : ℕ → TextError DeviceFault → TextError InputFault
error_at line NoMemory = NoMemory
error_at line (Fault fault) = Fault (at_line line fault)

-- private: the possible results of the parts of reading
abbrev pub IsStep : Step → Seen → Result (Unit {0}) (TextError DeviceFault) → Type 0
IsStep meant new (Ok nothing) = meant ≡ Ok new
IsStep meant new (Err (Fault fault)) = meant ≡ Err fault
IsStep meant new (Err NoMemory) = ⊤

abbrev pub AreLines : Result (Seen × ℕ) InputFault → Seen → Result ℕ (TextError InputFault) → Type 0
AreLines meant new (Ok lines) = meant ≡ Ok (new, lines)
AreLines meant new (Err error) = IsError meant error

abbrev pub IsRead : Result Seen InputFault → Seen → Result (Unit {0}) (TextError InputFault) → Type 0
IsRead meant new (Ok nothing) = meant ≡ Ok new
IsRead meant new (Err error) = IsError meant error

abbrev pub later_lines : Option (List ℕ) → List (List ℕ)
later_lines None = []
later_lines (Some rest) = lines_of rest
