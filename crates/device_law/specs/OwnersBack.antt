-- What the service prints for `op owners` is read back.
use Rattle.std.specs.Prelude.{ℕ, ◌≡◌, ◌+◌, ◌-◌, ◌^◌, ◌<◌, Bool, ◌&&◌, ◌||◌, ◌==◌, nat_le, nat_lt, List, [], ◌∷◌, ◌++◌, length, map, true, false, Result, Ok, Err, All, AllPairs, if◌then◌else◌}
use Rattle.device_law.specs.Prelude.{MAX_PINS, Resource, ResourceKind, Opin, Ipin, ChanX, ChanY, Pad, IsEarlier, Owned, owners_text, DeviceFault, NotThere, DeviceSize, OwnedNode, is_end, is_within, Seen, after_line, lines_of, lines_read, owner_seen, plus}
use Rattle.device_law.specs.ReadBack.{IsInside, Reading}

-- a device of that size has the pad
abbrev pub is_pad_on : DeviceSize → Resource → Bool
is_pad_on size r = is_within r.x size.columns && (is_end r.y size.rows && nat_lt r.n size.pads)

-- a pin is a pad's in the rows of pads, and a block's in the other rows; a block has at most 145
-- pins
abbrev pub is_pin_on : DeviceSize → Resource → Bool
is_pin_on size r = if (r.y == 0) || nat_lt size.rows r.y then is_pad_on size r else is_within r.x size.columns && (is_within r.y size.rows && nat_lt r.n MAX_PINS)

-- a device of that size has the wire, pin or pad of that kind
abbrev pub is_on_by : ResourceKind → DeviceSize → Resource → Bool
is_on_by ChanX size r = is_within r.x size.columns && (nat_le r.y size.rows && nat_lt r.n size.tracks)
is_on_by ChanY size r = is_within r.y size.rows && (nat_le r.x size.columns && nat_lt r.n size.tracks)
is_on_by Opin size r = is_pin_on size r
is_on_by Ipin size r = is_pin_on size r
is_on_by Pad size r = is_pad_on size r

abbrev pub is_on : DeviceSize → Resource → Bool
is_on size r = is_on_by r.kind size r

-- a resource and its owner
abbrev pub node_of : Owned → OwnedNode
node_of owned = record { node = owned.resource; owner = owned.id }

abbrev pub owned_as : DeviceSize → Owned → Result OwnedNode DeviceFault
owned_as size owned = if is_on size owned.resource then Ok (node_of owned) else Err NotThere

-- numbers of 32 bits
pub record IsSmall (owned : Owned) : Type 0 where
  pub x : owned.resource.x < 2 ^ 32
  pub y : owned.resource.y < 2 ^ 32
  pub n : owned.resource.n < 2 ^ 32
  pub id : owned.id < 2 ^ 32

-- what follows when that many owners are announced in a line, and when they are read, one after
-- another
abbrev pub after_count : Seen → ℕ → ℕ → Seen
after_count seen number count = record seen { in_list = false; owned = []; awaited = count; heading = number; has_owners = true }

abbrev pub owners_read : List Owned → Seen → ℕ → (Seen → ℕ → Reading) → Reading
owners_read [] seen number next = next seen number
owners_read (one ∷ more) seen number next = after_line (λ s n. owners_read more s n next) (plus number 1) (owner_seen seen (seen.awaited - 1) (owned_as seen.size one))

-- reading the printed owners is reading each node with its owner, whatever was read before and
-- comes after
abbrev pub AreOwnersReadBack : Type 0
AreOwnersReadBack = (owners : List Owned) (rest : List ℕ) (seen : Seen) (number : ℕ) → length owners < 2 ^ 32 → All IsSmall owners → IsInside seen →
    lines_read (lines_of (owners_text seen.size.rows owners ++ rest)) seen number ≡ owners_read owners (after_count seen (plus number 1) (length owners)) (plus number 1) (λ s n. lines_read (lines_of rest) s n)

-- the number of the last of their lines, after that many lines
abbrev pub last_line : ℕ → List Owned → ℕ
last_line number [] = number
last_line number (one ∷ more) = last_line (plus number 1) more

-- the owners that were read
abbrev pub with_owners : Seen → ℕ → List Owned → Seen
with_owners seen number owners = record (after_count seen number 0) { owned = map node_of owners }

-- If the device has all of them, and they are in node order, then what is read is exactly the list:
-- each node with its owner.
abbrev pub AreExactlyRead : Type 0
AreExactlyRead = (owners : List Owned) (rest : List ℕ) (seen : Seen) (number : ℕ) → length owners < 2 ^ 32 → All IsSmall owners → IsInside seen →
    All (λ o. is_on seen.size o.resource ≡ true) owners → AllPairs (λ a b. IsEarlier a.resource b.resource) owners →
    lines_read (lines_of (owners_text seen.size.rows owners ++ rest)) seen number ≡ lines_read (lines_of rest) (with_owners seen (plus number 1) owners) (last_line (plus number 1) owners)
