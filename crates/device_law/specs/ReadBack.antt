-- What the service prints for `op list` is read back.
use Rattle.std.specs.Prelude.{ℕ, ◌≡◌, ◌+◌, ◌^◌, ◌<◌, true, List, [], ◌∷◌, ◌++◌, length, codes, Option, Some, None, unwrap_or, Result, Ok, Err, ⊤}
use Rattle.device_law.specs.Prelude.{offset_of, state_text, History, state_of, ServiceState, live_of, list_text, InputFault, DeviceSize, Listed, is_name, listed_on, Seen, Step, after_line, first_line, lines_of, lines_read, list_line, nothing_seen, plus}

-- a live tenancy, as the service lists it
abbrev pub entry_of : Option History → Option ℕ → ℕ → List ℕ → List Listed
entry_of None offset id name = []
entry_of (Some h) offset id name = record { id = id; name = name; offset = unwrap_or offset 0; width = h.strip.width; state = state_text (state_of h).name } ∷ []

-- the live tenancies by rising id. The names are those of all ids, newest first
abbrev pub entries : ServiceState → List (List ℕ) → List Listed
entries service [] = []
entries service (newest ∷ older) = entries service older ++ entry_of (live_of service.histories (length older + 1)) (offset_of service.plan.strips (length older + 1)) (length older + 1) newest

-- the service holds numbers in 32 bits, and a script's names are 1 to 32 letters, digits and `_`
pub record IsPrintable (one : Listed) : Type 0 where
  pub id : one.id < 2 ^ 32
  pub name : is_name one.name ≡ true
  pub offset : one.offset < 2 ^ 32
  pub width : one.width < 2 ^ 32

abbrev pub ArePrintable : List Listed → Type 0
ArePrintable [] = ⊤
ArePrintable (one ∷ more) = IsPrintable one × ArePrintable more

-- what follows when those tenancies are read, one after another, after `number` lines
abbrev pub Reading : Type 0
Reading = Result (Seen × ℕ) InputFault

abbrev pub entries_read : List Listed → Seen → ℕ → (Seen → ℕ → Reading) → Reading
entries_read [] seen number next = next seen number
entries_read (one ∷ more) seen number next = after_line (λ s n. entries_read more s n next) (plus number 1) (list_line seen (listed_on seen.size one))

-- what is read of the heading `== op`
abbrev pub from_step : Seen → Step → Seen
from_step seen (Ok new) = new
from_step seen (Err fault) = seen

abbrev pub after_heading : DeviceSize → Seen
after_heading size = from_step (nothing_seen size) (first_line (nothing_seen size) (codes "== op") 1)

-- the next line is in the operator's section, as right after its heading, and isn't an owner's
pub record IsInside (seen : Seen) : Type 0 where
  pub place : seen.place ≡ (after_heading seen.size).place
  pub awaited : seen.awaited ≡ 0

-- reading the printed list is reading its tenancies, whatever was read before and comes after
abbrev pub IsListReadBack : Type 0
IsListReadBack = (service : ServiceState) (names : List (List ℕ)) (rest : List ℕ) (seen : Seen) (number : ℕ) → ArePrintable (entries service names) → IsInside seen →
    lines_read (lines_of (list_text service names ++ rest)) seen number ≡ entries_read (entries service names) seen number (λ s n. lines_read (lines_of rest) s n)
