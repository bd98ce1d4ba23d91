-- What `op list` shows in a run is printable, on the device, by rising id, and separated.
use Rattle.device_law.proofs.Prelude.{◌≡◌, ℕ, ◌+◌, ◌^◌, ◌<◌, ◌≤◌, ◌⊎◌, true, List, [], ◌∷◌, ◌++◌, length, Option, Some, None, refl, sym, ap, ◌∙◌, subst, arith, option_map, list_all, PlacedStrip, strip_of, apart_of, StateName, state_text, Device, History, state_of, IsDevice, ServiceState, live_of, Listed, is_name, is_state, listed_on, are_parted, ArePrintable, IsPrintable, entries, entry_of, size_of}
use Rattle.tenant_slot.specs.declared.reply.StateName.TheVariants as State
use Rattle.device_law.proofs.Each.{Each, each-append, each-weaken}
use Rattle.device_law.proofs.Listing.{Fits, IsOn, fits-append, rises_after}
use Rattle.device_law.proofs.OwnerFacts.{Lives, Stands, of_both}

state_named : (name : StateName) → is_state (state_text name) ≡ true
state_named name = grind arith

-- the line of a live tenancy
pub record IsEntry (device : Device) (state : ServiceState) (count : ℕ) (one : Listed) : Type 0 where
  pub few : one.id ≤ count
  pub lives : Lives device state one.id
  pub offset_is : one.offset ≡ lives.strip.offset
  pub width_is : one.width ≡ lives.strip.width
  pub named : is_name one.name ≡ true
  pub stated : is_state one.state ≡ true

one_entry : (device : Device) (state : ServiceState) (id count : ℕ) (name : List ℕ) → Stands device state → id ≤ count → is_name name ≡ true →
    Each (IsEntry device state count) (entry_of (live_of state.histories id) (option_map (λ (s : PlacedStrip). s.offset) (strip_of state.plan.strips id)) id name)
one_entry device state id count name stands few named = by_both (live_of state.histories id) (strip_of state.plan.strips id) refl refl (stands.kept.linked id)
  where
    by_both : (l : Option History) (o : Option PlacedStrip) → live_of state.histories id ≡ l → strip_of state.plan.strips id ≡ o →
        option_map (λ (s : PlacedStrip). s.width) (strip_of state.plan.strips id) ≡ option_map (λ (h : History). h.strip.width) (live_of state.histories id) →
        Each (IsEntry device state count) (entry_of l (option_map (λ (s : PlacedStrip). s.offset) o) id name)
    by_both None o live found linked = tt
    by_both (Some h) None live found linked =
        let wrong : option_map (λ (s : PlacedStrip). s.width) None ≡ Some h.strip.width = sym (ap (option_map (λ (s : PlacedStrip). s.width)) found) ∙ (linked ∙ ap (option_map (λ (h : History). h.strip.width)) live) in absurd cc
    by_both (Some h) (Some s) live found linked =
        let both = of_both device state id h s stands live found in
        (record { few = few; lives = both; offset_is = refl; width_is = sym both.width; named = named; stated = state_named (state_of h).name }, tt)

pub are_entries : (device : Device) (state : ServiceState) (names : List (List ℕ)) → Stands device state → Each (λ name. is_name name ≡ true) names → Each (IsEntry device state (length names)) (entries state names)
are_entries device state [] stands named = tt
are_entries device state (newest ∷ older) stands named =
    each-append (IsEntry device state (length (newest ∷ older))) (entries state older) _
    (each-weaken (IsEntry device state (length older)) (IsEntry device state (length (newest ∷ older)))
    (λ one is. record { few = (let f = is.few in omega (arith, f)); lives = is.lives; offset_is = is.offset_is; width_is = is.width_is; named = is.named; stated = is.stated })
    (entries state older) (are_entries device state older stands named.1))
    (one_entry device state (length older + 1) (length (newest ∷ older)) newest stands (omega arith) named.0)

-- such a line is printable, and the device can have its strip
pub entry_prints : (device : Device) (state : ServiceState) (count : ℕ) (one : Listed) → IsDevice device → count ≤ 65535 → IsEntry device state count one → IsPrintable one
entry_prints device state count one known most is = grind arith

pub all_print : (device : Device) (state : ServiceState) (count : ℕ) (list : List Listed) → IsDevice device → count ≤ 65535 → Each (IsEntry device state count) list → ArePrintable list
all_print device state count [] known most each = tt
all_print device state count (one ∷ more) known most each = (entry_prints device state count one known most each.0, all_print device state count more known most each.1)

pub entry_on : (device : Device) (known : IsDevice device) (state : ServiceState) (count : ℕ) (one : Listed) → IsEntry device state count one → IsOn (size_of device known) one
entry_on device known state count one is = grind arith

all_apart : (device : Device) (state : ServiceState) (front : List Listed) (one : Listed) (before count : ℕ) → Stands device state → Each (IsEntry device state before) front → before < one.id → IsEntry device state count one →
    list_all (λ other. are_parted other one) front ≡ true
all_apart device state [] one before count stands each later is = refl
all_apart device state (other ∷ front) one before count stands each later is = grind (arith, apart_of, all_apart device state front one before count stands each.1 later is)

pub entries_fit : (device : Device) (state : ServiceState) (names : List (List ℕ)) → Stands device state → Each (λ name. is_name name ≡ true) names → Fits [] (entries state names)
entries_fit device state [] stands named = tt
entries_fit device state (newest ∷ older) stands named =
    let id = length older + 1 in
    let front = entries state older in
    fits-append [] front (entry_of (live_of state.histories id) (option_map (λ (s : PlacedStrip). s.offset) (strip_of state.plan.strips id)) id newest) (entries_fit device state older stands named.1)
    (by (live_of state.histories id) (option_map (λ (s : PlacedStrip). s.offset) (strip_of state.plan.strips id)) (one_entry device state id id newest stands (omega arith) named.0))
  where
    by : (l : Option History) (offset : Option ℕ) → Each (IsEntry device state (length older + 1)) (entry_of l offset (length older + 1) newest) → Fits (entries state older) (entry_of l offset (length older + 1) newest)
    by None offset each = tt
    by (Some h) offset each =
        let front = entries state older in
        let theirs = are_entries device state older stands named.1 in (
          rises_after front (length older + 1) (each-weaken (IsEntry device state (length older)) (λ (one : Listed). one.id < length older + 1) (λ one is. let f = is.few in omega (arith, f)) front theirs),
          all_apart device state front _ (length older) (length older + 1) stands theirs (omega arith) each.0,
          tt,
        )
