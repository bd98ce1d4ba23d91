-- What a tenancy owns in a run is on the device, and in the tenancy's strip.
use Rattle.device_law.proofs.Prelude.{◌≡◌, ℕ, ◌+◌, ◌-◌, ◌<◌, ◌≤◌, Bool, true, false, eqb, ◌&&◌, nat_le, List, [], ◌∷◌, length, map, Option, Some, None, refl, sym, ap, ◌∙◌, subst, arith, All, IsSomeAnd, option_map, if◌then◌else◌, and_parts, leb-true, All-head, All-tail, none-some, same_Some, IsArch, Arch, IsStripSize, Strip, Resource, has, is_there, moved_resource, PlacedStrip, strip_of, routed_set, Device, AreParted, History, state_of, IsDevice, IsService, IsOwner, Call, Run, IsAloneOn, ServiceState, empty_service, history_of, live_of, strip_on, its_width, run_device, run_keeps, has-moved, moved_left, if_live_some, All-history_of, history_of-past, history_of-zero, is_in_strip, is_on, AreOnDevice, size_of, strip_listed}
use Rattle.service_core.proofs.Parted.{are_parted}
use Rattle.device_law.proofs.OnDevice.{in_strip, on_device}
use Rattle.device_law.proofs.OwnThere.{Laws, routed_there}
use Rattle.device_law.proofs.Wide.{IsWide, are_wide}

-- what holds of the state after a run
pub record Stands (device : Device) (state : ServiceState) : Type 0 where
  pub kept : IsService device state.plan.strips state.histories
  pub on : state.device ≡ device
  pub parted : AreParted device state
  pub wide : All IsWide state.histories

pub after_run : (device : Device) (calls : List Call) (state : ServiceState) → Run (empty_service device) calls state → Stands device state
after_run device calls state run = grind (arith, run_device, run_keeps, are_parted, are_wide)

-- a live tenancy, with its strip
pub record Lives (device : Device) (state : ServiceState) (id : ℕ) : Type 0 where
  pub history : History
  pub live : live_of state.histories id ≡ Some history
  pub strip : PlacedStrip
  pub found : strip_of state.plan.strips id ≡ Some strip
  pub arch_is : history.arch ≡ device.arch
  pub strip_is : history.strip ≡ strip_on device strip.width
  pub width : strip.width ≡ history.strip.width
  pub some : 0 < strip.width
  pub inside : strip.offset + strip.width ≤ device.columns

pub strip_all : (P : PlacedStrip → Type 0) (strips : List PlacedStrip) (id : ℕ) (s : PlacedStrip) → strip_of strips id ≡ Some s → All P strips → P s
strip_all P [] id s is all = absurd (none-some s is)
strip_all P (t ∷ strips) id s is all =
    elim (eqb t.id id) as (λ b. (if b then Some t else strip_of strips id) ≡ Some s → P s) [
      | true ↦ λ same. subst P (same_Some _ _ same) (All-head P t strips all)
      | false ↦ λ rest. strip_all P strips id s rest (All-tail P t strips all)
    ] is

abbrev pub of_both : (device : Device) (state : ServiceState) (id : ℕ) (h : History) (s : PlacedStrip) → Stands device state → live_of state.histories id ≡ Some h → strip_of state.plan.strips id ≡ Some s → Lives device state id
of_both device state id h s stands live found =
    let here = if_live_some (history_of state.histories id) h live in
    let alone : IsAloneOn device h = All-history_of (IsAloneOn device) state.histories id h here stands.kept.alone in
    let width : s.width ≡ h.strip.width = its_width state.plan.strips state.histories id s h stands.kept.linked found live in
    let wide : 0 < h.strip.width = All-history_of IsWide state.histories id h here stands.wide in
    let within : s.offset + s.width ≤ state.plan.columns = strip_all (λ (t : PlacedStrip). t.offset + t.width ≤ state.plan.columns) state.plan.strips id s found stands.parted.parted.inside in
    let columns : state.plan.columns ≡ device.columns = stands.parted.columns in
    record {
      history = h;
      live = live;
      strip = s;
      found = found;
      arch_is = alone.arch;
      strip_is = alone.strip ∙ ap (strip_on device) (sym width);
      width = width;
      some = omega (arith, width, wide);
      inside = omega (arith, within, columns);
    }

strip_size : (device : Device) (state : ServiceState) (id : ℕ) → IsDevice device → (l : Lives device state id) → IsStripSize l.history.strip
strip_size device state id known l = grind arith

-- an owned node
pub record IsOwnedAt (device : Device) (known : IsDevice device) (state : ServiceState) (r : Resource) (id : ℕ) : Type 0 where
  pub lives : Lives device state id
  pub on : is_on (size_of device known) r ≡ true
  pub inside : is_in_strip r (strip_listed lives.strip) ≡ true

pub owned_at : Laws → (device : Device) (state : ServiceState) (r : Resource) (id : ℕ) → Stands device state → (known : IsDevice device) → IsOwner state r id → IsOwnedAt device known state r id
owned_at laws device state r id stands known owns = by_live (live_of state.histories id) refl owns
  where
    has_it : (l : Lives device state id) → has (map (moved_resource l.strip.offset) (routed_set (state_of l.history))) r ≡ true → IsOwnedAt device known state r id
    has_it l is =
        let both = and_parts (nat_le l.strip.offset r.x) (has (routed_set (state_of l.history)) (moved_left l.strip.offset r)) (sym (has-moved l.strip.offset (routed_set (state_of l.history)) r) ∙ is) in
        let right = leb-true l.strip.offset r.x both.0 in
        let left : Resource = moved_left l.strip.offset r in
        let own = routed_there laws l.history left (subst IsArch (sym l.arch_is) known.arch) (strip_size device state id known l) both.1 in
        let there : is_there device.arch (strip_on device l.strip.width) left ≡ true = sym (ap (λ (a : Arch). is_there a l.history.strip left) l.arch_is ∙ ap (λ (s : Strip). is_there device.arch s left) l.strip_is) ∙ own in
        record {
          lives = l;
          on = on_device device known l.strip.width l.strip.offset l.inside r.kind r.x r.y r.n right there;
          inside = in_strip device known l.strip.width l.strip.offset l.inside r.kind r.x r.y r.n right there;
        }

    by_strip : (h : History) → live_of state.histories id ≡ Some h → (o : Option PlacedStrip) → strip_of state.plan.strips id ≡ o →
        IsSomeAnd (option_map (λ (s : PlacedStrip). s.offset) o) (λ offset. has (map (moved_resource offset) (routed_set (state_of h))) r ≡ true) → IsOwnedAt device known state r id
    by_strip h live None found never = absurd never
    by_strip h live (Some s) found is = has_it (of_both device state id h s stands live found) is

    by_live : (o : Option History) → live_of state.histories id ≡ o → IsSomeAnd o (λ h. IsSomeAnd (option_map (λ (s : PlacedStrip). s.offset) (strip_of state.plan.strips id)) (λ offset. has (map (moved_resource offset) (routed_set (state_of h))) r ≡ true)) → IsOwnedAt device known state r id
    by_live None live never = absurd never
    by_live (Some h) live is = by_strip h live (strip_of state.plan.strips id) refl is

-- an id of a live tenancy
pub live_within : (state : ServiceState) (id : ℕ) (h : History) → history_of state.histories id ≡ Some h → (0 < id) × (id ≤ length state.histories)
live_within state id h is = grind (arith, history_of-past, history_of-zero state.histories)

pub are_on_device : Laws → (device : Device) (calls : List Call) (state : ServiceState) → (known : IsDevice device) → Run (empty_service device) calls state → AreOnDevice device known state
are_on_device laws device calls state known run = λ r id owns.
    let at = owned_at laws device state r id (after_run device calls state run) known owns in
    (at.on, subst (λ o. IsSomeAnd o (λ (s : PlacedStrip). is_in_strip r (strip_listed s) ≡ true)) (sym at.lives.found) at.inside)
