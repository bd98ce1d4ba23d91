-- What a change of one tenancy preserves: exactly the live tenancies have strips, and each is
-- served as if alone.
use Rattle.service_core.proofs.Prelude.{◌≡◌, ℕ, ◌+◌, ◌-◌, ◌<◌, List, [], ◌∷◌, ◌++◌, length, get_or, Bool, true, false, Option, Some, None, refl, sym, ap, ◌∙◌, arith, length-append, option_map, if◌then◌else◌, nat_tests, All-nil, All-push, set, set-get_or, PlacedStrip, strip_of, strips_without, strip_of-without, strip_of-push, step, Device, Entry, History, IsReplayed, state_of, with_entry, with_here, closed_history, if_live, IsAloneOn, admitted_history, history_of, live_of, with_changed, IsLiveIn, IsService}
use Rattle.service_core.proofs.Lists.{history_of-past, history_of-modified, history_of-push, length-modified, All-modified, set-modified}
use Rattle.service_core.proofs.Histories.{IsReplayed-push}

-- a change that keeps a tenancy's id, its architecture, its strip and its text limit
pub record Keeps (change : History → History) : Type 0 where
  pub id : (h : History) → (change h).id ≡ h.id
  pub arch : (h : History) → (change h).arch ≡ h.arch
  pub strip : (h : History) → (change h).strip ≡ h.strip
  pub limit : (h : History) → (change h).text_limit ≡ h.text_limit

pub Keeps-with_entry : (e : Entry) → Keeps (with_entry e)
Keeps-with_entry e = record { id = λ h. refl; arch = λ h. refl; strip = λ h. refl; limit = λ h. refl }

pub Keeps-with_here : (here : Option Bool) → Keeps (with_here here)
Keeps-with_here here = record { id = λ h. refl; arch = λ h. refl; strip = λ h. refl; limit = λ h. refl }

pub Keeps-closed : Keeps closed_history
Keeps-closed = record { id = λ h. refl; arch = λ h. refl; strip = λ h. refl; limit = λ h. refl }

abbrev width_in : Option History → Option ℕ
width_in o = option_map (λ h. h.strip.width) (if_live o)

width_some : (g : History) → width_in (Some g) ≡ (if g.live then Some g.strip.width else None)
width_some g = elim g.live as (λ b. option_map (λ (h : History). h.strip.width) (if b then Some g else None) ≡ (if b then Some g.strip.width else None)) [ true ↦ refl | false ↦ refl ]

-- a tenancy that stays live keeps its width
same_width : (change : History → History) → Keeps change → ((h : History) → (change h).live ≡ h.live) → (o : Option History) → width_in (option_map change o) ≡ width_in o
same_width change keeps live o = grind arith

no_width : (o : Option History) → width_in (option_map closed_history o) ≡ None
no_width o = grind arith

ids-modified : (hs : List History) (t : ℕ) (change : History → History) → Keeps change → ((id : ℕ) (h : History) → history_of hs id ≡ Some h → h.id ≡ id) → (id : ℕ) (h : History) → history_of (with_changed hs t change) id ≡ Some h → h.id ≡ id
ids-modified hs t change keeps ids id h is = grind (arith, history_of-modified)

alone-changed : (device : Device) (change : History → History) (h : History) → Keeps change → IsAloneOn device h → IsReplayed (change h).arch (change h).strip (change h).entries → IsAloneOn device (change h)
alone-changed device change h keeps was replayed = grind arith

-- a tenancy that stays live
IsService-changed : (device : Device) (strips : List PlacedStrip) (hs : List History) (id : ℕ) (change : History → History) → IsService device strips hs → Keeps change → ((h : History) → (change h).live ≡ h.live) → ((h : History) → history_of hs id ≡ Some h → IsReplayed h.arch h.strip h.entries → IsReplayed (change h).arch (change h).strip (change h).entries) → IsService device strips (with_changed hs id change)
IsService-changed device strips hs id change was keeps live replays = record {
  linked = λ other. was.linked other ∙ (grind (arith, nat_tests, history_of-modified hs id other change, same_width change keeps live (history_of hs other)));
  few = omega (arith, length-modified hs id change, was.few);
  ids = ids-modified hs id change keeps was.ids;
  alone = All-modified (IsAloneOn device) hs id change (λ h at is. alone-changed device change h keeps is (replays h at is.replayed)) was.alone;
}

pub IsService-entry : (device : Device) (strips : List PlacedStrip) (hs : List History) (id : ℕ) (old : History) (e : Entry) → IsService device strips hs → history_of hs id ≡ Some old → (step (state_of old) e.event).1 ≡ Some e.reply → IsService device strips (with_changed hs id (with_entry e))
IsService-entry device strips hs id old e was here told =
    IsService-changed device strips hs id (with_entry e) was (Keeps-with_entry e) (λ h. refl) (λ h at is. let same : old ≡ h = cc (here, at) in IsReplayed-push h.arch h.strip h.entries e is (rw (← same) told))

pub IsService-here : (device : Device) (strips : List PlacedStrip) (hs : List History) (id : ℕ) (here : Option Bool) → IsService device strips hs → IsService device strips (with_changed hs id (with_here here))
IsService-here device strips hs id here was = IsService-changed device strips hs id (with_here here) was (Keeps-with_here here) (λ h. refl) (λ h at is. is)

pub IsService-evicted : (device : Device) (strips : List PlacedStrip) (hs : List History) (id : ℕ) → IsService device strips hs → IsService device (strips_without strips id) (with_changed hs id closed_history)
IsService-evicted device strips hs id was = record {
  linked = λ other. grind (arith, nat_tests, history_of-modified hs id other closed_history, strip_of-without strips id other, no_width (history_of hs other), was.linked other);
  few = omega (arith, length-modified hs id closed_history, was.few);
  ids = ids-modified hs id closed_history Keeps-closed was.ids;
  alone = All-modified (IsAloneOn device) hs id closed_history (λ h at is. record { arch = is.arch; strip = is.strip; limit = is.limit; replayed = is.replayed }) was.alone;
}

-- the next id has no strip
pub no_strip-next : (device : Device) (strips : List PlacedStrip) (hs : List History) → IsService device strips hs → strip_of strips (length hs + 1) ≡ None
no_strip-next device strips hs was = grind (arith, history_of-past)

ids-push : (hs : List History) (h : History) → h.id ≡ length hs + 1 → ((id : ℕ) (g : History) → history_of hs id ≡ Some g → g.id ≡ id) → (id : ℕ) (g : History) → history_of (hs ++ h ∷ []) id ≡ Some g → g.id ≡ id
ids-push hs h its ids id g is = grind (arith, history_of-push)

pub IsService-admitted : (device : Device) (strips : List PlacedStrip) (hs : List History) (width offset : ℕ) → IsService device strips hs → length hs < 65535 → IsService device (strips ++ record { id = length hs + 1; offset = offset; width = width } ∷ []) (hs ++ admitted_history device (length hs + 1) width ∷ [])
IsService-admitted device strips hs width offset was few =
    let strip : PlacedStrip = record { id = length hs + 1; offset = offset; width = width } in
    let h : History = admitted_history device (length hs + 1) width in
    record {
      linked = λ other. grind (arith, nat_tests, history_of-push hs h other, strip_of-push strips strip other (no_strip-next device strips hs was), was.linked other);
      few = omega (arith, length-append hs (h ∷ []));
      ids = ids-push hs h refl was.ids;
      alone = All-push (IsAloneOn device) hs h was.alone (record { arch = refl; strip = refl; limit = refl; replayed = record { told = refl; count = refl; few = omega arith } });
    }

pub IsService-empty : (device : Device) → IsService device [] []
IsService-empty device = record { linked = λ id. refl; few = omega arith; ids = λ id h never. cc; alone = All-nil (IsAloneOn device) }

-- a live tenancy is the one at its index
pub history-live : (hs : List History) (id : ℕ) (old : History) → IsLiveIn hs id → old ≡ get_or hs (id - 1) old → history_of hs id ≡ Some old
history-live hs id old live is = live.history old ∙ ap Some (sym is)

pub live_is : (hs : List History) (id : ℕ) (old : History) → IsLiveIn hs id → old ≡ get_or hs (id - 1) old → live_of hs id ≡ Some old
live_is hs id old live is = grind arith

-- a live tenancy is written back
pub set-live : (hs : List History) (id : ℕ) (old : History) (change : History → History) (new : History) → IsLiveIn hs id → old ≡ get_or hs (id - 1) old → new ≡ change old → set hs (id - 1) new ≡ with_changed hs id change
set-live hs id old change new live is changes = rw changes (set-modified hs id old change live.positive live.within is)

-- a live tenancy is written back unchanged
pub set-kept : (hs : List History) (id : ℕ) (old new : History) → old ≡ get_or hs (id - 1) old → new ≡ old → set hs (id - 1) new ≡ hs
set-kept hs id old new is kept = ap (λ h. set hs (id - 1) h) (kept ∙ is) ∙ set-get_or hs (id - 1) old

pub if_live_some : (o : Option History) (h : History) → if_live o ≡ Some h → o ≡ Some h
if_live_some o h is = grind arith
