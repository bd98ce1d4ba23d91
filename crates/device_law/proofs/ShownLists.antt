-- What is read of the replies to `op list` and `op owners`.
use Rattle.device_law.proofs.Prelude.{◌≡◌, ℕ, ◌+◌, ◌<◌, ◌≤◌, true, List, [], ◌∷◌, ◌++◌, length, get_or, map, Option, Some, None, refl, sym, ap, ◌∙◌, subst, arith, All, IfSome, unwrap_or, All-contains_itself, PlacedStrip, Owned, Device, IsDevice, ListsOwnersOf, list_text, owners_text, Stage, if_live_some, history_of, DeviceSize, Listed, Seen, lines_of, lines_read, plus, IsSmall, is_on, last_line, node_of, with_owners, entries, entries_read, Shown, size_of, without_state}
use Rattle.device_law.proofs.Box.{InBox, each_of, in_box, owners_few}
use Rattle.device_law.proofs.Each.{Each, each-map, each-of_map, each-weaken}
use Rattle.device_law.proofs.Found.{OwnedIn}
use Rattle.device_law.proofs.ListLemmas.{list_is_read}
use Rattle.device_law.proofs.Listing.{Fits, IsOn, first_least, is_fresh, lines_on, listing, whole_read}
use Rattle.device_law.proofs.OwnThere.{Laws}
use Rattle.device_law.proofs.OwnerFacts.{IsOwnedAt, live_within, owned_at}
use Rattle.device_law.proofs.OwnerLemmas.{are_exactly_read}
use Rattle.device_law.proofs.ReplyLines.{Reads}
use Rattle.device_law.proofs.RunEntries.{IsEntry, all_print, are_entries, entries_fit, entry_on}
use Rattle.device_law.proofs.Shows.{After, Shows}
use Rattle.device_law.proofs.Stages.{Fine, stands_in}
use Rattle.device_law.proofs.StripEntries.{bare_entries, strip_entries}

none_mapped : (xs : List Listed) → map without_state xs ≡ [] → xs ≡ []
none_mapped [] e = refl
none_mapped (x ∷ xs) e = absurd cc

module _ (device : Device) (known : IsDevice device) (stage : Stage) (fine : Fine device stage) (shown : Shown) (seen : Seen) (number : ℕ)
    (shows : Shows (size_of device known) stage.service.plan.strips stage.names shown seen) where
  abbrev strips : List PlacedStrip
  strips = stage.service.plan.strips

  abbrev Then : Shown → List ℕ → Type 0
  Then now text = After (size_of device known) stage.service.plan.strips stage.names now seen number text

  bare : map without_state (entries stage.service stage.names) ≡ strip_entries stage.service.plan.strips stage.names
  bare = bare_entries stage.service stage.names (stands_in device stage fine).kept.linked

  few : length stage.names ≤ 65535
  few = let most = (stands_in device stage fine).kept.few in let even = fine.names.even in omega (arith, most, even)

  -- what was listed before are the same tenancies
  none_before : (o : Option (List Listed)) → seen.listed ≡ unwrap_or o [] → IfSome o (λ listed. map without_state listed ≡ strip_entries stage.service.plan.strips stage.names) → strip_entries stage.service.plan.strips stage.names ≡ [] → seen.listed ≡ []
  none_before None listed same none = listed
  none_before (Some xs) listed same none = listed ∙ none_mapped xs (same ∙ none)

  least_before : (id : ℕ) (o : Option (List Listed)) → seen.listed ≡ unwrap_or o [] → IfSome o (λ listed. map without_state listed ≡ strip_entries stage.service.plan.strips stage.names) →
      Each (λ (one : Listed). id ≤ one.id) (strip_entries stage.service.plan.strips stage.names) → Each (λ (one : Listed). id ≤ one.id) seen.listed
  least_before id None listed same least = let P : List Listed → Type 0 = λ xs. Each (λ (one : Listed). id ≤ one.id) xs in subst P (sym listed) tt
  least_before id (Some xs) listed same least =
      let P : List Listed → Type 0 = λ ys. Each (λ (one : Listed). id ≤ one.id) ys in
      subst P (sym listed) (each-of_map (λ (one : Listed). id ≤ one.id) without_state xs (subst P (sym same) least))

  abbrev Reading : List Listed → Type 0
  Reading list = (rest : List ℕ) → lines_read (lines_of (list_text stage.service stage.names ++ rest)) seen number ≡ entries_read list seen number (λ s n. lines_read (lines_of rest) s n)

  by_list : (list : List Listed) → map without_state list ≡ strip_entries stage.service.plan.strips stage.names → Each (IsOn seen.size) list → Fits [] list → Reading list → Then (record shown { listed = Some list }) (list_text stage.service stage.names)
  by_list [] same on fits reads = record {
    new = seen;
    reads = record { next = number; reads = reads };
    shows = record {
      size_is = shows.size_is;
      inside = shows.inside;
      live_is = shows.live_is;
      listed_is = none_before shown.listed shows.listed_is shows.list_now (sym same);
      list_now = same;
      owned_is = shows.owned_is;
      has_is = shows.has_is;
      owned_now = shows.owned_now;
    };
  }
  by_list (one ∷ more) same on fits reads =
      let P : List Listed → Type 0 = λ ys. Each (λ (other : Listed). one.id ≤ other.id) ys in
      let least = subst P same (each-map (λ (other : Listed). one.id ≤ other.id) without_state (one ∷ more) (first_least one more fits)) in
      let fresh = is_fresh seen one.id (least_before one.id shown.listed shows.listed_is shows.list_now least) in
      record {
        new = listing seen (one ∷ more);
        reads = record { next = lines_on number (one ∷ more); reads = λ rest. reads rest ∙ whole_read one more seen number (λ s n. lines_read (lines_of rest) s n) on fits fresh };
        shows = record {
          size_is = shows.size_is;
          inside = record { place = shows.inside.place; awaited = shows.inside.awaited };
          live_is = shows.live_is;
          listed_is = refl;
          list_now = same;
          owned_is = shows.owned_is;
          has_is = shows.has_is;
          owned_now = shows.owned_now;
        };
      }

  pub list_then : (text : List ℕ) → text ≡ list_text stage.service stage.names → Then (record shown { listed = Some (entries stage.service stage.names) }) text
  list_then text told =
      let list = entries stage.service stage.names in
      let stands = stands_in device stage fine in
      let each = are_entries device stage.service stage.names stands fine.names.named in
      let on : Each (IsOn (size_of device known)) list = each-weaken (IsEntry device stage.service (length stage.names)) (IsOn (size_of device known)) (λ one is. entry_on device known stage.service (length stage.names) one is) list each in
      let prints = all_print device stage.service (length stage.names) list known few each in
      let P : DeviceSize → Type 0 = λ size. Each (IsOn size) list in
      let Q : List ℕ → Type 0 = λ t. Then (record shown { listed = Some list }) t in
      subst Q (sym told) (by_list list bare (subst P (sym shows.size_is) on) (entries_fit device stage.service stage.names stands fine.names.named) (λ rest. list_is_read stage.service stage.names rest seen number prints shows.inside))

  -- owners
  module _ (laws : Laws) (owners : List Owned) (lists : ListsOwnersOf stage.service owners) where
    at : (k : ℕ) (d : Owned) → k < length owners → IsOwnedAt device known stage.service (get_or owners k d).resource (get_or owners k d).id
    at k d within = let o = get_or owners k d in owned_at laws device stage.service o.resource o.id (stands_in device stage fine) known ((lists.1 o).0 (All-contains_itself owners k d within))

    on : All (λ (o : Owned). is_on (size_of device known) o.resource ≡ true) owners
    on = λ k d within. (at k d within).on

    boxes : All (λ (o : Owned). InBox o.resource) owners
    boxes = λ k d within. in_box device known (get_or owners k d).resource (at k d within).on

    id_few : (k : ℕ) (d : Owned) → k < length owners → (0 < (get_or owners k d).id) × ((get_or owners k d).id ≤ length stage.names)
    id_few k d within =
        let a = at k d within in
        let id = (get_or owners k d).id in
        let range = live_within stage.service id a.lives.history (if_live_some (history_of stage.service.histories id) a.lives.history a.lives.live) in
        let even = fine.names.even in
        let high = range.1 in
        (range.0, omega (arith, high, even))

    small : All IsSmall owners
    small = λ k d within.
        let box = boxes k d within in
        let x = box.column in
        let y = box.row in
        let n = box.number in
        let id = (id_few k d within).1 in
        let most = few in
        record { x = omega (arith, x); y = omega (arith, y); n = omega (arith, n); id = omega (arith, id, most) }

    owned_in : Each (OwnedIn stage.service.plan.strips (length stage.names)) (map node_of owners)
    owned_in = each-map (OwnedIn stage.service.plan.strips (length stage.names)) node_of owners (each_of (λ (o : Owned). OwnedIn stage.service.plan.strips (length stage.names) (node_of o)) owners
        (λ k d within. let a = at k d within in let range = id_few k d within in record { some = range.0; few = range.1; strip = a.lives.strip; found = a.lives.found; within = a.inside }))

    pub owners_then : (text : List ℕ) → text ≡ owners_text stage.service.device.rows owners → Then (record shown { owned = Some (map node_of owners) }) text
    owners_then text told =
        let new : Seen = with_owners seen (plus number 1) owners in
        let rows : stage.service.device.rows ≡ seen.size.rows = ap (λ (d : Device). d.rows) (stands_in device stage fine).on ∙ sym (ap (λ (s : DeviceSize). s.rows) shows.size_is) in
        let P : DeviceSize → Type 0 = λ size. All (λ (o : Owned). is_on size o.resource ≡ true) owners in
        let Q : List ℕ → Type 0 = λ t. Reads seen number t new in
        let read : Reads seen number (owners_text seen.size.rows owners) new = record {
          next = last_line (plus number 1) owners;
          reads = λ rest. are_exactly_read owners rest seen number (owners_few owners lists.0 (each_of (λ (o : Owned). InBox o.resource) owners boxes)) small shows.inside (subst P (sym shows.size_is) on) lists.0;
        } in
        record {
          new = new;
          reads = subst Q (sym (told ∙ ap (λ r. owners_text r owners) rows)) read;
          shows = record {
            size_is = shows.size_is;
            inside = record { place = shows.inside.place; awaited = refl };
            live_is = shows.live_is;
            listed_is = shows.listed_is;
            list_now = shows.list_now;
            owned_is = refl;
            has_is = refl;
            owned_now = owned_in;
          };
        }
