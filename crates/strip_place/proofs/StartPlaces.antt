-- The places at the start are the places of the sites at the start.
use Rattle.strip_place.proofs.Prelude.{◌≡◌, ◌≢◌, ℕ, zero, suc, ◌+◌, ◌<◌, ◌≤◌, All, Bool, true, not, cond, List, [], ◌∷◌, ◌++◌, Option, Some, None, find, length, get_or, map, slice_get, refl, sym, ap, ◌∙◌, arith, AllPairs, option_and_then, option_map, unwrap_or, flat_map, range_with_len, zip, option_to_list, append-nil, append_assoc, get_or-append_right, length_push, map_push, All-append, All-cons, All-head, All-nil, All-tail, nat_tests, slice_get_within, PackedCircuit, BlockKey, Strip, Kind, Logic, Pad, Place, place_at, places_of, KeptPlaces, kept_place, places_on, has_place, AreKeptOn, kind_for, kept_sites_of, site_of, is_same_place, AreDistinct, first_site, is_among, kept_sites, least_free, seated_behind, site_count, site_place, sites_of, start_of, kept_by_block, placed_behind, placed_first, AreKeptSites, HaveRoom}
use Rattle.strip_place.proofs.Carrying.{Inside}
use Rattle.strip_place.proofs.KeptSites.{number_of, place_back, same_parts}
use Rattle.strip_place.proofs.Seatings.{Comer, HasRoom, least_seat, long, nobody, room_first, room_more, zipped}
use Rattle.strip_place.proofs.Starting.{kept_inside}
use Rattle.strip_place.proofs.Starts.{length-sites_of}
use Rattle.strip_place.proofs.Vacant.{IsLeast}

-- the place at an index of a list
abbrev at_number : List Place → ℕ → Place
at_number places n = get_or places n (place_at 0 0 0)

numbered : (before places after : List Place) → map (at_number (before ++ (places ++ after))) (range_with_len (length before) (length places)) ≡ places
numbered before [] after = refl
numbered before (place ∷ places) after = grind (arith, get_or-append_right, append_assoc, length_push, numbered (before ++ place ∷ []) places after)

places_are : (strip : Strip) (kind : Kind) → places_of strip kind ≡ map (site_place strip) (range_with_len (first_site strip kind) (site_count strip kind))
unfolding sites_of
places_are strip Logic = sym (numbered [] (places_of strip Logic) (places_of strip Pad))
places_are strip Pad = grind (arith, append-nil (places_of strip Pad), numbered (places_of strip Logic) (places_of strip Pad) [])

module _ (strip : Strip) (distinct : AreDistinct strip) where
  among_carried : (taken : List ℕ) (site : ℕ) → All (Inside strip distinct) taken → Inside strip distinct site → has_place (places_on strip taken) (site_place strip site) ≡ is_among taken site
  among_carried [] site all lt = refl
  among_carried (other ∷ taken) site all lt = grind (arith, All-head, among_carried taken site (All-tail (Inside strip distinct) other taken all) lt)

  chosen : (b : Bool) (site : ℕ) (o : Option ℕ) → cond b (Some (site_place strip site)) (option_map (site_place strip) o) ≡ option_map (site_place strip) (cond b (Some site) o)
  chosen b site o = grind arith

  find_carried : (taken : List ℕ) (start count : ℕ) → All (Inside strip distinct) taken → start + count ≤ length (sites_of strip) →
      find (λ place. not (has_place (places_on strip taken) place)) (map (site_place strip) (range_with_len start count)) ≡ option_map (site_place strip) (find (λ site. not (is_among taken site)) (range_with_len start count))
  find_carried taken start zero all few = refl
  find_carried taken start (suc count) all few = grind (arith, among_carried, find_carried taken (start + 1) count all (omega (arith, few)))

  kind_inside : (kind : Kind) → first_site strip kind + site_count strip kind ≤ length (sites_of strip)
  kind_inside kind = grind (arith, length-sites_of)

  free_carried : (kind : Kind) (taken : List ℕ) → All (Inside strip distinct) taken → IsLeast taken (first_site strip kind) (site_count strip kind) (least_free strip kind taken) → site_place strip (least_free strip kind taken) ≡ unwrap_or (find (λ place. not (has_place (places_on strip taken) place)) (places_of strip kind)) (place_at 0 0 0)
  free_carried kind taken all least = grind (arith, places_are, find_carried, kind_inside)

  -- a block with the place of its kept site
  abbrev with_place : Comer → Kind × Option Place
  with_place block = (block.0, option_map (site_place strip) block.1)

  all_more : (taken : List ℕ) (site : ℕ) → All (Inside strip distinct) taken → Inside strip distinct site → All (Inside strip distinct) (taken ++ site ∷ [])
  all_more taken site all lt = All-append (Inside strip distinct) taken (site ∷ []) all (All-cons (Inside strip distinct) site [] lt (All-nil (Inside strip distinct)))

  seated_carried : (taken : List ℕ) (blocks : List Comer) → All (Inside strip distinct) taken → ((block site : ℕ) → block < length blocks → (get_or blocks block nobody).1 ≡ Some site → Inside strip distinct site) → HasRoom strip taken blocks →
      places_on strip (seated_behind strip taken blocks) ≡ placed_behind strip (places_on strip taken) (map with_place blocks)
  seated_carried taken [] all inside room = refl
  seated_carried taken ((kind, Some site) ∷ blocks) all inside room =
      let lt = inside 0 site (omega arith) refl in
      let rest = seated_carried (taken ++ site ∷ []) blocks (all_more taken site all lt) (λ b s less is. inside (suc b) s (omega (arith, less)) is) (room_more strip taken (kind, Some site) blocks room) in
      ap (λ (places : List Place). site_place strip site ∷ places) (rest ∙ ap (λ (t : List Place). placed_behind strip t (map with_place blocks)) (map_push (site_place strip) taken site))
  seated_carried taken ((kind, None) ∷ blocks) all inside room =
      let least = least_seat strip kind taken blocks room in
      let site = least_free strip kind taken in
      let lt : Inside strip distinct site = omega (arith, least.below, kind_inside kind) in
      let rest = seated_carried (taken ++ site ∷ []) blocks (all_more taken site all lt) (λ b s less is. inside (suc b) s (omega (arith, less)) is) (room_more strip taken (kind, None) blocks room) in
      grind (arith, map_push, free_carried)

  kept_all : (kept : List (Option ℕ)) → ((block site : ℕ) → block < length kept → get_or kept block None ≡ Some site → Inside strip distinct site) → All (Inside strip distinct) (kept_sites kept)
  kept_all [] inside = All-nil (Inside strip distinct)
  kept_all (None ∷ kept) inside = kept_all kept (λ b s lt is. inside (suc b) s (omega (arith, lt)) is)
  kept_all (Some site ∷ kept) inside = All-cons (Inside strip distinct) site (kept_sites kept) (inside 0 site (omega arith) refl) (kept_all kept (λ b s lt is. inside (suc b) s (omega (arith, lt)) is))

  kept_places : (kept : List (Option ℕ)) → places_on strip (kept_sites kept) ≡ flat_map option_to_list (map (option_map (site_place strip)) kept)
  kept_places [] = refl
  kept_places (None ∷ kept) = kept_places kept
  kept_places (Some site ∷ kept) = ap (λ (places : List Place). site_place strip site ∷ places) (kept_places kept)

  zip_carried : (kinds : List Kind) (kept : List (Option ℕ)) → map with_place (zip kinds kept) ≡ zip kinds (map (option_map (site_place strip)) kept)
  zip_carried [] kept = refl
  zip_carried (kind ∷ kinds) [] = refl
  zip_carried (kind ∷ kinds) (site ∷ kept) = ap (λ (blocks : List (Kind × Option Place)). (kind, option_map (site_place strip) site) ∷ blocks) (zip_carried kinds kept)

  -- the start by sites corresponds to the start by places
  start_carried : (kinds : List Kind) (kept : List (Option ℕ)) → AreKeptSites strip kinds kept → HaveRoom strip kinds → places_on strip (start_of strip kinds kept) ≡ placed_first strip kinds (map (option_map (site_place strip)) kept)
  unfolding start_of placed_first
  start_carried kinds kept lawful room =
      let inside : (block site : ℕ) → block < length kept → get_or kept block None ≡ Some site → Inside strip distinct site = λ b s lt is. omega (arith, kept_inside strip kinds kept lawful b s lt is, length-sites_of strip) in
      seated_carried (kept_sites kept) (zip kinds kept) (kept_all kept inside)
      (λ b s lt is. (let small : b < length kinds = omega (arith, lt, long strip kinds kept lawful) in inside b s (omega (arith, small, lawful.long)) (sym (ap (λ (c : Comer). c.1) (zipped strip kinds kept lawful b small)) ∙ is)))
      (room_first strip kinds kept lawful room)
      ∙ ap (λ (taken : List Place). placed_behind strip taken (map with_place (zip kinds kept))) (kept_places kept)
      ∙ ap (placed_behind strip (flat_map option_to_list (map (option_map (site_place strip)) kept))) (zip_carried kinds kept)

-- a kept place is found in the strip
found : (a b : Place) → is_same_place a b ≡ true → b ≡ a
found a b same = sym (same_parts a b (grind (arith, nat_tests, same)) (grind (arith, nat_tests, same)) (grind (arith, nat_tests, same)))

find_kept : (places : List Place) (number : ℕ) (place : Place) → slice_get places number ≡ Some place → find (is_same_place place) places ≡ Some place
find_kept [] number place is = absurd (let lt = slice_get_within [] number place is in omega (arith, lt))
find_kept (first ∷ places) zero place is = grind arith
find_kept (first ∷ places) (suc number) place is = grind (arith, find_kept places number place is)

module _ (strip : Strip) (apart : (kind : Kind) → AllPairs (λ place next. place ≢ next) (places_of strip kind)) (kept : KeptPlaces) (lawful : AreKeptOn strip kept) where
  one_kept : (key : BlockKey) (o : Option Place) → kept_place kept key ≡ o → option_map (site_place strip) (option_map (site_of strip key.kind) o) ≡ option_and_then (λ place. find (is_same_place place) (places_of strip (kind_for key.kind))) o
  one_kept key None is = refl
  one_kept key (Some place) is =
      let there = lawful.by_kind key place is in
      ap (λ (p : Place). let o : Option Place = Some p in o) (place_back strip apart key.kind place there)
      ∙ sym (find_kept (places_of strip (kind_for key.kind)) _ place (number_of strip apart (kind_for key.kind) place there))

  all_kept : (keys : List BlockKey) → map (option_map (site_place strip)) (map (λ key. option_map (site_of strip key.kind) (kept_place kept key)) keys) ≡ map (λ key. option_and_then (λ place. find (is_same_place place) (places_of strip (kind_for key.kind))) (kept_place kept key)) keys
  all_kept [] = refl
  all_kept (key ∷ keys) = grind (arith, one_kept, all_kept keys)

-- the places of the sites at the start
pub start_places : (strip : Strip) (packed : PackedCircuit) (kept : KeptPlaces) (kinds : List Kind) → AreDistinct strip → ((kind : Kind) → AllPairs (λ place next. place ≢ next) (places_of strip kind)) → AreKeptOn strip kept → AreKeptSites strip kinds (kept_sites_of strip packed kept) → HaveRoom strip kinds →
    places_on strip (start_of strip kinds (kept_sites_of strip packed kept)) ≡ placed_first strip kinds (kept_by_block strip packed kept)
start_places strip packed kept kinds distinct apart lawful theirs room = grind (arith, start_carried, all_kept)
