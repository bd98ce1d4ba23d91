-- A placing that keeps the places of all blocks starts with these places.
use Rattle.pinned_places.proofs.Prelude.{ℕ, zero, suc, ◌≡◌, ◌≢◌, ◌+◌, ◌<◌, Bool, true, false, cond, List, [], ◌∷◌, Option, Some, None, Result, IfOk, length, map, get_or, slice_get, refl, sym, ap, subst, ◌∙◌, arith, AllPairs, Contains, find as find_first, option_and_then, IsDistinct, flat_map, zip, option_to_list, eq_by_cmp, nat_tests, ext_get_or, get_or-map, length-map, IsDistinct-from_apart, keys_of-zip, get_or_from_slice_get, slice_get-get_or, slice_get_within, PackedCircuit, blocks_of, BlockKey, key_of, key_order, keys_of, Block, Cluster, Strip, Kind, Place, place_at, places_of, KeptPlace, KeptPlaces, in_order, kept_place, entries_of, find-in_order, tied, key_total, kind_of, ArePlaced, block_at, is_same_place, place_of, PlacingUnderWay, placed_after, places_by_block, kind_for, kept_by_block, place_for, placed_behind, placed_first, places_at_start, task_of, same_parts}
use Rattle.std.specs.Map as entries
use Rattle.std.specs.FinMap.{find}

other_key : (key other : BlockKey) → key ≢ other → eq_by_cmp key_order key other ≡ false
other_key key other differs = grind (arith, tied)

-- the keys of the entries are different
pub keys_distinct : (packed : PackedCircuit) (places : List Place) (rows : List KeptPlace) → length places ≡ length (blocks_of packed) → AllPairs (λ key other. key ≢ other) (keys_of packed) → entries_of rows ≡ zip (keys_of packed) places → IsDistinct (eq_by_cmp key_order) (entries.keys_of (entries_of rows))
keys_distinct packed places rows long apart are = grind (arith, keys_of-zip, length-map, IsDistinct-from_apart, other_key)

-- the entry of a key
find_entry : (keys : List BlockKey) (places : List Place) (n : ℕ) (key : BlockKey) (place : Place) → AllPairs (λ one other. one ≢ other) keys → slice_get keys n ≡ Some key → slice_get places n ≡ Some place → find key_order key (zip keys places) ≡ Some place
find_entry [] places n key place apart is at = absurd (let lt = slice_get_within [] n key is in omega (arith, lt))
find_entry (first ∷ keys) [] n key place apart is at = absurd (let lt = slice_get_within [] n place at in omega (arith, lt))
find_entry (first ∷ keys) (head ∷ places) zero key place apart is at = grind (arith, key_total)
find_entry (first ∷ keys) (head ∷ places) (suc n) key place apart is at =
    let lt = slice_get_within keys n key is in
    let differs : key ≢ first = λ e. apart 0 (suc n) key (omega arith) (omega (arith, lt)) (sym e ∙ sym (get_or_from_slice_get keys n key key is)) in
    let rest = find_entry keys places n key place (λ i j d before small. apart (suc i) (suc j) d (omega (arith, before)) (omega (arith, small))) is at in
    ap (λ (b : Bool). cond b (Some head) (find key_order key (zip keys places))) (other_key key first differs) ∙ rest

-- a place is found among those that contain it
found : (a b : Place) → is_same_place a b ≡ true → b ≡ a
found a b same = sym (same_parts a b (grind (arith, nat_tests, same)) (grind (arith, nat_tests, same)) (grind (arith, nat_tests, same)))

find_place : (places : List Place) (number : ℕ) (place : Place) → slice_get places number ≡ Some place → find_first (is_same_place place) places ≡ Some place
find_place [] number place is = absurd (let lt = slice_get_within [] number place is in omega (arith, lt))
find_place (first ∷ places) zero place is = grind arith
find_place (first ∷ places) (suc number) place is = grind (arith, find_place places number place is)

find_there : (places : List Place) (place : Place) → Contains places place → find_first (is_same_place place) places ≡ Some place
find_there places place there = find_place places there.0 place (slice_get-get_or places there.0 place there.1 ∙ ap (λ (p : Place). let o : Option Place = Some p in o) there.2)

-- blocks that all have kept places have these
all_kept : (strip : Strip) (taken : List Place) (kinds : List Kind) (places : List Place) → length kinds ≡ length places → placed_behind strip taken (zip kinds (map (λ place. let o : Option Place = Some place in o) places)) ≡ places
all_kept strip taken [] [] long = refl
all_kept strip taken [] (place ∷ places) long = absurd (omega (arith, long))
all_kept strip taken (kind ∷ kinds) [] long = absurd (omega (arith, long))
all_kept strip taken (kind ∷ kinds) (place ∷ places) long = ap (λ (rest : List Place). place ∷ rest) (all_kept strip _ kinds places (omega (arith, long)))

key_kind : (packed : PackedCircuit) (block : Block) → kind_for (key_of packed block).kind ≡ kind_of block
key_kind packed block = grind arith

module _ (strip : Strip) (packed : PackedCircuit) (places : List Place) (apart : AllPairs (λ key other. key ≢ other) (keys_of packed)) (placed : ArePlaced strip packed places) where
  abbrev all_places : KeptPlaces
  all_places = in_order (zip (keys_of packed) places)

  abbrev some : Place → Option Place
  some place = Some place

  abbrev place_for_key : BlockKey → Option Place
  place_for_key key = option_and_then (λ place. find_first (is_same_place place) (places_of strip (kind_for key.kind))) (kept_place all_places key)

  long_keys : length (keys_of packed) ≡ length (blocks_of packed)
  long_keys = length-map (blocks_of packed) (key_of packed)

  one_kept : (n : ℕ) → n < length (blocks_of packed) → place_for_key (key_of packed (block_at packed n)) ≡ Some (place_of places n)
  one_kept n lt =
      let block = block_at packed n in
      let key = key_of packed block in
      let place = place_of places n in
      let is : slice_get (keys_of packed) n ≡ Some key = slice_get-get_or (keys_of packed) n (key_of packed (Cluster 0)) (omega (arith, lt, long_keys)) ∙ ap (λ (k : BlockKey). let o : Option BlockKey = Some k in o) (get_or-map (key_of packed) (blocks_of packed) n (Cluster 0) (key_of packed (Cluster 0)) lt) in
      let at : slice_get places n ≡ Some place = slice_get-get_or places n (place_at 0 0 0) (omega (arith, lt, placed.long)) in
      let kept : kept_place all_places key ≡ Some place = find-in_order key (zip (keys_of packed) places) ∙ find_entry (keys_of packed) places n key place apart is at in
      let there : Contains (places_of strip (kind_for key.kind)) place = subst (λ (k : Kind). Contains (places_of strip k) place) (sym (key_kind packed block)) (placed.by_kind n lt) in
      ap (option_and_then (λ p. find_first (is_same_place p) (places_of strip (kind_for key.kind)))) kept ∙ find_there (places_of strip (kind_for key.kind)) place there

  kept_all : kept_by_block strip packed all_places ≡ map some places
  kept_all =
      let long = length-map (keys_of packed) place_for_key in
      let count = length-map places some in
      ext_get_or None (map place_for_key (keys_of packed)) (map some places) (omega (arith, long, count, long_keys, placed.long)) (λ i lt.
      (let small : i < length (blocks_of packed) = omega (arith, lt, long, long_keys) in
      let key : get_or (keys_of packed) i (key_of packed (Cluster 0)) ≡ key_of packed (block_at packed i) = get_or-map (key_of packed) (blocks_of packed) i (Cluster 0) (key_of packed (Cluster 0)) small in
      get_or-map place_for_key (keys_of packed) i (key_of packed (Cluster 0)) None (omega (arith, small, long_keys)) ∙ ap place_for_key key ∙ one_kept i small ∙ sym (get_or-map some places i (place_at 0 0 0) None (omega (arith, small, placed.long)))))

  starts : places_at_start strip packed all_places ≡ places
  unfolding placed_first task_of
  starts =
      ap (λ kept. placed_behind strip (flat_map option_to_list kept) (zip (map kind_of (blocks_of packed)) kept)) kept_all
      ∙ all_kept strip (flat_map option_to_list (map some places)) (map kind_of (blocks_of packed)) places (length-map (blocks_of packed) kind_of ∙ sym placed.long)

  pub start_places : places_by_block (record { packed = packed; strip = strip; kept = in_order (zip (keys_of packed) places); seed = 0; effort = 0; passes = 0 }) ≡ places
  unfolding placed_after
  start_places = starts

-- a placing that is started with equal parts
pub started_as : {E : Type 0} (packed copy : PackedCircuit) (strip same : Strip) (kept found : KeptPlaces) (made : Result PlacingUnderWay E) → copy ≡ packed → same ≡ strip → found ≡ kept →
    IfOk made (λ new. new ≡ record { packed = copy; strip = same; kept = found; seed = 0; effort = 0; passes = 0 }) → IfOk made (λ new. new ≡ record { packed = packed; strip = strip; kept = kept; seed = 0; effort = 0; passes = 0 })
started_as packed copy strip same kept found made is_packed is_strip is_kept is = rw (← is_packed, ← is_strip, ← is_kept) is
