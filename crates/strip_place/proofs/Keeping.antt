-- Kept places.
use Rattle.strip_place.proofs.Prelude.{ℕ, zero, suc, ◌≡◌, ◌≢◌, ◌+◌, ◌<◌, ◌≤◌, Bool, true, false, cond, List, [], ◌∷◌, ◌++◌, Some, Result, Ok, Err, IfOk, length, take, get_or, slice_get, refl, sym, ap, subst, ◌∙◌, arith, AllPairs, Contains, IsDistinct, zip, eq_by_cmp, get_or-map, length-map, map_push, take_all, take_more, IsDistinct-from_apart, get_or_from_slice_get, slice_get_within, get_or-zip, PackedCircuit, blocks_of, BlockKey, key_of, key_order, keys_of, Block, Cluster, Strip, Place, kind_of, place_at, places_of, KeptPlace, KeptPlaces, in_order, entries_of, entry_of, find-in_order, tied, AreKeptOn, kind_for, ArePlaced, block_at}
use Rattle.std.specs.Map as entries
use Rattle.std.specs.FinMap.{find}

-- the place that is found for a key
zip_found : (keys : List BlockKey) (places : List Place) (key : BlockKey) (place : Place) → find key_order key (zip keys places) ≡ Some place →
    (n : ℕ) × (n < length keys) × (n < length places) × ((d : BlockKey) → get_or keys n d ≡ key) × ((d : Place) → get_or places n d ≡ place)
zip_found [] places key place is = absurd cc
zip_found (first ∷ keys) [] key place is = absurd cc
zip_found (first ∷ keys) (head ∷ places) key place is = by (eq_by_cmp key_order key first) refl (zip_found keys places key place)
  where
    by : (b : Bool) → eq_by_cmp key_order key first ≡ b → (find key_order key (zip keys places) ≡ Some place → (n : ℕ) × (n < length keys) × (n < length places) × ((d : BlockKey) → get_or keys n d ≡ key) × ((d : Place) → get_or places n d ≡ place)) →
        (n : ℕ) × (n < length (first ∷ keys)) × (n < length (head ∷ places)) × ((d : BlockKey) → get_or (first ∷ keys) n d ≡ key) × ((d : Place) → get_or (head ∷ places) n d ≡ place)
    by true ties rest =
        let same : head ≡ place = (let e : Some head ≡ Some place = sym (ap (λ (b : Bool). cond b (Some head) (find key_order key (zip keys places))) ties) ∙ is in cc) in
        (0, omega arith, omega arith, λ d. sym (tied key first ties), λ d. same)
    by false differs rest =
        let r = rest (sym (ap (λ (b : Bool). cond b (Some head) (find key_order key (zip keys places))) differs) ∙ is) in
        (suc r.0, omega (arith, r.1), omega (arith, r.2), r.3, r.4)

key_kind : (packed : PackedCircuit) (block : Block) → kind_for (key_of packed block).kind ≡ kind_of block
key_kind packed block = grind arith

-- the places of placed blocks may be kept
pub placed_kept : (strip : Strip) (packed : PackedCircuit) (places : List Place) → ArePlaced strip packed places → AreKeptOn strip (in_order (zip (keys_of packed) places))
placed_kept strip packed places placed = record {
  by_kind = λ key place is.
      (let at = zip_found (keys_of packed) places key place (sym (find-in_order key (zip (keys_of packed) places)) ∙ is) in
      let small : at.0 < length (blocks_of packed) = omega (arith, at.1, length-map (blocks_of packed) (key_of packed)) in
      let same : key ≡ key_of packed (block_at packed at.0) = sym (at.3 (key_of packed (Cluster 0))) ∙ get_or-map (key_of packed) (blocks_of packed) at.0 (Cluster 0) (key_of packed (Cluster 0)) small in
      let kind : kind_of (block_at packed at.0) ≡ kind_for key.kind = sym (key_kind packed (block_at packed at.0)) ∙ sym (ap (λ (k : BlockKey). kind_for k.kind) same) in
      subst (λ k. Contains (places_of strip k) place) kind (subst (Contains (places_of strip (kind_of (block_at packed at.0)))) (at.4 (place_at 0 0 0)) (placed.by_kind at.0 small)));
  one_to_one = λ key other place is also.
      (let one = zip_found (keys_of packed) places key place (sym (find-in_order key (zip (keys_of packed) places)) ∙ is) in
      let two = zip_found (keys_of packed) places other place (sym (find-in_order other (zip (keys_of packed) places)) ∙ also) in
      let small : one.0 < length (blocks_of packed) = omega (arith, one.1, length-map (blocks_of packed) (key_of packed)) in
      let second : two.0 < length (blocks_of packed) = omega (arith, two.1, length-map (blocks_of packed) (key_of packed)) in
      let same : one.0 ≡ two.0 = placed.one_to_one one.0 two.0 small second (one.4 (place_at 0 0 0) ∙ sym (two.4 (place_at 0 0 0))) in
      sym (one.3 key) ∙ (ap (λ n. get_or (keys_of packed) n key) same ∙ two.3 key));
}

-- the entries that are gathered
pub gathered : (packed : PackedCircuit) (places : List Place) (block : ℕ) (rows : List KeptPlace) (row : KeptPlace) → entries_of rows ≡ take block (zip (keys_of packed) places) → slice_get (keys_of packed) block ≡ Some (entry_of row).0 → slice_get places block ≡ Some row.place →
    entries_of (rows ++ row ∷ []) ≡ take (block + 1) (zip (keys_of packed) places)
gathered packed places block rows row so_far key place =
    let all = zip (keys_of packed) places in
    let in_keys = slice_get_within (keys_of packed) block (entry_of row).0 key in
    let in_places = slice_get_within places block row.place place in
    let here : get_or all block (entry_of row) ≡ entry_of row =
    get_or-zip (keys_of packed) places block (entry_of row) in_keys in_places
    ∙ (ap (λ (k : BlockKey). let e : BlockKey × Place = (k, get_or places block row.place) in e) (get_or_from_slice_get (keys_of packed) block (entry_of row).0 (entry_of row).0 key)
    ∙ ap (λ (p : Place). let e : BlockKey × Place = ((entry_of row).0, p) in e) (get_or_from_slice_get places block row.place row.place place)) in
    map_push entry_of rows row
    ∙ (ap (λ (front : List (BlockKey × Place)). front ++ entry_of row ∷ []) so_far
    ∙ sym (take_more all block (entry_of row) (zip_long (keys_of packed) places block in_keys in_places) ∙ ap (λ (e : BlockKey × Place). take block all ++ e ∷ []) here))
  where
    zip_long : (keys : List BlockKey) (places : List Place) (n : ℕ) → n < length keys → n < length places → n < length (zip keys places)
    zip_long [] places n lt also = absurd (omega (arith, lt))
    zip_long (k ∷ keys) [] n lt also = absurd (omega (arith, also))
    zip_long (k ∷ keys) (p ∷ places) zero lt also = omega arith
    zip_long (k ∷ keys) (p ∷ places) (suc n) lt also = (let rest = zip_long keys places n (omega (arith, lt)) (omega (arith, also)) in omega (arith, rest))

length_zip : (keys : List BlockKey) (places : List Place) → length (zip keys places) ≤ length keys
length_zip [] places = omega arith
length_zip (key ∷ keys) [] = omega arith
length_zip (key ∷ keys) (place ∷ places) = (let rest = length_zip keys places in omega (arith, rest))

pub gathered_all : (packed : PackedCircuit) (places : List Place) (block : ℕ) (rows : List KeptPlace) → length (blocks_of packed) ≤ block → entries_of rows ≡ take block (zip (keys_of packed) places) → entries_of rows ≡ zip (keys_of packed) places
gathered_all packed places block rows past so_far = so_far ∙ take_all block (zip (keys_of packed) places) (omega (arith, past, length_zip (keys_of packed) places, length-map (blocks_of packed) (key_of packed)))

zip_keys : (keys : List BlockKey) (places : List Place) → length places ≡ length keys → entries.keys_of (zip keys places) ≡ keys
zip_keys [] places long = refl
zip_keys (key ∷ keys) [] long = absurd (omega (arith, long))
zip_keys (key ∷ keys) (place ∷ places) long = ap (λ rest. key ∷ rest) (zip_keys keys places (omega (arith, long)))

other_key : (key other : BlockKey) → key ≢ other → eq_by_cmp key_order key other ≡ false
other_key key other differs = grind (arith, tied)

-- the keys of the entries are different
pub keys_distinct : (strip : Strip) (packed : PackedCircuit) (places : List Place) (rows : List KeptPlace) → ArePlaced strip packed places → AllPairs (λ key other. key ≢ other) (keys_of packed) → entries_of rows ≡ zip (keys_of packed) places → IsDistinct (eq_by_cmp key_order) (entries.keys_of (entries_of rows))
keys_distinct strip packed places rows placed apart are = grind (arith, zip_keys, length-map, IsDistinct-from_apart, other_key)

-- the map that is built from the entries
pub kept_exact : {E : Type 0} (packed : PackedCircuit) (places : List Place) (rows : List KeptPlace) (made : Result KeptPlaces E) → entries_of rows ≡ zip (keys_of packed) places → IfOk made (λ kept. kept ≡ in_order (entries_of rows)) → IfOk made (λ kept. kept ≡ in_order (zip (keys_of packed) places))
kept_exact packed places rows made are is = grind arith

pub kept_lawfully : {E : Type 0} (strip : Strip) (packed : PackedCircuit) (places : List Place) (made : Result KeptPlaces E) → ArePlaced strip packed places → IfOk made (λ kept. kept ≡ in_order (zip (keys_of packed) places)) → IfOk made (λ kept. AreKeptOn strip kept)
kept_lawfully strip packed places (Ok kept) placed is = subst (AreKeptOn strip) (sym is) (placed_kept strip packed places placed)
kept_lawfully strip packed places (Err error) placed is = tt
