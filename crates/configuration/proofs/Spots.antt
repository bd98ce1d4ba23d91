-- Where the BLE is whose output a routed pin carries.
use Rattle.configuration.proofs.Prelude.{◌≡◌, ℕ, suc, zero, ◌+◌, Bool, true, false, ◌||◌, ◌==◌, List, [], ◌∷◌, cond, map, take, Option, Some, None, slice_get, option_map, ap, refl, ◌∙◌, arith, Contains, slice_index, enumerate_from, list_any, All-contains, Arch, kind_of, Strip, places_of, IsPlaceIn, IsStripSize, all_within, Node, is_block_row, is_together, LaidBle, LaidBlock, Layout, ble_numbers, filled_places, free_places, output_rank, pin_out, routed_place, routed_places}

-- ---- elements by index

pub first_index : {X : Type 0} (test : X → Bool) (xs : List X) → list_any test xs ≡ true → (i : ℕ) × (x : X) × (slice_get xs i ≡ Some x) × (test x ≡ true) × (list_any test (take i xs) ≡ false)
first_index test [] h = absurd cc
first_index {X} test (y ∷ xs) h = by (test y) refl (first_index test xs) h
  where
    by : (b : Bool) → test y ≡ b → (list_any test xs ≡ true → (i : ℕ) × (x : X) × (slice_get xs i ≡ Some x) × (test x ≡ true) × (list_any test (take i xs) ≡ false)) → (b || list_any test xs) ≡ true →
        (i : ℕ) × (x : X) × (slice_get (y ∷ xs) i ≡ Some x) × (test x ≡ true) × (list_any test (take i (y ∷ xs)) ≡ false)
    by true is rest h = (zero, y, refl, is, refl)
    by false is rest h = let q = rest h in (suc q.0, q.1, q.2, q.3, ap (λ (b : Bool). b || list_any test (take q.0 xs)) is ∙ q.4)

pub get_map : {X Y : Type 0} (f : X → Y) (xs : List X) (i : ℕ) (x : X) → slice_get xs i ≡ Some x → slice_get (map f xs) i ≡ Some (f x)
get_map f [] i x e = absurd cc
get_map f (y ∷ xs) zero x e = ap (option_map f) e
get_map f (y ∷ xs) (suc i) x e = get_map f xs i x e

get_count : {X : Type 0} (start : ℕ) (xs : List X) (i : ℕ) (x : X) → slice_get xs i ≡ Some x → slice_get (enumerate_from start xs) i ≡ Some (start + i, x)
get_count start [] i x e = absurd cc
get_count {X} start (y ∷ xs) zero x e = grind arith
get_count {X} start (y ∷ xs) (suc i) x e = get_count (start + 1) xs i x e ∙ ap (λ (n : ℕ). Some (n, x)) (omega arith)

pub get_indexed : {X : Type 0} (xs : List X) (i : ℕ) (x : X) → slice_get xs i ≡ Some x → slice_get (enumerate_from 0 xs) i ≡ Some (i, x)
get_indexed xs i x e = get_count 0 xs i x e ∙ ap (λ (n : ℕ). Some (n, x)) (omega arith)

-- ---- the place of a BLE whose net is routed

filled_at : (routed : List (Option ℕ)) (free : List ℕ) (i place : ℕ) → slice_get routed i ≡ Some (Some place) → slice_index (filled_places routed free) i ≡ place
filled_at [] free i place e = absurd cc
filled_at (Some other ∷ routed) free zero place e = cc
filled_at (Some other ∷ routed) free (suc i) place e = filled_at routed free i place e
filled_at (None ∷ routed) free zero place e = absurd cc
filled_at (None ∷ routed) [] (suc i) place e = filled_at routed [] i place e
filled_at (None ∷ routed) (next ∷ free) (suc i) place e = filled_at routed free i place e

module _ (arch : Arch) (layout : Layout) (laid : LaidBlock) where
  pub routed_number : (i : ℕ) (ble : LaidBle) (pin : Node) → slice_get laid.bles i ≡ Some ble → list_any (λ (other : LaidBle). other.name == ble.name) (take i laid.bles) ≡ false →
      pin_out layout laid ble.name ≡ Some pin → slice_index (ble_numbers arch layout laid) i ≡ output_rank arch pin.n
  routed_number i ble pin at first out =
      let routed = routed_places arch layout laid in
      let given : routed_place arch layout laid i ble ≡ Some (output_rank arch pin.n) =
      ap (λ (b : Bool). cond b None (option_map (λ (p : Node). output_rank arch p.n) (pin_out layout laid ble.name))) first ∙ ap (option_map (λ (p : Node). output_rank arch p.n)) out in
      filled_at routed (free_places arch.cluster_size routed) i (output_rank arch pin.n)
      (get_map (λ (ble : ℕ × LaidBle). routed_place arch layout laid ble.0 ble.1) (enumerate_from 0 laid.bles) i (i, ble) (get_indexed laid.bles i ble at) ∙ ap (λ (o : Option ℕ). Some o) given)

-- ---- rows

pub placed_in : (strip : Strip) (laid : LaidBlock) → IsStripSize strip → Contains (places_of strip (kind_of laid.block)) laid.place → IsPlaceIn strip (kind_of laid.block) laid.place
placed_in strip laid size c = All-contains (IsPlaceIn strip (kind_of laid.block)) (places_of strip (kind_of laid.block)) laid.place (all_within strip (kind_of laid.block) size) c

-- two nodes of one block, or of one pad
pub record Together (strip : Strip) (a b : Node) : Type 0 where
  pub x : a.x ≡ b.x
  pub y : a.y ≡ b.y
  pub n : (is_block_row strip a.y || (a.n == b.n)) ≡ true

pub together : (strip : Strip) (a b : Node) → is_together strip a b ≡ true → Together strip a b
together strip a b h = grind arith
