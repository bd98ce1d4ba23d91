-- No two BLEs of a layout are at one place.
use Rattle.configuration.proofs.Prelude.{◌≡◌, ℕ, suc, zero, ◌+◌, ◌<◌, ◌≤◌, Bool, true, false, ◌&&◌, ◌||◌, ◌==◌, nat_le, List, [], ◌∷◌, cond, find, length, map, take, Option, Some, None, slice_get, option_map, sym, ap, refl, ◌∙◌, inl, inr, subst, arith, Contains, count_by, slice_index, enumerate_from, list_any, option_map_or, and_parts, cases_order, eqb-true, false≢true, nat_tests, get_or_default, length-map, All-contains, length-enumerate_from, same_Some, JoinedLine, Arch, Output, Circuit, kind_of, is_same_class, Cluster, Strip, Logic, Place, places_of, IsPlaceIn, IsStripSize, Implements, ble_places, LaidBle, LaidBlock, LaidNet, Layout, from_get, in_none, to_any, count-cons, pairs_of, is_same_node, source_at, same_node, Node, Opin, is_block_number, is_chan_y, is_pad_row, is_slot, is_terminal, BlePlace, ble_numbers, free_places, output_rank, paths_of, pin_out, routed_place, routed_places, AreBlesApart, Spot}
use Rattle.arch_file.specs.declared.arch.Pin.{Pin as ArchPin}
use Rattle.configuration.proofs.BlePlaces.{AreOnce, are_left, filled_once}
use Rattle.configuration.proofs.Branches.{joined, pair_nodes, source_to_opin}
use Rattle.configuration.proofs.Found.{found_is}
use Rattle.configuration.proofs.OneDriver.{one_carries, route_with}
use Rattle.configuration.proofs.Spots.{placed_in, together}
use Rattle.configuration.proofs.Wiring.{same_made}

-- ---- elements by index

of_mapped : {X Y : Type 0} (f : ℕ × X → Y) (start : ℕ) (xs : List X) (i : ℕ) (y : Y) → slice_get (map f (enumerate_from start xs)) i ≡ Some y → (x : X) × (slice_get xs i ≡ Some x) × (f (start + i, x) ≡ y)
of_mapped f start [] i y e = absurd cc
of_mapped f start (x ∷ xs) zero y e = let here : start + 0 ≡ start = omega arith in (x, refl, ap (λ (n : ℕ). f (n, x)) here ∙ same_Some (f (start, x)) y e)
of_mapped f start (x ∷ xs) (suc i) y e = let q = of_mapped f (start + 1) xs i y e in let here : start + suc i ≡ (start + 1) + i = omega arith in (q.0, q.1, ap (λ (n : ℕ). f (n, q.0)) here ∙ q.2)

in_take : {X : Type 0} (xs : List X) (i j : ℕ) (x : X) → slice_get xs i ≡ Some x → i < j → slice_get (take j xs) i ≡ Some x
in_take [] i j x e h = absurd cc
in_take (y ∷ xs) i zero x e h = absurd (omega (arith, h))
in_take (y ∷ xs) zero (suc j) x e h = e
in_take (y ∷ xs) (suc i) (suc j) x e h = in_take xs i j x e (omega (arith, h))

same_place : {place other : Place} → place.x ≡ other.x → place.y ≡ other.y → place.subblock ≡ other.subblock → place ≡ other
same_place p q r = grind arith

-- ---- output pins

abbrev is_output : ArchPin → Bool
is_output pin = is_same_class Output pin.class

rank_less : (pins : List ArchPin) (n m : ℕ) → n < m → option_map_or is_output (slice_get pins n) false ≡ true → count_by is_output (take n pins) < count_by is_output (take m pins)
rank_less [] n m h out = absurd (false≢true out)
rank_less (pin ∷ pins) n zero h out = absurd (omega (arith, h))
rank_less (pin ∷ pins) zero (suc m) h out = let count = count-cons is_output pin (take m pins) in let one : cond {A = ℕ} (is_output pin) 1 0 ≡ 1 = ap (λ (b : Bool). cond {A = ℕ} b 1 0) out in omega (arith, count, one)
rank_less (pin ∷ pins) (suc n) (suc m) h out = search (count-cons, rank_less pins n m (omega (arith, h)) out, arith)

same_rank : (arch : Arch) (n m : ℕ) → is_block_number arch Opin n ≡ true → is_block_number arch Opin m ≡ true → output_rank arch n ≡ output_rank arch m → n ≡ m
same_rank arch n m one two same = search (rank_less, arith)

-- ---- the pins by which nets leave a block

-- a net's pin at a block
record LeavesBy (layout : Layout) (arch : Arch) (laid : LaidBlock) (net : ℕ) (pin : Node) : Type 0 where
  between : LaidNet
  there : Contains layout.nets between
  same : between.net ≡ net
  pair : Contains (pairs_of between.paths) (source_at laid.block laid.place, pin)
  x : pin.x ≡ laid.place.x
  y : pin.y ≡ laid.place.y
  kind : pin.kind ≡ Opin
  number : is_block_number arch Opin pin.n ≡ true

module _ (lines : List JoinedLine) (circuit : Circuit) (arch : Arch) (strip : Strip) (layout : Layout) (size : IsStripSize strip) (h : Implements circuit arch strip layout) where
  row_of : (laid : LaidBlock) (number : ℕ) → Contains layout.blocks laid → laid.block ≡ Cluster number → IsPlaceIn strip Logic laid.place
  row_of laid number there is =
      subst (λ block. IsPlaceIn strip (kind_of block) laid.place) is (placed_in strip laid size (All-contains (λ (laid : LaidBlock). Contains (places_of strip (kind_of laid.block)) laid.place) layout.blocks laid h.placed there))

  leaves_by : (laid : LaidBlock) (number : ℕ) → Contains layout.blocks laid → laid.block ≡ Cluster number → (net : ℕ) (pin : Node) → pin_out layout laid net ≡ Some pin → LeavesBy layout arch laid net pin
  leaves_by laid number there is net pin out = by (find (λ (between : LaidNet). between.net == net) layout.nets) refl (find (λ (edge : Node × Node). is_same_node edge.0 (source_at laid.block laid.place)) (pairs_of (paths_of layout net))) refl out
    where
      inside : (between : LaidNet) → Contains layout.nets between → between.net ≡ net → (a b : Node) → Contains (pairs_of between.paths) (a, b) → a ≡ source_at laid.block laid.place → b ≡ pin → LeavesBy layout arch laid net pin
      inside between there' same a b c from to =
          let pair : Contains (pairs_of between.paths) (source_at laid.block laid.place, pin) = subst (λ n. Contains (pairs_of between.paths) (source_at laid.block laid.place, n)) to (subst (λ n. Contains (pairs_of between.paths) (n, b)) from c) in
          let r = route_with lines circuit arch strip layout h between pin there' (pair_nodes between.paths (source_at laid.block laid.place) pin pair).1 in
          let edge = r.route.is_tree.edges (source_at laid.block laid.place) pin pair in
          let ends = source_to_opin arch strip (source_at laid.block laid.place) pin edge refl in
          let near = together strip (source_at laid.block laid.place) pin ends.1 in
          let node = (joined arch strip (source_at laid.block laid.place) pin edge).to in
          let outer = and_parts (nat_le pin.x strip.width) ((nat_le 1 pin.x || is_chan_y pin.kind) && is_slot arch strip pin.kind pin.y pin.n) node in
          let slot = (and_parts (nat_le 1 pin.x || is_chan_y pin.kind) (is_slot arch strip pin.kind pin.y pin.n) outer.1).1 in
          let as_opin : is_slot arch strip Opin pin.y pin.n ≡ true = sym (ap (λ kind. is_slot arch strip kind pin.y pin.n) ends.0) ∙ slot in
          let row = (row_of laid number there is).row in
          let y = near.y in
          let logic : is_pad_row strip pin.y ≡ false = grind (arith, nat_tests, row, y) in
          let numbered : is_block_number arch Opin pin.n ≡ true = grind (arith, as_opin, logic) in
          record { between = between; there = there'; same = same; pair = pair; x = sym near.x; y = sym near.y; kind = ends.0; number = numbered }

      by : (o : Option LaidNet) → find (λ (between : LaidNet). between.net == net) layout.nets ≡ o → (edge : Option (Node × Node)) → find (λ (edge : Node × Node). is_same_node edge.0 (source_at laid.block laid.place)) (pairs_of (paths_of layout net)) ≡ edge →
          option_map (λ (edge : Node × Node). edge.1) edge ≡ Some pin → LeavesBy layout arch laid net pin
      by o found None none e = absurd cc
      by None found (Some edge) some e =
          let empty : paths_of layout net ≡ [] = ap (λ (o : Option LaidNet). option_map_or (λ (between : LaidNet). between.paths) o []) found in
          let f = found_is (λ (edge : Node × Node). is_same_node edge.0 (source_at laid.block laid.place)) (pairs_of (paths_of layout net)) edge some in
          absurd (in_none edge (subst (λ paths. Contains (pairs_of paths) edge) empty f.0))
      by (Some between) found (Some edge) some e =
          let paths : paths_of layout net ≡ between.paths = ap (λ (o : Option LaidNet). option_map_or (λ (between : LaidNet). between.paths) o []) found in
          let f = found_is (λ (edge : Node × Node). is_same_node edge.0 (source_at laid.block laid.place)) (pairs_of (paths_of layout net)) edge some in
          let g = found_is (λ (between : LaidNet). between.net == net) layout.nets between found in
          inside between g.0 (eqb-true between.net net g.1) edge.0 edge.1 (subst (λ paths. Contains (pairs_of paths) edge) paths f.0) (same_node edge.0 (source_at laid.block laid.place) f.1) (same_Some edge.1 pin e)

  -- a BLE that is asked to be at a place
  record Asked (laid : LaidBlock) (index place : ℕ) : Type 0 where
    ble : LaidBle
    at : slice_get laid.bles index ≡ Some ble
    first : list_any (λ (other : LaidBle). other.name == ble.name) (take index laid.bles) ≡ false
    pin : Node
    out : pin_out layout laid ble.name ≡ Some pin
    rank : output_rank arch pin.n ≡ place

  asked_of : (laid : LaidBlock) (index place : ℕ) → slice_get (routed_places arch layout laid) index ≡ Some (Some place) → Asked laid index place
  asked_of laid index place e = grind (arith, of_mapped)

  no_earlier : (laid : LaidBlock) (i j : ℕ) (place : ℕ) (a : Asked laid i place) (b : Asked laid j place) → a.ble.name ≡ b.ble.name → i < j → ⊥
  no_earlier laid i j place a b name less =
      let test = λ (other : LaidBle). other.name == b.ble.name in
      let there = (from_get (take j laid.bles) i a.ble (in_take laid.bles i j a.ble a.at less)).1 in
      let found = to_any test (take j laid.bles) a.ble there (grind (arith, nat_tests, name)) in
      let wrong : false ≡ true = sym b.first ∙ found in false≢true wrong

  asked_once : (laid : LaidBlock) (number : ℕ) → Contains layout.blocks laid → laid.block ≡ Cluster number → AreOnce (routed_places arch layout laid)
  asked_once laid number there is i j place e f =
      let a = asked_of laid i place e in
      let b = asked_of laid j place f in
      let p = leaves_by laid number there is a.ble.name a.pin a.out in
      let q = leaves_by laid number there is b.ble.name b.pin b.out in
      let n : a.pin.n ≡ b.pin.n = same_rank arch a.pin.n b.pin.n p.number q.number (a.rank ∙ sym b.rank) in
      let pin : a.pin ≡ b.pin = same_made p.x p.kind p.y n ∙ sym (same_made q.x q.kind q.y refl) in
      let inner : is_terminal a.pin.kind ≡ false = ap is_terminal p.kind in
      let in_q = subst (λ pin. Contains (pairs_of q.between.paths) (source_at laid.block laid.place, pin)) (sym pin) q.pair in
      let net = one_carries lines circuit arch strip layout h a.pin p.between q.between inner p.there q.there (pair_nodes p.between.paths (source_at laid.block laid.place) a.pin p.pair).1 (pair_nodes q.between.paths (source_at laid.block laid.place) a.pin in_q).1 in
      let name : a.ble.name ≡ b.ble.name = sym p.same ∙ ap (λ (between : LaidNet). between.net) net ∙ q.same in
      elim (cases_order i j) [
        | inl same ↦ same
        | inr differ ↦ elim differ [
          | inl less ↦ absurd (no_earlier laid i j place a b name less)
          | inr more ↦ absurd (no_earlier laid j i place b a (sym name) more)
        ]
      ]

  -- blocks at one place are one
  one_block : (laid other : LaidBlock) → Contains layout.blocks laid → Contains layout.blocks other → laid.place ≡ other.place → laid ≡ other
  one_block laid other c d same = grind (arith, get_or_default layout.blocks d.0 laid other d.1)

  same_index : (laid : LaidBlock) (number : ℕ) → Contains layout.blocks laid → laid.block ≡ Cluster number → (i j : ℕ) → i < length laid.bles → j < length laid.bles →
      slice_index (ble_numbers arch layout laid) i ≡ slice_index (ble_numbers arch layout laid) j → i ≡ j
  same_index laid number there is i j within small same =
      let routed = routed_places arch layout laid in
      let few = All-contains (λ (laid : LaidBlock). length laid.bles ≤ ble_places arch laid.block) layout.blocks laid h.few_bles there in
      let places : ble_places arch laid.block ≡ arch.cluster_size = ap (ble_places arch) is in
      let mapped = length-map (enumerate_from 0 laid.bles) (λ (ble : ℕ × LaidBle). routed_place arch layout laid ble.0 ble.1) in
      let counted = length-enumerate_from 0 laid.bles in
      let long : length routed ≡ length laid.bles = mapped ∙ counted in
      filled_once routed (free_places arch.cluster_size routed) (asked_once laid number there is) (are_left arch.cluster_size routed (omega (arith, long, few, places))) i j (omega (arith, long, within)) (omega (arith, long, small)) same

  cluster_at : (spot : Spot layout) → (number : ℕ) × (spot.laid.block ≡ Cluster number)
  cluster_at spot = grind (arith, from_get)

  pub bles_apart : AreBlesApart arch layout
  bles_apart spot other same =
      let q = cluster_at spot in
      let r = cluster_at other in
      let one = (row_of spot.laid q.0 spot.there q.1).row.1 in
      let two = (row_of other.laid r.0 other.there r.1).row.1 in
      let place : spot.laid.place ≡ other.laid.place = same_place (ap (λ (p : BlePlace). p.x) same) (ap (λ (p : BlePlace). p.y) same) (one ∙ sym two) in
      let laid : spot.laid ≡ other.laid = one_block spot.laid other.laid spot.there other.there place in
      let number : slice_index (ble_numbers arch layout spot.laid) spot.index ≡ slice_index (ble_numbers arch layout spot.laid) other.index =
      ap (λ (p : BlePlace). p.n) same ∙ ap (λ laid. slice_index (ble_numbers arch layout laid) other.index) (sym laid) in
      let small : other.index < length spot.laid.bles = subst (λ (laid : LaidBlock). other.index < length laid.bles) (sym laid) (from_get other.laid.bles other.index other.ble other.is).0 in
      (laid, same_index spot.laid q.0 spot.there q.1 spot.index other.index (from_get spot.laid.bles spot.index spot.ble spot.is).0 small number)
