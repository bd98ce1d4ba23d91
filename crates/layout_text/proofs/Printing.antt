-- The result files of a packed, placed and routed circuit are the printing of its layout.
use Rattle.std.proofs.Common.{get_or, ltb, ◌≡◌, ℕ, suc, zero, ◌+◌, ◌<◌, ◌≤◌, Bool, true, false, ◌||◌, cond, if◌then◌else◌, List, [], ◌∷◌, ◌++◌, filter, length, map, Option, Some, None, slice_get, option_map, codes, decimal, sym, ap, refl, ◌∙◌, inl, inr, subst, arith}
use Rattle.std.specs.Prelude.{Contains}
use Rattle.std.specs.List.{enumerate_from, flat_map, list_any, range_with_len}
use Rattle.std.specs.Option.{option_map_or, option_to_list}
use Rattle.std.specs.Prelude.{count_by}
use Rattle.std.proofs.lemmas.Bool.Decides.{nat_tests}
use Rattle.std.proofs.lemmas.List.{get_or-map, length-map}
use Rattle.std.proofs.lemmas.List.Elements.{All-contains}
use Rattle.std.proofs.lemmas.List.FromFn.{get_or-enumerate_from, length-enumerate_from}
use Rattle.arch_file.specs.declared.arch.Pin.{Pin as ArchPin}
use Rattle.arch_file.specs.declared.arch.PinClass.TheVariants.{Input, Clock}
use Rattle.ble_cluster.specs.Bles.{LogicElement}
use Rattle.ble_cluster.specs.Clusters.{clocks_of, outside_inputs}
use Rattle.block_places.specs.Placed.{block_at, place_of}
use Rattle.cluster.specs.Blocks.{BlockNet, block_name, block_nets, blocks_of, elements_in, is_same_class, net_name, pins_of}
use Rattle.cluster.specs.Clusters.{PackedCircuit}
use Rattle.cluster.specs.LawfulPackings.{IsPacked}
use Rattle.cluster.specs.PackingLaws.{IsBlockNet, IsLawfulPacking}
use Rattle.cluster.specs.declared.block.Block.{Block}
use Rattle.cluster.specs.declared.block.Block.TheVariants.{InputPad, OutputPad, Cluster}
use Rattle.grid.specs.Places.{place_at}
use Rattle.grid.specs.declared.Strip.{Strip}
use Rattle.grid.specs.declared.place.Place.{Place}
use Rattle.implements.specs.LayoutOf.{feed_of, laid_ble, laid_block, laid_net, layout_of}
use Rattle.implements.specs.Layouts.{LaidBle, LaidBlock, LaidNet}
use Rattle.implements.specs.declared.feed.Feed.{Feed}
use Rattle.implements.specs.declared.feed.Feed.TheVariants.{Pin, Ble}
use Rattle.implements.proofs.Back.{input_is}
use Rattle.implements.proofs.Led.{block_number}
use Rattle.implements.proofs.Members.{in_cases, in_first, in_later}
use Rattle.implements.proofs.Ports.{laid_at, place_is}
use Rattle.rr_graph.specs.declared.node.Node.{Node}
use Rattle.vpr_files.specs.BlockClusters.{HasCluster}
use Rattle.vpr_files.specs.NetFile.{block_lines, driver_place, element_line, input_word, net_text_of, or_open, pin_with}
use Rattle.vpr_files.proofs.ClusterLemmas.{block_is_there}
use Rattle.vpr_files.specs.NodeText.{node_text_of, position_text}
use Rattle.vpr_files.specs.PlaceFile.{place_text_of, placed_line}
use Rattle.vpr_files.specs.RouteFile.{connected_line, net_lines, route_text_of}
use Rattle.vpr_files.specs.TextLines.{text_of}
use Rattle.layout_text.specs.LayoutText.{between_lines, ble_line, block_of, feed_word, laid_lines, laid_name, listed_line, net_text, place_line, place_text, route_text}

-- ---- lists

-- a list is filled if some member passes
some_left : {X : Type 0} (test : X → Bool) (xs : List X) → list_any test xs ≡ ltb 0 (length (filter test xs))
some_left test [] = refl
some_left {X} test (x ∷ xs) = by (test x) (some_left test xs)
  where
    by : (b : Bool) → list_any test xs ≡ ltb 0 (length (filter test xs)) → (b || list_any test xs) ≡ ltb 0 (length (cond b (x ∷ filter test xs) (filter test xs)))
    by true rest = grind (arith, nat_tests)
    by false rest = rest

-- each of a list, by its place in it
same_places : {X Y : Type 0} (f : X → List ℕ) (g : Y → List ℕ) (xs : List X) (ys : List Y) → map f xs ≡ map g ys → (places : List ℕ) →
    map (λ place. option_map_or f (slice_get xs place) (codes "open")) places ≡ map (λ place. option_map_or g (slice_get ys place) (codes "open")) places
same_places f g xs ys same [] = refl
same_places f g xs ys same (place ∷ places) =
    let one = at f xs place ∙ ap (λ (l : List (List ℕ)). option_map_or (λ (w : List ℕ). w) (slice_get l place) (codes "open")) same ∙ sym (at g ys place) in
    let rest = same_places f g xs ys same places in
    cc
  where
    at : {Z : Type 0} (h : Z → List ℕ) (zs : List Z) (place : ℕ) → option_map_or h (slice_get zs place) (codes "open") ≡ option_map_or (λ (w : List ℕ). w) (slice_get (map h zs) place) (codes "open")
    at h [] place = refl
    at h (z ∷ zs) zero = refl
    at h (z ∷ zs) (suc place) = at h zs place

module _ (packed : PackedCircuit) (cluster : ℕ) where
  -- the words for where nets come from
  word_is : (net : ℕ) (feed : Feed) → feed_of packed cluster net ≡ Some feed → input_word packed cluster net ≡ feed_word feed
  word_is net feed is = by (driver_place packed cluster net) refl (pin_with packed cluster Input net) refl is
    where
      by : (o : Option ℕ) → driver_place packed cluster net ≡ o → (p : Option ℕ) → pin_with packed cluster Input net ≡ p → option_map_or (λ place. Some (Ble place)) o (option_map Pin p) ≡ Some feed →
          option_map_or (λ place. codes "ble_" ++ decimal place) o (or_open decimal p) ≡ feed_word feed
      by (Some place) a p b h = let same : Ble place ≡ feed = cc in ap feed_word same
      by None a (Some pin) b h = let same : Pin pin ≡ feed = cc in ap feed_word same
      by None a None b h = absurd cc

  words_are : (nets : List ℕ) → ((net : ℕ) → Contains nets net → (feed : Feed) × (feed_of packed cluster net ≡ Some feed)) →
      map (input_word packed cluster) nets ≡ map feed_word (flat_map (λ net. option_to_list (feed_of packed cluster net)) nets)
  words_are [] each = refl
  words_are (net ∷ nets) each =
      let q = each net (in_first net nets) in
      let rest = words_are nets (λ other c. each other (in_later net other nets c)) in
      ap (λ (w : List ℕ). w ∷ map (input_word packed cluster) nets) (word_is net q.0 q.1)
      ∙ ap (λ (l : List (List ℕ)). feed_word q.0 ∷ l) rest
      ∙ ap (λ (o : Option Feed). map feed_word (option_to_list o ++ flat_map (λ net. option_to_list (feed_of packed cluster net)) nets)) (sym q.1)

  -- the line of a BLE
  line_is : (element : LogicElement) → ((net : ℕ) → Contains element.inputs net → (feed : Feed) × (feed_of packed cluster net ≡ Some feed)) → element_line packed cluster element ≡ ble_line packed.circuit packed.arch (laid_ble packed cluster element)
  line_is element each =
      let ble = laid_ble packed cluster element in
      ap (λ (l : List (List ℕ)). codes "subblock:" ∷ net_name packed.circuit element.output ∷ l ++ or_open decimal ble.output ∷ or_open decimal ble.clock ∷ [])
      (same_places (input_word packed cluster) feed_word element.inputs ble.inputs (words_are element.inputs each) (range_with_len 0 packed.arch.lut_size))

  lines_are : (elements : List LogicElement) → ((element : LogicElement) → Contains elements element → (net : ℕ) → Contains element.inputs net → (feed : Feed) × (feed_of packed cluster net ≡ Some feed)) →
      map (element_line packed cluster) elements ≡ map (ble_line packed.circuit packed.arch) (map (laid_ble packed cluster) elements)
  lines_are [] each = refl
  lines_are (element ∷ elements) each =
      let one = line_is element (each element (in_first element elements)) in
      let rest = lines_are elements (λ other c. each other (in_later element other elements c)) in
      cc

-- ---- blocks

module _ (packed : PackedCircuit) where
  name_is : (block : Block) (place : Place) → laid_name packed.circuit (laid_block packed block place) ≡ block_name packed block
  name_is (InputPad net) place = refl
  name_is (OutputPad net) place = refl
  name_is (Cluster cluster) place = first (elements_in packed cluster)
    where
      first : (elements : List LogicElement) → option_map_or (λ (ble : LaidBle). net_name packed.circuit ble.name) (slice_get (map (laid_ble packed cluster) elements) 0) [] ≡ option_map_or (λ (seed : LogicElement). net_name packed.circuit seed.output) (slice_get elements 0) []
      first [] = refl
      first (element ∷ elements) = refl

  module _ (places : List Place) (lawful : IsPacked packed) (laws : IsLawfulPacking packed) where
    -- every input of a BLE that was packed comes from somewhere
    fed_in : (cluster : ℕ) → cluster < length packed.clusters → (element : LogicElement) → Contains (elements_in packed cluster) element → (net : ℕ) → Contains element.inputs net → (feed : Feed) × (feed_of packed cluster net ≡ Some feed)
    fed_in cluster small element c net reads =
        let fits = laws.fit cluster [] small in
        let few_inputs : length (outside_inputs (elements_in packed cluster)) ≤ count_by (λ (pin : ArchPin). is_same_class Input pin.class) packed.arch.pins = grind (arith, nat_tests, fits) in
        let clocks : length (clocks_of (elements_in packed cluster)) ≤ 1 = grind (arith, nat_tests, fits) in
        let one = lawful.arch.clocks in
        let few_clocks : length (clocks_of (elements_in packed cluster)) ≤ count_by (λ (pin : ArchPin). is_same_class Clock pin.class) packed.arch.pins = omega (arith, clocks, one) in
        let q = input_is packed cluster (place_at 0 0 0) few_inputs few_clocks element net c reads in
        (q.0, q.1)

    block_is_printed : (block : Block) (place : Place) → HasCluster packed block → block_lines packed block ≡ laid_lines packed.circuit packed.arch (laid_block packed block place)
    block_is_printed (InputPad net) place there = refl
    block_is_printed (OutputPad net) place there = refl
    block_is_printed (Cluster cluster) place there =
        let lines = lines_are packed cluster (elements_in packed cluster) (fed_in cluster there) in
        ap (λ (name : List ℕ). (codes ".clb" ∷ name ∷ []) ∷ (codes "pinlist:" ∷ map (or_open (net_name packed.circuit)) (pins_of packed cluster)) ∷ map (element_line packed cluster) (elements_in packed cluster) ++ [] ∷ []) (sym (name_is (Cluster cluster) place))
        ∙ ap (λ (l : List (List (List ℕ))). (codes ".clb" ∷ laid_name packed.circuit (laid_block packed (Cluster cluster) place) ∷ []) ∷ (codes "pinlist:" ∷ map (or_open (net_name packed.circuit)) (pins_of packed cluster)) ∷ l ++ [] ∷ []) lines

    blocks_printed : (start : ℕ) (blocks : List Block) → ((e : ℕ × Block) → Contains (enumerate_from start blocks) e → HasCluster packed e.1) →
        flat_map (block_lines packed) blocks ≡ flat_map (laid_lines packed.circuit packed.arch) (map (laid_at packed places) (enumerate_from start blocks))
    blocks_printed start [] there = refl
    blocks_printed start (block ∷ blocks) there =
        let one = block_is_printed block (place_of places start) (there (start, block) (in_first (start, block) (enumerate_from (start + 1) blocks))) in
        let rest = blocks_printed (start + 1) blocks (λ e c. there e (in_later (start, block) e (enumerate_from (start + 1) blocks) c)) in
        ap (λ (l : List (List (List ℕ))). l ++ flat_map (block_lines packed) blocks) one
        ∙ ap (λ (l : List (List (List ℕ))). laid_lines packed.circuit packed.arch (laid_at packed places (start, block)) ++ l) rest

    globals_printed : (nets : List BlockNet) → map (λ (net : BlockNet). codes ".global" ∷ net_name packed.circuit net.net ∷ []) nets ≡ map (λ (net : ℕ). codes ".global" ∷ net_name packed.circuit net ∷ []) (map (λ (net : BlockNet). net.net) nets)
    globals_printed [] = refl
    globals_printed (net ∷ nets) = ap (λ (l : List (List (List ℕ))). (codes ".global" ∷ net_name packed.circuit net.net ∷ []) ∷ l) (globals_printed nets)

    pub net_printed : (routes : List (List (List Node))) → net_text_of packed ≡ net_text packed.circuit packed.arch (layout_of packed places routes)
    unfolding net_text_of net_text layout_of
    net_printed routes =
        let nets = block_nets packed in
        let globals = filter (λ (net : BlockNet). net.global) nets in
        let long : length (map (λ (net : BlockNet). net.net) globals) ≡ length globals = length-map globals (λ (net : BlockNet). net.net) in
        let filled : list_any (λ (net : BlockNet). net.global) nets ≡ ltb 0 (length (map (λ (net : BlockNet). net.net) globals)) = some_left (λ (net : BlockNet). net.global) nets ∙ ap (λ (n : ℕ). ltb 0 n) (sym long) in
        let blocks = blocks_printed 0 (blocks_of packed) (λ e c. let at = block_number packed places lawful laws e c in block_is_there packed e.0 e.1 at.0) in
        ap text_of
        (ap (λ (l : List (List (List ℕ))). l ++ (if list_any (λ (net : BlockNet). net.global) nets then [] ∷ [] else []) ++ flat_map (block_lines packed) (blocks_of packed)) (globals_printed globals)
        ∙ ap (λ (b : Bool). map (λ (net : ℕ). codes ".global" ∷ net_name packed.circuit net ∷ []) (map (λ (net : BlockNet). net.net) globals) ++ (if b then [] ∷ [] else []) ++ flat_map (block_lines packed) (blocks_of packed)) filled
        ∙ ap (λ (l : List (List (List ℕ))). map (λ (net : ℕ). codes ".global" ∷ net_name packed.circuit net ∷ []) (map (λ (net : BlockNet). net.net) globals) ++ (if ltb 0 (length (map (λ (net : BlockNet). net.net) globals)) then [] ∷ [] else []) ++ l) blocks)

    -- ---- places

    placed_from : (start : ℕ) (blocks : List Block) → ((e : ℕ × Block) → Contains (enumerate_from start blocks) e → block_at packed e.0 ≡ e.1) →
        map (λ (block : ℕ). placed_line packed block (place_of places block)) (range_with_len start (length blocks))
        ≡ map (λ (block : ℕ × LaidBlock). place_line packed.circuit block.0 block.1) (enumerate_from start (map (laid_at packed places) (enumerate_from start blocks)))
    placed_from start [] at = refl
    placed_from start (block ∷ blocks) at =
        let place = place_of places start in
        let name : block_name packed (block_at packed start) ≡ laid_name packed.circuit (laid_block packed block place) = ap (block_name packed) (at (start, block) (in_first (start, block) (enumerate_from (start + 1) blocks))) ∙ sym (name_is block place) in
        let stays : place ≡ (laid_block packed block place).place = sym (place_is packed block place) in
        let one : placed_line packed start place ≡ place_line packed.circuit start (laid_block packed block place) =
        ap (λ (n : List ℕ). n ∷ decimal place.x ∷ decimal place.y ∷ decimal place.subblock ∷ (codes "#" ++ decimal start) ∷ []) name
        ∙ ap (λ (p : Place). laid_name packed.circuit (laid_block packed block place) ∷ decimal p.x ∷ decimal p.y ∷ decimal p.subblock ∷ (codes "#" ++ decimal start) ∷ []) stays in
        let rest = placed_from (start + 1) blocks (λ e c. at e (in_later (start, block) e (enumerate_from (start + 1) blocks) c)) in
        ap (λ (l : List (List ℕ)). l ∷ map (λ (block : ℕ). placed_line packed block (place_of places block)) (range_with_len (start + 1) (length blocks))) one
        ∙ ap (λ (l : List (List (List ℕ))). place_line packed.circuit start (laid_block packed block place) ∷ l) rest

    pub place_printed : (strip : Strip) (routes : List (List (List Node))) → place_text_of strip packed places ≡ place_text packed.circuit strip (layout_of packed places routes)
    unfolding place_text_of place_text layout_of
    place_printed strip routes =
        let lines = placed_from 0 (blocks_of packed) (λ e c. (block_number packed places lawful laws e c).1) in
        ap (λ (l : List (List (List ℕ))). text_of (
        (codes "Netlist file:" ∷ (packed.circuit.model ++ codes ".net") ∷ codes "Architecture file: device.arch" ∷ [])
        ∷ (codes "Array size:" ∷ decimal strip.width ∷ codes "x" ∷ decimal strip.rows ∷ codes "logic blocks" ∷ []) ∷ []
        ∷ (codes "#block name x y subblk block number" ∷ []) ∷ (codes "#---------- - - ------ ------------" ∷ []) ∷ l)) lines

    -- ---- routes

    listed_at : (routes : List (List (List Node))) (block : ℕ) → block < length (blocks_of packed) → connected_line packed block (place_of places block) ≡ listed_line packed.circuit block (block_of (layout_of packed places routes) block)
    unfolding layout_of
    listed_at routes block small =
        let blocks = blocks_of packed in
        let none : ℕ × Block = (0, Cluster 0) in
        let here : 0 + block ≡ block = omega arith in
        let e : get_or (enumerate_from 0 blocks) block none ≡ (block, block_at packed block) = get_or-enumerate_pair blocks block small ∙ ap (λ (n : ℕ). (n, block_at packed block)) here in
        let laid : block_of (layout_of packed places routes) block ≡ laid_block packed (block_at packed block) (place_of places block) =
        get_or-map (laid_at packed places) (enumerate_from 0 blocks) block none _ (omega (arith, small, length-enumerate_from 0 blocks)) ∙ ap (laid_at packed places) e in
        let name = name_is (block_at packed block) (place_of places block) in
        let stays = place_is packed (block_at packed block) (place_of places block) in
        ap (λ (n : List ℕ). codes "Block" ∷ n ∷ (codes "(#" ++ decimal block ++ codes ")") ∷ codes "at" ∷ (position_text (place_of places block).x (place_of places block).y ++ codes ".") ∷ []) (sym name)
        ∙ ap (λ (p : Place). codes "Block" ∷ laid_name packed.circuit (laid_block packed (block_at packed block) (place_of places block)) ∷ (codes "(#" ++ decimal block ++ codes ")") ∷ codes "at" ∷ (position_text p.x p.y ++ codes ".") ∷ []) (sym stays)
        ∙ ap (listed_line packed.circuit block) (sym laid)
      where
        get_or-enumerate_pair : (blocks : List Block) (block : ℕ) → block < length blocks → get_or (enumerate_from 0 blocks) block (0, Cluster 0) ≡ (0 + block, get_or blocks block (Cluster 0))
        get_or-enumerate_pair blocks block small = get_or-enumerate_from 0 blocks block (0, Cluster 0) small

    listed_all : (routes : List (List (List Node))) (numbers : List ℕ) → ((number : ℕ) → Contains numbers number → number < length (blocks_of packed)) →
        map (λ (block : ℕ). connected_line packed block (place_of places block)) numbers ≡ map (λ (block : ℕ). listed_line packed.circuit block (block_of (layout_of packed places routes) block)) numbers
    listed_all routes [] small = refl
    listed_all routes (number ∷ numbers) small =
        let one = listed_at routes number (small number (in_first number numbers)) in
        let rest = listed_all routes numbers (λ other c. small other (in_later number other numbers c)) in
        ap (λ (l : List (List ℕ)). l ∷ map (λ (block : ℕ). connected_line packed block (place_of places block)) numbers) one
        ∙ ap (λ (l : List (List (List ℕ))). listed_line packed.circuit number (block_of (layout_of packed places routes) number) ∷ l) rest

    -- the lines of a net
    net_is_printed : (strip : Strip) (routes : List (List (List Node))) (number : ℕ) (net : BlockNet) (paths : List (List Node)) → IsBlockNet packed net →
        net_lines strip packed places number net paths ≡ between_lines packed.circuit strip (layout_of packed places routes) number (laid_net net paths) (laid_net net paths).listed
    net_is_printed strip routes number net paths is = by net.global
      where
        name : List ℕ
        name = net_name packed.circuit net.net

        small : (block : ℕ) → Contains (net.driver ∷ net.readers) block → block < length (blocks_of packed)
        small block c = elim (in_cases net.driver block net.readers c) [
          | inl e ↦ subst (λ (b : ℕ). b < length (blocks_of packed)) e is.driver
          | inr d ↦ All-contains (λ (reader : ℕ). reader < length (blocks_of packed)) net.readers block is.readers d
        ]

        by : (global : Bool) →
            ((codes "Net" ∷ decimal number ∷ (codes "(" ++ net_name packed.circuit net.net ++ (if global then codes "): global net connecting:" else codes ")")) ∷ []) ∷ []
            ∷ (if global then map (λ (block : ℕ). connected_line packed block (place_of places block)) (net.driver ∷ net.readers) else flat_map (map (λ (node : Node). node_text_of strip.rows node ∷ [])) paths) ++ [] ∷ [])
            ≡ between_lines packed.circuit strip (layout_of packed places routes) number (record { net = net.net; listed = if global then net.driver ∷ net.readers else []; paths = if global then [] else paths }) (if global then net.driver ∷ net.readers else [])
        by false = refl
        by true =
            ap (λ (l : List (List (List ℕ))). (codes "Net" ∷ decimal number ∷ (codes "(" ++ net_name packed.circuit net.net ++ codes "): global net connecting:") ∷ []) ∷ [] ∷ l ++ [] ∷ [])
            (listed_all routes (net.driver ∷ net.readers) small)

    nets_printed : (strip : Strip) (routes : List (List (List Node))) (start : ℕ) (nets : List BlockNet) → ((net : BlockNet) → Contains nets net → IsBlockNet packed net) →
        flat_map (λ (net : ℕ × BlockNet). net_lines strip packed places net.0 net.1 (get_or routes net.0 [])) (enumerate_from start nets)
        ≡ flat_map (λ (net : ℕ × LaidNet). between_lines packed.circuit strip (layout_of packed places routes) net.0 net.1 net.1.listed) (enumerate_from start (map (λ (net : ℕ × BlockNet). laid_net net.1 (get_or routes net.0 [])) (enumerate_from start nets)))
    nets_printed strip routes start [] each = refl
    nets_printed strip routes start (net ∷ nets) each =
        let one = net_is_printed strip routes start net (get_or routes start []) (each net (in_first net nets)) in
        let rest = nets_printed strip routes (start + 1) nets (λ other c. each other (in_later net other nets c)) in
        ap (λ (l : List (List (List ℕ))). l ++ flat_map (λ (net : ℕ × BlockNet). net_lines strip packed places net.0 net.1 (get_or routes net.0 [])) (enumerate_from (start + 1) nets)) one
        ∙ ap (λ (l : List (List (List ℕ))). between_lines packed.circuit strip (layout_of packed places routes) start (laid_net net (get_or routes start [])) (laid_net net (get_or routes start [])).listed ++ l) rest

    nets_of_layout : (routes : List (List (List Node))) → (layout_of packed places routes).nets ≡ map (λ (net : ℕ × BlockNet). laid_net net.1 (get_or routes net.0 [])) (enumerate_from 0 (block_nets packed))
    unfolding layout_of
    nets_of_layout routes = refl

    pub route_printed : (strip : Strip) (routes : List (List (List Node))) → route_text_of strip packed places routes ≡ route_text packed.circuit strip (layout_of packed places routes)
    unfolding route_text_of route_text
    route_printed strip routes =
        let layout = layout_of packed places routes in
        let lines = nets_printed strip routes 0 (block_nets packed) (λ net c. All-contains (IsBlockNet packed) (block_nets packed) net laws.nets c)
        ∙ ap (λ (nets : List LaidNet). flat_map (λ (net : ℕ × LaidNet). between_lines packed.circuit strip layout net.0 net.1 net.1.listed) (enumerate_from 0 nets)) (sym (nets_of_layout routes)) in
        ap (λ (l : List (List (List ℕ))). text_of (
        (codes "Array size:" ∷ decimal strip.width ∷ codes "x" ∷ decimal strip.rows ∷ codes "logic blocks." ∷ []) ∷ [] ∷ (codes "Routing:" ∷ []) ∷ [] ∷ l)) lines
