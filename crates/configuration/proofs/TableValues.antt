-- The table of a BLE is the one that it holds.
use Rattle.configuration.proofs.Prelude.{◌≡◌, ◌≢◌, ℕ, ◌≤◌, ◌==◌, Bool, true, false, ◌&&◌, ◌||◌, List, [], ◌∷◌, ◌++◌, cond, length, map, Option, Some, None, sym, ap, refl, ◌∙◌, subst, arith, Contains, count_by, flat_map, list_all, list_any, option_map_or, option_to_list, and_parts, eqb-true, nat_tests, All-contains, JoinedLine, Arch, IsCircuit, Circuit, Latch, LookupTable, has, is_read_once, reads_of, pairs_back, pairs_front, Strip, holds_table, is_pair, is_same_net, is_table, receives, Implements, ble_places, LaidBle, LaidBlock, Layout, traced_ble, all_members, from_all, from_any, from_get, from_has, to_any, to_flat_map, to_map, AreApart, count-append, never_both, same_by, some_counted, rows_at, bits_of, wire_bits, bits_same, configuration_of, latch_driving, table_driving, table_within, values_in, Values, HasValues, Spot, place_of_spot}
use Rattle.configuration.proofs.Connected.{reads_table}
use Rattle.configuration.proofs.Found.{find_one, found_is}
use Rattle.configuration.proofs.Members.{has_ble_line, has_values}
use Rattle.configuration.proofs.Wiring.{a_cluster}

module _ (circuit : Circuit) (lawful : IsCircuit circuit) where
  drivers : AreApart (map (λ (table : LookupTable). table.output) circuit.tables ++ map (λ (latch : Latch). latch.output) circuit.latches)
  drivers = pairs_back (λ net other. net ≢ other) circuit.inputs (map (λ (table : LookupTable). table.output) circuit.tables ++ map (λ (latch : Latch). latch.output) circuit.latches) lawful.driven_once

  table_found : (table : LookupTable) (net : ℕ) → Contains circuit.tables table → table.output ≡ net → table_driving circuit net ≡ Some table
  table_found table net c is =
      let test = λ (other : LookupTable). other.output == net in
      let q = find_one test circuit.tables (to_any test circuit.tables table c (grind (arith, nat_tests, is))) in
      let f = found_is test circuit.tables q.0 q.1 in
      let apart = pairs_front (λ net other. net ≢ other) (map (λ (table : LookupTable). table.output) circuit.tables) (map (λ (latch : Latch). latch.output) circuit.latches) drivers in
      q.1 ∙ ap (λ (t : LookupTable). Some t) (same_by (λ (table : LookupTable). table.output) circuit.tables q.0 table apart f.0 c (eqb-true q.0.output net f.1 ∙ sym is))

  latch_found : (latch : Latch) (net : ℕ) → Contains circuit.latches latch → latch.output ≡ net → latch_driving circuit net ≡ Some latch
  latch_found latch net c is =
      let test = λ (other : Latch). other.output == net in
      let q = find_one test circuit.latches (to_any test circuit.latches latch c (grind (arith, nat_tests, is))) in
      let f = found_is test circuit.latches q.0 q.1 in
      let apart = pairs_back (λ net other. net ≢ other) (map (λ (table : LookupTable). table.output) circuit.tables) (map (λ (latch : Latch). latch.output) circuit.latches) drivers in
      q.1 ∙ ap (λ (l : Latch). Some l) (same_by (λ (latch : Latch). latch.output) circuit.latches q.0 latch apart f.0 c (eqb-true q.0.output net f.1 ∙ sym is))

  no_latch : (table : LookupTable) (net : ℕ) → Contains circuit.tables table → table.output ≡ net → latch_driving circuit net ≡ None
  no_latch table net c is = by (latch_driving circuit net) refl
    where
      by : (o : Option Latch) → latch_driving circuit net ≡ o → latch_driving circuit net ≡ None
      by None none = none
      by (Some latch) some =
          let f = found_is (λ (other : Latch). other.output == net) circuit.latches latch some in
          let tables = map (λ (table : LookupTable). table.output) circuit.tables in
          let latches = map (λ (latch : Latch). latch.output) circuit.latches in
          let there : Contains tables net = subst (λ n. Contains tables n) is (to_map (λ (table : LookupTable). table.output) circuit.tables table c) in
          let also : Contains latches net = subst (λ n. Contains latches n) (eqb-true latch.output net f.1) (to_map (λ (latch : Latch). latch.output) circuit.latches latch f.0) in
          absurd (never_both tables latches net drivers there also)

  -- a net that is read once is not read by a table and by a latch
  not_twice : (table : LookupTable) (latch : Latch) (net : ℕ) → Contains circuit.tables table → Contains circuit.latches latch → has table.inputs net ≡ true → latch.input ≡ net → is_read_once circuit net ≡ true → ⊥
  not_twice table latch net c d reads is once =
      let test = λ (read : ℕ). read == net in
      let A = flat_map (λ (table : LookupTable). table.inputs) circuit.tables in
      let B = map (λ (latch : Latch). latch.input) circuit.latches in
      let C = flat_map (λ (latch : Latch). option_to_list latch.control) circuit.latches in
      let self : (net == net) ≡ true = grind (arith, nat_tests) in
      let in_a = to_flat_map (λ (table : LookupTable). table.inputs) circuit.tables table net c (from_has table.inputs net reads) in
      let in_b : Contains B net = subst (λ n. Contains B n) is (to_map (λ (latch : Latch). latch.input) circuit.latches latch d) in
      let one = some_counted test A net in_a self in
      let two = some_counted test B net in_b self in
      let p = count-append test A B in
      let q = count-append test (A ++ B) C in
      let r = count-append test ((A ++ B) ++ C) circuit.outputs in
      let count : count_by test (reads_of circuit) ≡ 1 = eqb-true (count_by test (reads_of circuit)) 1 once in
      omega (arith, one, two, p, q, r, count)

  module _ (arch : Arch) (laid : LaidBlock) (ble : LaidBle) where
    table_is : (table : LookupTable) → Contains circuit.tables table → holds_table circuit (traced_ble arch laid ble) table ≡ true → table_within circuit arch laid ble ≡ Some table
    table_is table c holds = by (is_table (traced_ble arch laid ble) table) refl
      where
        by : (b : Bool) → is_table (traced_ble arch laid ble) table ≡ b → table_within circuit arch laid ble ≡ Some table
        by true is =
            let output : (ble.name == table.output) ≡ true = (and_parts (ble.name == table.output) (receives (traced_ble arch laid ble) table.inputs && is_same_net (traced_ble arch laid ble).clock None) is).0 in
            let same : table.output ≡ ble.name = sym (eqb-true ble.name table.output output) in
            ap (λ (o : Option Latch). option_map_or (λ (latch : Latch). cond (receives (traced_ble arch laid ble) (latch.input ∷ [])) None (table_driving circuit latch.input)) o (table_driving circuit ble.name)) (no_latch table ble.name c same)
            ∙ table_found table ble.name c same
        by false is =
            let pair = from_any (is_pair circuit (traced_ble arch laid ble) table) circuit.latches (sym (ap (λ (b : Bool). b || list_any (is_pair circuit (traced_ble arch laid ble) table) circuit.latches) is) ∙ holds) in
            let latch = pair.0 in
            let outer = and_parts ((latch.input == table.output) && is_read_once circuit table.output) ((ble.name == latch.output) && (receives (traced_ble arch laid ble) table.inputs && is_same_net (traced_ble arch laid ble).clock latch.control)) pair.2 in
            let left = and_parts (latch.input == table.output) (is_read_once circuit table.output) outer.0 in
            let right = and_parts (ble.name == latch.output) (receives (traced_ble arch laid ble) table.inputs && is_same_net (traced_ble arch laid ble).clock latch.control) outer.1 in
            let same : latch.input ≡ table.output = eqb-true latch.input table.output left.0 in
            let name : latch.output ≡ ble.name = sym (eqb-true ble.name latch.output right.0) in
            ap (λ (o : Option Latch). option_map_or (λ (latch : Latch). cond (receives (traced_ble arch laid ble) (latch.input ∷ [])) None (table_driving circuit latch.input)) o (table_driving circuit ble.name)) (latch_found latch ble.name pair.1 name)
            ∙ (ap (λ (b : Bool). cond b None (table_driving circuit latch.input)) (not_alone latch pair.1 same left.1) ∙ table_found table latch.input c (sym same))
          where
            not_alone : (latch : Latch) → Contains circuit.latches latch → latch.input ≡ table.output → is_read_once circuit table.output ≡ true → receives (traced_ble arch laid ble) (latch.input ∷ []) ≡ false
            not_alone latch d same once = split (receives (traced_ble arch laid ble) (latch.input ∷ [])) refl
              where
                split : (b : Bool) → receives (traced_ble arch laid ble) (latch.input ∷ []) ≡ b → receives (traced_ble arch laid ble) (latch.input ∷ []) ≡ false
                split false is = is
                split true is =
                    let inputs = (traced_ble arch laid ble).inputs in
                    let there : has inputs latch.input ≡ true = grind (arith, is) in
                    let reads = reads_table circuit (traced_ble arch laid ble) table holds in
                    let all : list_all (has table.inputs) inputs ≡ true = grind (arith, reads) in
                    let read : has table.inputs latch.input ≡ true = from_all (has table.inputs) inputs latch.input all (from_has inputs latch.input there) in
                    absurd (not_twice table latch table.output c d (subst (λ n. has table.inputs n ≡ true) same read) same once)

pub has_table_values : (netlist : List JoinedLine) (circuit : Circuit) (arch : Arch) (strip : Strip) (layout : Layout) → IsCircuit circuit → Implements circuit arch strip layout → (table : LookupTable) → Contains circuit.tables table →
    (spot : Spot layout) → holds_table circuit (traced_ble arch spot.laid spot.ble) table ≡ true → HasValues netlist circuit arch layout (configuration_of netlist circuit arch strip layout) spot table
has_table_values netlist circuit arch strip layout lawful h table c spot holds =
    let place = place_of_spot arch layout spot in
    let inputs = (traced_ble arch spot.laid spot.ble).inputs in
    let bits = bits_of arch.lut_size (rows_at netlist table.line) table.inputs inputs in
    let is : values_in netlist circuit arch spot.laid spot.ble ≡ bits =
    ap (λ (o : Option LookupTable). option_map_or (λ (table : LookupTable). bits_of arch.lut_size (rows_at netlist table.line) table.inputs inputs) o (wire_bits arch.lut_size)) (table_is circuit lawful arch spot.laid spot.ble table c holds) in
    let few = All-contains (λ (laid : LaidBlock). length laid.bles ≤ ble_places arch laid.block) layout.blocks spot.laid h.few_bles spot.there in
    let some = (from_get spot.laid.bles spot.index spot.ble spot.is).0 in
    let cluster = a_cluster arch spot.laid.block (omega (arith, few, some)) in
    let reads = reads_table circuit (traced_ble arch spot.laid spot.ble) table holds in
    let all : list_all (has inputs) table.inputs ≡ true = grind (arith, reads) in
    record {
      bits = bits;
      configured = subst (λ bits. Contains (configuration_of netlist circuit arch strip layout) (Values place bits)) is
          (has_ble_line netlist circuit arch strip layout spot.laid cluster.0 cluster.1 spot.there spot.index spot.ble spot.is (Values place (values_in netlist circuit arch spot.laid spot.ble)) (has_values netlist circuit arch strip layout spot.laid place spot.ble));
      given = λ number values small are. bits_same arch.lut_size (rows_at netlist table.line) table.inputs inputs number values small
          (all_members (λ net. list_any (λ other. other == net) inputs ≡ true) table.inputs (λ net d. from_all (has inputs) table.inputs net all d)) are;
    }
