-- The circuit of lines without a fault is lawful.
use Rattle.blif.proofs.Prelude.{◌≡◌, ℕ, ◌+◌, ◌<◌, ◌≤◌, Bool, true, not, All, List, [], ◌++◌, length, map, get_or, arith, AllPass, flat_map, list_all, All-nil, All-append, All-filter, list_all-from_AllPass, JoinedLine, Circuit, LookupTable, clocks_of, drives_of, undeclared_names, has_name, number_of, with_names, reads_in, RisesFrom, Sights, kind_of, names_of, inputs_of, outputs_of, sights_of, MAX_NETS, circuit_from, latches_in, tables_in, final_faults, line_faults, IsCircuit, IsLatchDriven, IsLatchWithin, IsNarrow, IsTableWithin, drivers_of, has_net}
use Rattle.blif.specs.declared.latches.Latch.{Latch as StoredLatch}
use Rattle.blif.proofs.Named.{all_named}
use Rattle.blif.proofs.Different.{names_differ}
use Rattle.blif.proofs.Counts.{count_of, different, numbers_counted}
use Rattle.blif.proofs.Faultless.{end_faultless, kept_by_sights, reads_driven}
use Rattle.blif.proofs.Drivers.{DrivenOnce, ShownOnce, drivers_counted, driven_once_after, shown_once_after, drives_named, is_among, is_once, latches_driven, numbers_driven, outputs_driven, tables_driven}
use Rattle.blif.proofs.LawfulNets.{clocks_named, each_line, inputs_named, latches_within, names_pass, numbers_within, outputs_named, tables_within}
use Rattle.blif.proofs.LineParts.{all_narrow, apart, latches_at, one_part, rising, tables_at}

-- the circuit of lines that name at most MAX_NETS nets is lawful
pub is_circuit : (lut_size : ℕ) (declared : List (List ℕ)) (lines : List JoinedLine) → RisesFrom 1 lines → length (sights_of declared lines).nets ≤ MAX_NETS → line_faults lut_size declared [] lines ≡ [] → final_faults declared lines ≡ [] → IsCircuit (circuit_from declared lines)
unfolding circuit_from sights_of
is_circuit lut_size declared lines rises few line_faultless faultless =
    let sights : Sights = sights_of declared lines in
    let nets : List (List ℕ) = with_names [] (flat_map names_of lines) in
    let test : List ℕ → Bool = has_name nets in
    let count : ℕ = length nets in
    let named : list_all test (flat_map names_of lines) ≡ true = all_named [] (flat_map names_of lines) in
    let inputs : AllPass test (flat_map inputs_of lines) = each_line test (λ name. test name ≡ true) names_of inputs_of (λ line. inputs_named nets (kind_of line) line.words) lines named in
    let outputs : AllPass test (flat_map outputs_of lines) = each_line test (λ name. test name ≡ true) names_of outputs_of (λ line. outputs_named nets (kind_of line) line.words) lines named in
    let clocks : AllPass test (flat_map clocks_of lines) = each_line test (λ name. test name ≡ true) names_of clocks_of (λ line. clocks_named nets (kind_of line) line.words) lines named in
    let inner : AllPass test (undeclared_names declared (flat_map clocks_of lines)) = All-filter (λ name. not (has_name declared name)) (λ name. test name ≡ true) (flat_map clocks_of lines) clocks in
    let clocks_are_nets : AllPass test sights.clocks = names_pass test [] (undeclared_names declared (flat_map clocks_of lines)) (All-nil _) inner in
    let circuit : Circuit = circuit_from declared lines in
    let all : List ℕ = drivers_of circuit in
    let drives : AllPass test sights.drivers = each_line test (λ name. test name ≡ true) names_of drives_of (λ line. drives_named nets (kind_of line) line.words) lines named in
    let counted : (n : ℕ) → count_of n all ≡ count_of n (map (number_of nets) sights.clocks) + count_of n (map (number_of nets) sights.drivers) = drivers_counted declared lines in
    let is_driven : List ℕ → Bool = has_name (sights.clocks ++ sights.drivers) in
    let among = is_among nets sights.clocks sights.drivers all counted in
    let reads_of : JoinedLine → List (List ℕ) = λ line. reads_in (kind_of line) line.words in
    let reads : list_all is_driven (flat_map reads_of lines) ≡ true = reads_driven (sights.clocks ++ sights.drivers) lines (end_faultless declared lines faultless) in
    let once : DrivenOnce sights = kept_by_sights lut_size declared DrivenOnce (driven_once_after lut_size) lines (λ name. omega arith) line_faultless in
    let shown : ShownOnce sights = kept_by_sights lut_size declared ShownOnce (shown_once_after lut_size) lines (λ name. omega arith) line_faultless in
    let tables : JoinedLine → List LookupTable = λ line. tables_in nets line.number (kind_of line) line.words in
    let latches : JoinedLine → List StoredLatch = λ line. latches_in nets line.number (kind_of line) line.words in
    let on_tables : (line : JoinedLine) → All (λ table. table.line ≡ line.number) (tables line) = λ line. tables_at nets line.number (kind_of line) line.words in
    let on_latches : (line : JoinedLine) → All (λ latch. latch.line ≡ line.number) (latches line) = λ line. latches_at nets line.number (kind_of line) line.words in
    let one : (line : JoinedLine) → length (tables line) + length (latches line) ≤ 1 = λ line. one_part nets line.number (kind_of line) line.words in
    let few_tables : (line : JoinedLine) → length (tables line) ≤ 1 = λ line. omega (arith, one line) in
    let few_latches : (line : JoinedLine) → length (latches line) ≤ 1 = λ line. omega (arith, one line) in
    record {
      few = few;
      named_once = names_differ [] (flat_map names_of lines) (λ i j d before within. absurd (omega arith));
      inputs =
          All-append (λ net. net < count) (map (number_of nets) (flat_map inputs_of lines)) _ (numbers_within nets _ inputs)
          (numbers_within nets _ clocks_are_nets);
      outputs = numbers_within nets _ outputs;
      tables = each_line test (IsTableWithin count) names_of tables (λ line. tables_within nets line.number (kind_of line) line.words) lines named;
      latches = each_line test (IsLatchWithin count) names_of latches (λ line. latches_within nets line.number (kind_of line) line.words) lines named;
      driven_once = different all (is_once nets sights.clocks sights.drivers all counted (list_all-from_AllPass test sights.clocks clocks_are_nets) (list_all-from_AllPass test sights.drivers drives) once);
      shown_once = different circuit.outputs (λ n. omega (arith, numbers_counted nets n sights.outputs (list_all-from_AllPass test sights.outputs outputs), shown (get_or nets n [])));
      driven_outputs = numbers_driven nets all is_driven among _ (each_line is_driven (λ name. is_driven name ≡ true) reads_of outputs_of (λ line. outputs_driven nets all is_driven among (kind_of line) line.words) lines reads);
      driven_tables = each_line is_driven (λ (table : LookupTable). AllPass (has_net all) table.inputs) reads_of tables (λ line. tables_driven nets all is_driven among line.number (kind_of line) line.words) lines reads;
      driven_latches = each_line is_driven (IsLatchDriven all) reads_of latches (λ line. latches_driven nets all is_driven among line.number (kind_of line) line.words) lines reads;
      tables_rise = rising tables (λ (table : LookupTable). table.line) on_tables few_tables 1 lines rises;
      latches_rise = rising latches (λ (latch : StoredLatch). latch.line) on_latches few_latches 1 lines rises;
      lines_apart = apart tables (λ (table : LookupTable). table.line) on_tables latches (λ (latch : StoredLatch). latch.line) on_latches one 1 lines rises;
    }

-- the circuit's tables have at most lut_size inputs
pub is_narrow : (lut_size : ℕ) (declared : List (List ℕ)) (lines : List JoinedLine) → line_faults lut_size declared [] lines ≡ [] → IsNarrow lut_size (circuit_from declared lines)
unfolding circuit_from
is_narrow lut_size declared lines faultless = all_narrow (sights_of declared lines).nets lut_size declared lines faultless
