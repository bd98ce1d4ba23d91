-- The numbers of a circuit's drivers are those of its clocks and of the nets that its lines drive.
use Rattle.blif.proofs.Prelude.{◌≡◌, ℕ, ◌+◌, ◌≤◌, Bool, true, false, List, [], ◌∷◌, ◌++◌, Option, None, Some, All, map, get_or, nat_eq, if◌then◌else◌, refl, append_assoc, arith, AllPass, flat_map, list_all, ForSome, option_map, option_to_list, bytes_eq, append-nil, All-nil, All-cons, All-map, AllPass-from_list_all, JoinedLine, drives_of, sights_after, Keyword, Inputs, Outputs, Clock, Names, Latch, LookupTable, has_name, number_of, args_of, last_of, is_latch, control_of, drives_in, front_of, inputs_in, names_in, output_of, outputs_in, reads_in, latch_nets, latch_output, Sights, kind_of, inputs_of, sights_of, kind_faults, circuit_from, latch_with, latches_in, table_with, tables_in, IsLatchDriven, drivers_of, has_net}
use Rattle.blif.specs.declared.latches.Latch.{Latch as StoredLatch}
use Rattle.blif.proofs.Named.{and_left, and_right}
use Rattle.blif.proofs.Counts.{count_by-append, count_of, counted_if_there, counted_more, names_counted, none_of_filtered, numbers_counted, once_in_set, once_more, there_if_counted, times}
use Rattle.blif.proofs.Faultless.{latch_output_free, nil_from_map, table_output_free}
use Rattle.blif.proofs.PlacedNames.{no_repeats, none_placed}
use Rattle.blif.proofs.LawfulNets.{last_passes}

-- no net is driven twice
abbrev pub DrivenOnce : Sights → Type 0
DrivenOnce sights = (name : List ℕ) → times name (sights.clocks ++ sights.drivers) ≤ 1

-- a line without a fault drives no net again
pub driven_once_after : (lut_size : ℕ) (above : Sights) (keyword : Keyword) (words : List (List ℕ)) → kind_faults lut_size above keyword words ≡ [] → DrivenOnce above → DrivenOnce (sights_after keyword words above)
driven_once_after lut_size above Inputs words h once = λ name. rw (← append_assoc) (once_more name (above.clocks ++ above.drivers) (args_of words) (no_repeats (above.clocks ++ above.drivers) (args_of words) (nil_from_map _ _ h)) (once name))
driven_once_after lut_size above Names words h once = λ name. rw (← append_assoc) (once_more name (above.clocks ++ above.drivers) (output_of (args_of words)) (table_output_free lut_size _ (args_of words) h) (once name))
driven_once_after lut_size above Latch words h once = λ name. rw (← append_assoc) (once_more name (above.clocks ++ above.drivers) (latch_output (args_of words)) (latch_output_free _ (args_of words) h) (once name))
driven_once_after lut_size above Clock words h once = λ name. rw append-nil (once_in_set name above.clocks above.drivers _ (none_of_filtered _ _ (args_of words) (none_placed _ (args_of words) (nil_from_map _ _ h))) (once name))
driven_once_after lut_size above keyword words h once = λ name. rw append-nil (once name)

-- no net is an output twice
abbrev pub ShownOnce : Sights → Type 0
ShownOnce sights = (name : List ℕ) → times name sights.outputs ≤ 1

pub shown_once_after : (lut_size : ℕ) (above : Sights) (keyword : Keyword) (words : List (List ℕ)) → kind_faults lut_size above keyword words ≡ [] → ShownOnce above → ShownOnce (sights_after keyword words above)
shown_once_after lut_size above Outputs words h once = λ name. once_more name above.outputs (args_of words) (no_repeats above.outputs (args_of words) (nil_from_map _ _ h)) (once name)
shown_once_after lut_size above keyword words h once = λ name. rw append-nil (once name)

module _ (nets : List (List ℕ)) where
  abbrev numbers : List (List ℕ) → List ℕ
  numbers names = map (number_of nets) names

  -- the nets that a line drives are among the nets
  output_named : (names : List (List ℕ)) → list_all (has_name nets) names ≡ true → AllPass (has_name nets) (output_of names)
  output_named [] h = All-nil _
  output_named (name ∷ names) h = All-cons (λ n. has_name nets n ≡ true) (last_of (name ∷ names)) [] (last_passes (has_name nets) name names h) (All-nil _)

  latch_output_named : (args : List (List ℕ)) → list_all (has_name nets) (latch_nets 2 args) ≡ true → AllPass (has_name nets) (latch_output args)
  latch_output_named [] h = All-nil _
  latch_output_named (input ∷ []) h = All-nil _
  latch_output_named (input ∷ output ∷ rest) h = by (is_latch (input ∷ output ∷ rest)) h
    where
      by : (b : Bool) → list_all (has_name nets) (if b then input ∷ output ∷ option_to_list (control_of (input ∷ output ∷ rest)) else []) ≡ true → AllPass (has_name nets) (if b then output ∷ [] else [])
      by true named = All-cons (λ n. has_name nets n ≡ true) output [] (and_left _ _ (and_right _ _ named)) (All-nil _)
      by false named = All-nil _

  pub drives_named : (keyword : Keyword) (words : List (List ℕ)) → list_all (has_name nets) (names_in keyword words) ≡ true → AllPass (has_name nets) (drives_in keyword words)
  drives_named Inputs words h = AllPass-from_list_all (has_name nets) (args_of words) h
  drives_named Names words h = output_named (args_of words) h
  drives_named Latch words h = latch_output_named (args_of words) h
  drives_named keyword words h = All-nil _

  -- the number of occurrences among the outputs of tables, and among those of latches
  abbrev table_count : ℕ → List LookupTable → ℕ
  table_count n tables = count_of n (map (λ (table : LookupTable). table.output) tables)

  abbrev latch_count : ℕ → List StoredLatch → ℕ
  latch_count n latches = count_of n (map (λ (latch : StoredLatch). latch.output) latches)

  table_drives : (n line : ℕ) (names : List (List ℕ)) → table_count n (table_with nets line names) ≡ count_of n (numbers (output_of names))
  table_drives n line [] = refl
  table_drives n line (name ∷ names) = refl

  latch_drives : (n line : ℕ) (args : List (List ℕ)) → latch_count n (latch_with nets line args) ≡ count_of n (numbers (latch_output args))
  latch_drives n line [] = refl
  latch_drives n line (input ∷ []) = refl
  latch_drives n line (input ∷ output ∷ rest) = by (is_latch (input ∷ output ∷ rest))
    where
      by : (b : Bool) → latch_count n (if b then record { line = line; input = number_of nets input; output = number_of nets output; control = option_map (number_of nets) (control_of (input ∷ output ∷ rest)) } ∷ [] else []) ≡ count_of n (numbers (if b then output ∷ [] else []))
      by true = refl
      by false = refl

  -- a line drives its inputs, or the output of its table or its latch
  line_drives : (n line : ℕ) (keyword : Keyword) (words : List (List ℕ)) → count_of n (numbers (inputs_in keyword words)) + (table_count n (tables_in nets line keyword words) + latch_count n (latches_in nets line keyword words)) ≡ count_of n (numbers (drives_in keyword words))
  line_drives n line Inputs words = omega arith
  line_drives n line Names words = omega (arith, table_drives n line (args_of words))
  line_drives n line Latch words = omega (arith, latch_drives n line (args_of words))
  line_drives n line keyword words = refl

  lines_drive : (n : ℕ) (lines : List JoinedLine) → count_of n (numbers (flat_map inputs_of lines)) + (table_count n (flat_map (λ line. tables_in nets line.number (kind_of line) line.words) lines) + latch_count n (flat_map (λ line. latches_in nets line.number (kind_of line) line.words) lines)) ≡ count_of n (numbers (flat_map drives_of lines))
  lines_drive n [] = refl
  lines_drive n (line ∷ lines) =
      let tables : JoinedLine → List LookupTable = λ l. tables_in nets l.number (kind_of l) l.words in
      let latches : JoinedLine → List StoredLatch = λ l. latches_in nets l.number (kind_of l) l.words in
      omega
      (arith, counted_more (λ m. nat_eq n m) (number_of nets) inputs_of line lines, counted_more (λ m. nat_eq n m) (λ table. table.output) tables line lines, counted_more (λ m. nat_eq n m) (λ latch. latch.output) latches line lines, counted_more (λ m. nat_eq n m) (number_of nets) drives_of line lines, line_drives n line.number (kind_of line) line.words, lines_drive n lines)

-- the drivers of a circuit are its clocks and the nets that its lines drive
pub drivers_counted : (declared : List (List ℕ)) (lines : List JoinedLine) (n : ℕ) → count_of n (drivers_of (circuit_from declared lines)) ≡ count_of n (map (number_of (sights_of declared lines).nets) (sights_of declared lines).clocks) + count_of n (map (number_of (sights_of declared lines).nets) (sights_of declared lines).drivers)
unfolding circuit_from sights_of
drivers_counted declared lines n =
    let nets : List (List ℕ) = (sights_of declared lines).nets in
    let inputs : List ℕ = map (number_of nets) (flat_map inputs_of lines) in
    let clocks : List ℕ = map (number_of nets) (sights_of declared lines).clocks in
    let tables : List ℕ = map (λ (table : LookupTable). table.output) (circuit_from declared lines).tables in
    let latches : List ℕ = map (λ (latch : StoredLatch). latch.output) (circuit_from declared lines).latches in
    omega
    (arith, count_by-append (nat_eq n) (inputs ++ clocks) (tables ++ latches), count_by-append (nat_eq n) inputs clocks, count_by-append (nat_eq n) tables latches, lines_drive nets n lines)

module _ (nets clocks drivers : List (List ℕ)) (all : List ℕ)
    (counted : (n : ℕ) → count_of n all ≡ count_of n (map (number_of nets) clocks) + count_of n (map (number_of nets) drivers)) where
  -- a net that is driven is among the drivers
  pub is_among : (name : List ℕ) → has_name (clocks ++ drivers) name ≡ true → has_net all (number_of nets name) ≡ true
  is_among name h =
      there_if_counted (nat_eq (number_of nets name)) all
      (omega (arith, counted (number_of nets name), counted_if_there (bytes_eq name) (clocks ++ drivers) h, count_by-append (bytes_eq name) clocks drivers, names_counted nets name clocks, names_counted nets name drivers))

  -- a net that is driven occurs once among the drivers
  pub is_once : list_all (has_name nets) clocks ≡ true → list_all (has_name nets) drivers ≡ true → ((name : List ℕ) → times name (clocks ++ drivers) ≤ 1) → (n : ℕ) → count_of n all ≤ 1
  is_once clocks_named drivers_named once n =
      let name : List ℕ = get_or nets n [] in
      omega (arith, counted n, numbers_counted nets n clocks clocks_named, numbers_counted nets n drivers drivers_named, once name, count_by-append (bytes_eq name) clocks drivers)

module _ (nets : List (List ℕ)) (drivers : List ℕ) (test : List ℕ → Bool) (among : (name : List ℕ) → test name ≡ true → has_net drivers (number_of nets name) ≡ true) where
  -- names that are driven have numbers of drivers
  pub numbers_driven : (names : List (List ℕ)) → AllPass test names → AllPass (has_net drivers) (map (number_of nets) names)
  numbers_driven names h = All-map (λ net. has_net drivers net ≡ true) (number_of nets) names (λ k d within. among _ (h k d within))

  pub outputs_driven : (keyword : Keyword) (words : List (List ℕ)) → list_all test (reads_in keyword words) ≡ true → AllPass test (outputs_in keyword words)
  outputs_driven Outputs words h = AllPass-from_list_all test (args_of words) h
  outputs_driven keyword words h = All-nil _

  table_driven : (line : ℕ) (names : List (List ℕ)) → list_all test (front_of names) ≡ true → All (λ table. AllPass (has_net drivers) table.inputs) (table_with nets line names)
  table_driven line [] h = All-nil _
  table_driven line (name ∷ names) h =
      All-cons (λ (table : LookupTable). AllPass (has_net drivers) table.inputs) _ []
      (numbers_driven (front_of (name ∷ names)) (AllPass-from_list_all test (front_of (name ∷ names)) h))
      (All-nil _)

  pub tables_driven : (line : ℕ) (keyword : Keyword) (words : List (List ℕ)) → list_all test (reads_in keyword words) ≡ true → All (λ table. AllPass (has_net drivers) table.inputs) (tables_in nets line keyword words)
  tables_driven line Names words h = table_driven line (args_of words) h
  tables_driven line keyword words h = All-nil _

  control_driven : (control : Option (List ℕ)) → list_all test (option_to_list control) ≡ true → ForSome (option_map (number_of nets) control) (λ net. has_net drivers net ≡ true)
  control_driven None h = λ net is. absurd cc
  control_driven (Some name) h = λ net is. let same : net ≡ number_of nets name = cc in rw same (among name (and_left _ _ h))

  latch_driven : (line : ℕ) (args : List (List ℕ)) → list_all test (latch_nets 1 args) ≡ true → All (IsLatchDriven drivers) (latch_with nets line args)
  latch_driven line [] h = All-nil _
  latch_driven line (input ∷ []) h = All-nil _
  latch_driven line (input ∷ output ∷ rest) h = by (is_latch (input ∷ output ∷ rest)) (control_of (input ∷ output ∷ rest)) h
    where
      by : (b : Bool) (control : Option (List ℕ)) → list_all test (if b then input ∷ option_to_list control else []) ≡ true → All (IsLatchDriven drivers) (if b then record { line = line; input = number_of nets input; output = number_of nets output; control = option_map (number_of nets) control } ∷ [] else [])
      by false control driven = All-nil _
      by true control driven =
          All-cons (IsLatchDriven drivers) _ []
          (record { input = among input (and_left _ _ driven); control = control_driven control (and_right _ _ driven) })
          (All-nil _)

  pub latches_driven : (line : ℕ) (keyword : Keyword) (words : List (List ℕ)) → list_all test (reads_in keyword words) ≡ true → All (IsLatchDriven drivers) (latches_in nets line keyword words)
  latches_driven line Latch words h = latch_driven line (args_of words) h
  latches_driven line keyword words h = All-nil _
