-- The BLEs of a circuit: their nets are the circuit's, and each input occurs once.
use Rattle.ble_cluster.proofs.Prelude.{◌≡◌, ℕ, ◌<◌, Bool, true, false, not, ◌==◌, nat_le, List, [], ◌∷◌, ◌++◌, Option, Some, None, All, IfSome, filter, length, map, take, drop, refl, ap, ◌∙◌, arith, if◌then◌else◌, find, prefix_len, append-nil, nat_tests, All-nil, All-cons, All-tail, All-append, All-filter, All-map, All-take, All-drop, filter_agree, Arch, IsArch, input_count, Circuit, Latch, LookupTable, IsCircuit, IsLatchWithin, IsTableWithin, has, distinct_nets, with_nets, with_net, LogicElement, bles_of, element_of_latch, element_of_table, in_line_order, is_read_once, latch_after, stands_alone, is_above, fits_in_cluster, IsElement, IsOnce}
use Rattle.ble_cluster.proofs.Outside.{once-distinct, with_nets-new}

-- nets that occur once are unchanged
unseen : (nets : List ℕ) → filter (λ net. not (has [] net)) nets ≡ nets
unseen [] = refl
unseen (net ∷ nets) = ap (λ ns. net ∷ ns) (unseen nets)

pub distinct-once : (nets : List ℕ) → IsOnce nets → distinct_nets nets ≡ nets
distinct-once nets once = with_nets-new [] nets once ∙ unseen nets

-- a property of the old and the added nets holds for all of them
with_nets_within : (P : ℕ → Type 0) (nets others : List ℕ) → All P nets → All P others → All P (with_nets nets others)
with_nets_within P nets [] h k = h
with_nets_within P nets (net ∷ others) h k = with_nets_within P (with_net nets net) others (by (has nets net)) (All-tail P net others k)
  where
    by : (b : Bool) → All P (if b then nets else nets ++ net ∷ [])
    by true = h
    by false = All-append P nets (net ∷ []) h (All-cons P net [] (k 0 net (omega arith)) (All-nil P))

-- the element that is found has a property that all elements have
found_lawful : {X : Type 0} (P : X → Type 0) (test : X → Bool) (xs : List X) → All P xs → IfSome (find test xs) P
found_lawful P test [] all = tt
found_lawful P test (x ∷ xs) all = by (test x) (found_lawful P test xs (All-tail P x xs all))
  where
    by : (b : Bool) → IfSome (find test xs) P → IfSome (if b then Some x else find test xs) P
    by true rest = all 0 x (omega arith)
    by false rest = rest

module _ (circuit : Circuit) (lawful : IsCircuit circuit) where
  abbrev count : ℕ
  count = length circuit.nets

  latch_lawful : (latch : Latch) → IsLatchWithin count latch → IsElement count (element_of_latch latch)
  latch_lawful latch is = record { inputs = All-cons (λ net. net < count) latch.input [] is.input (All-nil _); output = is.output; once = refl }

  table_lawful : (table : LookupTable) (latch : Option Latch) → IsTableWithin count table → IfSome latch (IsLatchWithin count) → IsElement count (element_of_table table latch)
  table_lawful table None is h = record { inputs = with_nets_within (λ net. net < count) [] table.inputs (All-nil _) is.inputs; output = is.output; once = distinct-once (distinct_nets table.inputs) (once-distinct table.inputs) }
  table_lawful table (Some latch) is h = record { inputs = with_nets_within (λ net. net < count) [] table.inputs (All-nil _) is.inputs; output = h.output; once = distinct-once (distinct_nets table.inputs) (once-distinct table.inputs) }

  behind_lawful : (net : ℕ) → IfSome (latch_after circuit net) (IsLatchWithin count)
  behind_lawful net = by (is_read_once circuit net)
    where
      by : (b : Bool) → IfSome (if b then find (λ latch. latch.input == net) circuit.latches else None) (IsLatchWithin count)
      by true = found_lawful (IsLatchWithin count) (λ latch. latch.input == net) circuit.latches lawful.latches
      by false = tt

  lone_lawful : (latches : List Latch) → All (IsLatchWithin count) latches → All (IsElement count) (map element_of_latch latches)
  lone_lawful latches all = All-map (IsElement count) element_of_latch latches (λ k d h. latch_lawful _ (all k d h))

  order_lawful : (tables : List LookupTable) (latches : List Latch) → All (IsTableWithin count) tables → All (IsLatchWithin count) latches → All (IsElement count) (in_line_order circuit tables latches)
  order_lawful [] latches t l = lone_lawful latches l
  order_lawful (table ∷ tables) latches t l =
      let above = prefix_len (is_above table.line) latches in
      All-append (IsElement count) (map element_of_latch (take above latches)) _ (lone_lawful (take above latches) (All-take (IsLatchWithin count) above latches l))
      (All-cons (IsElement count) _ _ (table_lawful table (latch_after circuit table.output) (t 0 table (omega arith)) (behind_lawful table.output))
      (order_lawful tables (drop above latches) (All-tail (IsTableWithin count) table tables t) (All-drop (IsLatchWithin count) above latches l)))

-- each BLE's nets are the circuit's
pub elements_lawful : (circuit : Circuit) → IsCircuit circuit → All (IsElement (length circuit.nets)) (bles_of circuit)
unfolding bles_of
elements_lawful circuit lawful = order_lawful circuit lawful circuit.tables (filter (stands_alone circuit) circuit.latches) lawful.tables (All-filter (stands_alone circuit) (IsLatchWithin (length circuit.nets)) circuit.latches lawful.latches)

-- a BLE fits alone if its outside inputs are at most the number of pins
pub alone_fits : (arch : Arch) (count : ℕ) (element : LogicElement) → IsArch arch → IsElement count element → fits_in_cluster arch (element ∷ []) ≡ nat_le (length (filter (λ net. not (net == element.output)) element.inputs)) (input_count arch.pins)
alone_fits arch count element profile is = grind (arith, nat_tests, append-nil, filter_agree)
