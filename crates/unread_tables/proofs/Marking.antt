-- Marks of the nets that are read.
use Rattle.unread_tables.proofs.Prelude.{ℕ, ◌≡◌, ◌+◌, ◌<◌, ◌∙◌, Bool, true, false, List, [], ◌∷◌, ◌++◌, length, length-set, get_or, set, take, replicate, not, nat_eq, ◌||◌, cond, sym, refl, ap, arith, inl, inr, count_by, flat_map, option_to_list, Option, Some, None, All, slice_get, ForSome, eqb_tells, flat_map_more, get_or-replicate, get_or-set_other, get_or-set_same, length-replicate, take_more, All-append, All-cons, All-get_or, All-nil, All-tail, list_any-append, count_by_more_no, count_by_more_yes, sum_by-cons, get_or_from_slice_get, slice_get_within, IsCircuit, IsLatchWithin, IsTableWithin, has_net, LookupTable, Circuit, Latch, AreMarks, read_nets, reads_of}

-- before the first net none is marked
pub marks_none : (count : ℕ) (marks : List Bool) → marks ≡ replicate count false → AreMarks count [] marks
marks_none count marks is = record {
  long = ap length is ∙ length-replicate count false;
  each = λ net within. ap (λ (m : List Bool). get_or m net false) is ∙ get_or-replicate count net false false within;
}

-- one net more
has_more : (nets : List ℕ) (more net : ℕ) → has_net (nets ++ more ∷ []) net ≡ (has_net nets net || (nat_eq net more || false))
has_more nets more net = list_any-append (nat_eq net) nets (more ∷ [])

or_true : (b : Bool) → (b || (true || false)) ≡ true
or_true true = refl
or_true false = refl

or_false : (b : Bool) → (b || (false || false)) ≡ b
or_false true = refl
or_false false = refl

pub marks_more : (count : ℕ) (nets : List ℕ) (more : ℕ) (marks : List Bool) → more < count → AreMarks count nets marks → AreMarks count (nets ++ more ∷ []) (set marks more true)
marks_more count nets more marks small are = record {
  long = length-set marks more true ∙ are.long;
  each = λ net within. elim (eqb_tells net more) [
    | inl at ↦
        let there : more < length marks = (let e : length marks ≡ count = are.long in omega arith) in
        ap (λ n. get_or (set marks more true) n false) at.1 ∙ (get_or-set_same marks more true false there
        ∙ sym (has_more nets more net ∙ (ap (λ b. has_net nets net || (b || false)) at.0 ∙ or_true (has_net nets net))))
    | inr off ↦
        get_or-set_other marks more net true false off.1 ∙ (are.each net within
        ∙ sym (has_more nets more net ∙ (ap (λ b. has_net nets net || (b || false)) off.0 ∙ or_false (has_net nets net))))
  ];
}

-- the counts of two tests that agree
counted : (p : LookupTable → Bool) (table : LookupTable) (tables : List LookupTable) → count_by p (table ∷ tables) ≡ cond {A = ℕ} (p table) 1 0 + count_by p tables
counted p table tables = sum_by-cons (λ (t : LookupTable). cond {A = ℕ} (p t) 1 0) table tables

same_count : (count : ℕ) (nets : List ℕ) (marks : List Bool) → AreMarks count nets marks → (tables : List LookupTable) → All (IsTableWithin count) tables
    → count_by (λ (table : LookupTable). not (get_or marks table.output false)) tables ≡ count_by (λ (table : LookupTable). not (has_net nets table.output)) tables
same_count count nets marks are [] all = refl
same_count count nets marks are (table ∷ tables) all =
    let here : IsTableWithin count table = All-get_or (IsTableWithin count) (table ∷ tables) 0 table (omega arith) all in
    let rest = same_count count nets marks are tables (All-tail (IsTableWithin count) table tables all) in
    let same : get_or marks table.output false ≡ has_net nets table.output = are.each table.output here.output in
    counted (λ (t : LookupTable). not (get_or marks t.output false)) table tables
    ∙ (ap (λ b. cond {A = ℕ} (not b) 1 0 + count_by (λ (t : LookupTable). not (get_or marks t.output false)) tables) same
    ∙ (ap (λ n. cond {A = ℕ} (not (has_net nets table.output)) 1 0 + n) rest
    ∙ sym (counted (λ (t : LookupTable). not (has_net nets t.output)) table tables)))

pub unread_is : (circuit : Circuit) (marks : List Bool) → IsCircuit circuit → AreMarks (length circuit.nets) (read_nets circuit) marks
    → count_by (λ (table : LookupTable). not (get_or marks table.output false)) circuit.tables ≡ count_by (λ (table : LookupTable). not (has_net (read_nets circuit) table.output)) circuit.tables
unread_is circuit marks lawful are = same_count (length circuit.nets) (read_nets circuit) marks are circuit.tables lawful.tables

-- what is read is a net
tables_within : (count : ℕ) (tables : List LookupTable) → All (IsTableWithin count) tables → All (λ net. net < count) (flat_map (λ (table : LookupTable). table.inputs) tables)
tables_within count [] all = All-nil (λ net. net < count)
tables_within count (table ∷ tables) all =
    let here : IsTableWithin count table = All-get_or (IsTableWithin count) (table ∷ tables) 0 table (omega arith) all in
    All-append (λ net. net < count) table.inputs (flat_map (λ (table : LookupTable). table.inputs) tables) here.inputs (tables_within count tables (All-tail (IsTableWithin count) table tables all))

latch_within : (count : ℕ) (latch : Latch) → IsLatchWithin count latch → All (λ net. net < count) (reads_of latch)
latch_within count latch within = All-cons (λ net. net < count) latch.input (option_to_list latch.control) within.input (control_within latch.control within.control)
  where
    control_within : (control : Option ℕ) → ForSome control (λ net. net < count) → All (λ net. net < count) (option_to_list control)
    control_within None within = All-nil (λ net. net < count)
    control_within (Some net) within = All-cons (λ net. net < count) net [] (within net refl) (All-nil (λ net. net < count))

latches_within : (count : ℕ) (latches : List Latch) → All (IsLatchWithin count) latches → All (λ net. net < count) (flat_map reads_of latches)
latches_within count [] all = All-nil (λ net. net < count)
latches_within count (latch ∷ latches) all =
    All-append (λ net. net < count) (reads_of latch) (flat_map reads_of latches)
    (latch_within count latch (All-get_or (IsLatchWithin count) (latch ∷ latches) 0 latch (omega arith) all)) (latches_within count latches (All-tail (IsLatchWithin count) latch latches all))

pub reads_within : (circuit : Circuit) → IsCircuit circuit → All (λ net. net < length circuit.nets) (read_nets circuit)
reads_within circuit lawful =
    All-append (λ net. net < length circuit.nets) (circuit.outputs ++ flat_map (λ (table : LookupTable). table.inputs) circuit.tables) (flat_map reads_of circuit.latches)
    (All-append (λ net. net < length circuit.nets) circuit.outputs (flat_map (λ (table : LookupTable). table.inputs) circuit.tables) lawful.outputs (tables_within (length circuit.nets) circuit.tables lawful.tables))
    (latches_within (length circuit.nets) circuit.latches lawful.latches)

-- ---- loops over the tables

pub count_yes : (p : LookupTable → Bool) (tables : List LookupTable) (place : ℕ) (table : LookupTable) (count : ℕ) → slice_get tables place ≡ Some table → p table ≡ true
    → count ≡ count_by p (take place tables) → count + 1 ≡ count_by p (take (place + 1) tables)
count_yes p tables place table count here is was =
    ap (λ n. n + 1) was
    ∙ sym (count_by_more_yes p tables place table (slice_get_within tables place table here) (ap p (get_or_from_slice_get tables place table table here) ∙ is))

pub count_no : (p : LookupTable → Bool) (tables : List LookupTable) (place : ℕ) (table : LookupTable) (count : ℕ) → slice_get tables place ≡ Some table → p table ≡ false
    → count ≡ count_by p (take place tables) → count ≡ count_by p (take (place + 1) tables)
count_no p tables place table count here is was =
    was ∙ sym (count_by_more_no p tables place table (slice_get_within tables place table here) (ap p (get_or_from_slice_get tables place table table here) ∙ is))

pub add_more : (old nets new : List ℕ) (tables : List LookupTable) (place : ℕ) (table : LookupTable) → slice_get tables place ≡ Some table
    → nets ≡ old ++ flat_map (λ (t : LookupTable). t.inputs) (take place tables) → new ≡ nets ++ table.inputs → new ≡ old ++ flat_map (λ (t : LookupTable). t.inputs) (take (place + 1) tables)
add_more old nets new tables place table here was more =
    more
    ∙ (ap (λ ns. ns ++ table.inputs) was
    ∙ (flat_map_more (λ (t : LookupTable). t.inputs) old (take place tables) table
    ∙ ap (λ ts. old ++ flat_map (λ (t : LookupTable). t.inputs) ts)
    (sym (take_more tables place table (slice_get_within tables place table here) ∙ ap (λ t. take place tables ++ t ∷ []) (get_or_from_slice_get tables place table table here)))))
