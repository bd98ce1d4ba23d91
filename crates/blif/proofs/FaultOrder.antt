-- The faults of a text are listed in order, so the first of them is the least.
use Rattle.blif.proofs.Prelude.{◌≡◌, ◌∙◌, ℕ, ◌+◌, ◌<◌, ◌≤◌, Bool, true, false, not, ◌||◌, if◌then◌else◌, nat_lt, nat_le, length, List, [], ◌∷◌, ◌++◌, Option, Some, None, refl, sym, ap, arith, nat_tests, flat_map, Found, by_number, least_fault, RisesFrom, JoinedLine, Each, Each-append, Each-weaker, InOrder, InOrder-append, InOrder-map, Precedes, by_number-less, by_number-same, least_in_order, precedes-end, precedes-line, turn_of, MAX_NETS, Cover, BlifFault, BlifFaultKind, Unknown, BadCover, MixedCover, TwoDrivers, Undriven, RepeatedOutput, BadLatch, NoModel, OverLimit, Keyword, Model, Inputs, Outputs, Clock, Names, Latch, Other, Row, WordFault, at_words, driven_nets, driver_faults, fault_where, faults_in, is_model, kind_faults, of_line, row_faults, table_faults, all_faults, at_line, declared_in, final_faults, line_faults, undriven_faults, is_row, is_mixed, first_fault, args_of, is_latch, latch_output, names_in, reads_in, has_name, names_with_index, repeats_from, with_names, Sights, kind_of, sights_of}
use Rattle.std.proofs.Common.{option_map}
use Rattle.line_text.proofs.InOrder.{first_of}
use Rattle.blif.specs.Faults.{number_of}
use Rattle.blif.proofs.PlacedNames.{Rise, all_placed_rise, repeats_rise}

-- a fault comes before another one of its line
abbrev Tells : WordFault → WordFault → Type 0
Tells first second = by_number (number_of first.kind) (number_of second.kind) (nat_le first.word second.word) ≡ true

-- the fault's number is below a bound, or at least the bound
abbrev Below : ℕ → WordFault → Type 0
Below bound fault = number_of fault.kind < bound

abbrev From : ℕ → WordFault → Type 0
From bound fault = bound ≤ number_of fault.kind

-- faults with numbers below a bound, followed by faults with numbers from it on
joined_order : (bound : ℕ) (xs ys : List WordFault) → InOrder Tells xs → InOrder Tells ys → Each (Below bound) xs → Each (From bound) ys → InOrder Tells (xs ++ ys)
joined_order bound xs ys first second below from =
    InOrder-append Tells xs ys first second
    (Each-weaker (Below bound) (λ x. Each (Tells x) ys) xs
    (λ x low. Each-weaker (From bound) (Tells x) ys (λ y high. by_number-less (number_of x.kind) (number_of y.kind) _ (omega (arith, low, high))) from) below)

where_order : (b : Bool) (kind : BlifFaultKind) → InOrder Tells (fault_where b kind)
where_order b kind = grind arith

each_where : (P : WordFault → Type 0) (b : Bool) (kind : BlifFaultKind) → P (record { word = 0; kind = kind }) → Each P (fault_where b kind)
each_where P b kind h = grind arith

each_word : (P : WordFault → Type 0) (kind : List ℕ → BlifFaultKind) (names : List (ℕ × List ℕ)) → ((word : ℕ) (name : List ℕ) → P (record { word = word; kind = kind name })) → Each P (at_words kind names)
each_word P kind [] h = tt
each_word P kind (name ∷ names) h = (h name.0 name.1, each_word P kind names h)

-- faults with one number, at increasing words
words_order : (kind : List ℕ → BlifFaultKind) (number : ℕ) (names : List (ℕ × List ℕ)) → ((name : List ℕ) → number_of (kind name) ≡ number) → InOrder Rise names → InOrder Tells (at_words kind names)
words_order kind number names is rise =
    InOrder-map Rise Tells _ names
    (λ x y le.
    let test : nat_le x.0 y.0 ≡ true = grind (arith, nat_tests) in
    ap (λ n. by_number n (number_of (kind y.1)) (nat_le x.0 y.0)) (is x.1 ∙ sym (is y.1)) ∙ by_number-same (number_of (kind y.1)) (nat_le x.0 y.0) ∙ test)
    rise

drivers_order : (taken names : List (List ℕ)) → InOrder Tells (driver_faults taken names)
drivers_order taken names = words_order TwoDrivers 5 (repeats_from 0 taken names) (λ name. refl) (repeats_rise 0 taken names)

each_driver : (P : WordFault → Type 0) (taken names : List (List ℕ)) → ((word : ℕ) (name : List ℕ) → P (record { word = word; kind = TwoDrivers name })) → Each P (driver_faults taken names)
each_driver P taken names h = each_word P TwoDrivers (repeats_from 0 taken names) h

table_order : (lut_size : ℕ) (taken names : List (List ℕ)) → InOrder Tells (table_faults lut_size taken names)
table_order lut_size taken names = grind arith

row_order : (cover : Option Cover) (words : List (List ℕ)) → InOrder Tells (row_faults cover words)
row_order None words = (tt, tt)
row_order (Some cover) words =
    joined_order 3 (fault_where (not (is_row cover.inputs words)) BadCover) (fault_where (is_mixed cover.output words) MixedCover)
    (where_order (not (is_row cover.inputs words)) BadCover) (where_order (is_mixed cover.output words) MixedCover)
    (each_where (Below 3) (not (is_row cover.inputs words)) BadCover (omega arith)) (each_where (From 3) (is_mixed cover.output words) MixedCover (omega arith))

latch_order : (taken args : List (List ℕ)) → InOrder Tells (if is_latch args then driver_faults taken (latch_output args) else of_line BadLatch)
latch_order taken args = grind arith

kind_order : (lut_size : ℕ) (above : Sights) (keyword : Keyword) (words : List (List ℕ)) → InOrder Tells (kind_faults lut_size above keyword words)
kind_order lut_size above Model words = where_order above.begun Unknown
kind_order lut_size above Inputs words = drivers_order (driven_nets above) (args_of words)
kind_order lut_size above Outputs words = words_order RepeatedOutput 7 (repeats_from 0 above.outputs (args_of words)) (λ name. refl) (repeats_rise 0 above.outputs (args_of words))
kind_order lut_size above Clock words = words_order TwoDrivers 5 _ (λ name. refl) (all_placed_rise _ (args_of words))
kind_order lut_size above Names words = table_order lut_size (driven_nets above) (args_of words)
kind_order lut_size above Latch words = latch_order (driven_nets above) (args_of words)
kind_order lut_size above Other words = (tt, tt)
kind_order lut_size above Row words = row_order above.cover words
kind_order lut_size above keyword words = tt

-- without NoModel and OverLimit a line's faults have lesser numbers
table_below : (lut_size : ℕ) (taken names : List (List ℕ)) → Each (Below 9) (table_faults lut_size taken names)
table_below lut_size taken names = grind arith

row_below : (cover : Option Cover) (words : List (List ℕ)) → Each (Below 9) (row_faults cover words)
row_below None words = (omega arith, tt)
row_below (Some cover) words =
    Each-append (Below 9) (fault_where (not (is_row cover.inputs words)) BadCover) (fault_where (is_mixed cover.output words) MixedCover)
    (each_where (Below 9) (not (is_row cover.inputs words)) BadCover (omega arith)) (each_where (Below 9) (is_mixed cover.output words) MixedCover (omega arith))

latch_below : (taken args : List (List ℕ)) → Each (Below 9) (if is_latch args then driver_faults taken (latch_output args) else of_line BadLatch)
latch_below taken args = grind arith

kind_below : (lut_size : ℕ) (above : Sights) (keyword : Keyword) (words : List (List ℕ)) → Each (Below 9) (kind_faults lut_size above keyword words)
kind_below lut_size above Model words = each_where (Below 9) above.begun Unknown (omega arith)
kind_below lut_size above Inputs words = each_driver (Below 9) (driven_nets above) (args_of words) (λ word net. omega arith)
kind_below lut_size above Outputs words = each_word (Below 9) RepeatedOutput (repeats_from 0 above.outputs (args_of words)) (λ word net. omega arith)
kind_below lut_size above Clock words = each_word (Below 9) TwoDrivers _ (λ word net. omega arith)
kind_below lut_size above Names words = table_below lut_size (driven_nets above) (args_of words)
kind_below lut_size above Latch words = latch_below (driven_nets above) (args_of words)
kind_below lut_size above Other words = (omega arith, tt)
kind_below lut_size above Row words = row_below above.cover words
kind_below lut_size above keyword words = tt

-- the faults of a line are in order
faults_order : (lut_size : ℕ) (above : Sights) (keyword : Keyword) (words : List (List ℕ)) → InOrder Tells (faults_in lut_size above keyword words)
faults_order lut_size above keyword words = by above.ended
  where
    model : Bool
    model = not (above.begun || is_model keyword)

    many : Bool
    many = nat_lt MAX_NETS (length (with_names above.nets (names_in keyword words)))

    rest : InOrder Tells (fault_where model NoModel ++ fault_where many OverLimit)
    rest =
        joined_order 10 (fault_where model NoModel) (fault_where many OverLimit) (where_order model NoModel) (where_order many OverLimit)
        (each_where (Below 10) model NoModel (omega arith)) (each_where (From 10) many OverLimit (omega arith))

    by : (b : Bool) → InOrder Tells (if b then of_line Unknown else kind_faults lut_size above keyword words ++ (fault_where model NoModel ++ fault_where many OverLimit))
    by true = (tt, tt)
    by false =
        joined_order 9 (kind_faults lut_size above keyword words) (fault_where model NoModel ++ fault_where many OverLimit) (kind_order lut_size above keyword words) rest
        (kind_below lut_size above keyword words)
        (Each-append (From 9) (fault_where model NoModel) (fault_where many OverLimit) (each_where (From 9) model NoModel (omega arith)) (each_where (From 9) many OverLimit (omega arith)))

line_order : (at_end : Bool) (number : ℕ) (faults : List WordFault) → InOrder Tells faults → InOrder Precedes (at_line at_end number faults)
line_order at_end number faults told =
    InOrder-map Tells Precedes _ faults (λ x y first. by_number-same (turn_of at_end) _ ∙ by_number-same number _ ∙ first) told

each_found : (P : Found BlifFault → Type 0) (at_end : Bool) (number : ℕ) (faults : List WordFault) → ((fault : WordFault) → P (record { at_end = at_end; line = number; number = number_of fault.kind; word = fault.word; fault = record { line = number; kind = fault.kind } })) → Each P (at_line at_end number faults)
each_found P at_end number [] h = tt
each_found P at_end number (fault ∷ faults) h = (h fault, each_found P at_end number faults h)

-- found at a line from this number on, at the line or at the end
abbrev Stands : Bool → ℕ → Found BlifFault → Type 0
Stands at_end low found = (found.at_end ≡ at_end) × (low ≤ found.line)

-- the faults of a line, followed by those from the next line on
line_and_rest : (at_end : Bool) (number : ℕ) (faults : List WordFault) (rest : List (Found BlifFault)) → InOrder Tells faults → InOrder Precedes rest → Each (Stands at_end (number + 1)) rest → InOrder Precedes (at_line at_end number faults ++ rest)
line_and_rest at_end number faults rest told order stand =
    InOrder-append Precedes (at_line at_end number faults) rest (line_order at_end number faults told) order
    (each_found (λ x. Each (Precedes x) rest) at_end number faults
    (λ fault.
    let here : Found BlifFault = record { at_end = at_end; line = number; number = number_of fault.kind; word = fault.word; fault = record { line = number; kind = fault.kind } } in
    Each-weaker (Stands at_end (number + 1)) (Precedes here) rest (λ y at. precedes-line here y (sym at.0) (omega (arith, at.1))) stand))

stand_with_line : (at_end : Bool) (low number : ℕ) (faults : List WordFault) (rest : List (Found BlifFault)) → low ≤ number → Each (Stands at_end (number + 1)) rest → Each (Stands at_end low) (at_line at_end number faults ++ rest)
stand_with_line at_end low number faults rest fits stand =
    Each-append (Stands at_end low) (at_line at_end number faults) rest
    (each_found (Stands at_end low) at_end number faults (λ fault. (refl, fits)))
    (Each-weaker (Stands at_end (number + 1)) (Stands at_end low) rest (λ y at. (at.0, omega (arith, at.1, fits))) stand)

lines_stand : (lut_size : ℕ) (declared : List (List ℕ)) (above lines : List JoinedLine) (low : ℕ) → RisesFrom low lines → Each (Stands false low) (line_faults lut_size declared above lines)
unfolding line_faults
lines_stand lut_size declared above [] low rises = tt
lines_stand lut_size declared above (line ∷ lines) low rises = grind (arith, stand_with_line, lines_stand lut_size declared (above ++ line ∷ []) lines (line.number + 1) rises.1)

lines_order : (lut_size : ℕ) (declared : List (List ℕ)) (above lines : List JoinedLine) (low : ℕ) → RisesFrom low lines → InOrder Precedes (line_faults lut_size declared above lines)
unfolding line_faults
lines_order lut_size declared above [] low rises = tt
lines_order lut_size declared above (line ∷ lines) low rises = grind (arith, line_and_rest, faults_order, lines_stand, lines_order lut_size declared (above ++ line ∷ []) lines (line.number + 1) rises.1)

-- the nets that a line reads and that are not driven
abbrev undriven_at : List (List ℕ) → JoinedLine → List WordFault
undriven_at drivers line = at_words Undriven (names_with_index (λ name. not (has_name drivers name)) (reads_in (kind_of line) line.words))

ends_stand : (drivers : List (List ℕ)) (lines : List JoinedLine) (low : ℕ) → RisesFrom low lines → Each (Stands true low) (flat_map (undriven_faults drivers) lines)
unfolding undriven_faults
ends_stand drivers [] low rises = tt
ends_stand drivers (line ∷ lines) low rises =
    stand_with_line true low line.number (undriven_at drivers line) (flat_map (undriven_faults drivers) lines) rises.0 (ends_stand drivers lines (line.number + 1) rises.1)

ends_order : (drivers : List (List ℕ)) (lines : List JoinedLine) (low : ℕ) → RisesFrom low lines → InOrder Precedes (flat_map (undriven_faults drivers) lines)
unfolding undriven_faults
ends_order drivers [] low rises = tt
ends_order drivers (line ∷ lines) low rises =
    line_and_rest true line.number (undriven_at drivers line) (flat_map (undriven_faults drivers) lines)
    (words_order Undriven 6 _ (λ name. refl) (all_placed_rise _ (reads_in (kind_of line) line.words)))
    (ends_order drivers lines (line.number + 1) rises.1) (ends_stand drivers lines (line.number + 1) rises.1)

final_stand : (declared : List (List ℕ)) (lines : List JoinedLine) (low : ℕ) → RisesFrom low lines → Each (λ found. found.at_end ≡ true) (final_faults declared lines)
unfolding final_faults
final_stand declared [] low rises = (refl, tt)
final_stand declared (line ∷ lines) low rises =
    Each-weaker (Stands true low) (λ found. found.at_end ≡ true) _ (λ found at. at.0) (ends_stand (driven_nets (sights_of declared (line ∷ lines))) (line ∷ lines) low rises)

final_order : (declared : List (List ℕ)) (lines : List JoinedLine) (low : ℕ) → RisesFrom low lines → InOrder Precedes (final_faults declared lines)
unfolding final_faults
final_order declared [] low rises = (tt, tt)
final_order declared (line ∷ lines) low rises = ends_order (driven_nets (sights_of declared (line ∷ lines))) (line ∷ lines) low rises

all_order : (lut_size : ℕ) (lines : List JoinedLine) → RisesFrom 1 lines → InOrder Precedes (all_faults lut_size lines)
all_order lut_size lines rises =
    let final = final_faults (declared_in lines) lines in
    InOrder-append Precedes (line_faults lut_size (declared_in lines) [] lines) final
    (lines_order lut_size (declared_in lines) [] lines 1 rises) (final_order (declared_in lines) lines 1 rises)
    (Each-weaker (Stands false 1) (λ x. Each (Precedes x) final) _
    (λ x at. Each-weaker (λ found. found.at_end ≡ true) (Precedes x) final (λ y ends. precedes-end x y at.0 ends) (final_stand (declared_in lines) lines 1 rises))
    (lines_stand lut_size (declared_in lines) [] lines 1 rises))

same_first : (all : List (Found BlifFault)) → option_map (λ found. found.fault) (first_of all) ≡ first_fault all
same_first all = grind arith

-- the first fault of all is the least
pub least_is_first : (lut_size : ℕ) (lines : List JoinedLine) → RisesFrom 1 lines → least_fault (all_faults lut_size lines) ≡ first_fault (all_faults lut_size lines)
least_is_first lut_size lines rises = least_in_order (all_faults lut_size lines) (all_order lut_size lines rises) ∙ same_first (all_faults lut_size lines)
