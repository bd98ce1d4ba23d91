-- The nets of a netlist are words of its text.
use Rattle.replies_law.proofs.Prelude.{◌≡◌, ℕ, ◌+◌, Bool, true, false, not, cond, List, [], ◌∷◌, ◌++◌, Result, Ok, Err, Option, Some, None, refl, subst, arith, ◌&&◌, IfSome, option_map, enumerate_from, option_map_or, result_flatten, result_map_both, Found, least_by, precedes, JoinedLine, earlier_by, LineFault, Circuit, Cover, BlifFault, BlifFaultKind, Unknown, TwoDrivers, Undriven, RepeatedOutput, BadLatch, Keyword, Model, Inputs, Outputs, Clock, Names, Latch, End, Skipped, Other, Row, WordFault, at_words, driven_nets, driver_faults, fault_where, faults_in, kind_faults, of_line, row_faults, table_faults, at_line, circuit_of, circuit_of_lines, final_faults, line_faults, undriven_faults, circuit_from, fault_of_lines, net_of, args_of, last_of, is_latch, latch_output, names_in, output_of, reads_in, has_name, names_with_index, repeats_from, with_name, with_names, Sights, kind_of, names_of, sights_of, NetsAreWords, NoFeed}
use Rattle.std.specs.Prelude.{flat_map}
use Rattle.replies_law.proofs.EachLemmas.{Each, each-append, each-drop, each-filter, each-flat_map, each-get, each-map, each-take}
use Rattle.replies_law.proofs.WordLemmas.{HasWords, words_other}

abbrev NamesOther : BlifFaultKind → Type 0
NamesOther kind = IfSome (net_of kind) NoFeed

abbrev WordOther : WordFault → Type 0
WordOther fault = NamesOther fault.kind

abbrev FoundOther : Found BlifFault → Type 0
FoundOther found = NamesOther (found.fault).kind

abbrev PlacedOther : ℕ × List ℕ → Type 0
PlacedOther name = NoFeed name.1

-- the names that faults name are among those of their lines
repeats_other : (place : ℕ) (taken names : List (List ℕ)) → Each NoFeed names → Each PlacedOther (repeats_from place taken names)
repeats_other place taken [] each = tt
repeats_other place taken (name ∷ names) each = grind (arith, repeats_other (place + 1) (taken ++ name ∷ []) names each.1)

numbered_names : (n : ℕ) (names : List (List ℕ)) → Each NoFeed names → Each PlacedOther (enumerate_from n names)
numbered_names n [] each = tt
numbered_names n (name ∷ names) each = (each.0, numbered_names (n + 1) names each.1)

placed_other : (test : List ℕ → Bool) (names : List (List ℕ)) → Each NoFeed names → Each PlacedOther (names_with_index test names)
placed_other test names each = each-filter PlacedOther (λ name. test name.1) (enumerate_from 0 names) (numbered_names 0 names each)

where_other : (b : Bool) (kind : BlifFaultKind) → NamesOther kind → Each WordOther (fault_where b kind)
where_other b kind is = grind arith

drivers_other : (taken names : List (List ℕ)) → Each NoFeed names → Each WordOther (driver_faults taken names)
drivers_other taken names each = each-map PlacedOther WordOther (λ name. record { word = name.0; kind = TwoDrivers name.1 }) (λ name is. is) (repeats_from 0 taken names) (repeats_other 0 taken names each)

last_other : (words : List (List ℕ)) → Each NoFeed words → NoFeed (last_of words)
last_other [] each = refl
last_other (word ∷ []) each = each.0
last_other (word ∷ next ∷ words) each = last_other (next ∷ words) each.1

output_other : (words : List (List ℕ)) → Each NoFeed words → Each NoFeed (output_of words)
output_other words each = grind (arith, last_other)

table_other : (lut_size : ℕ) (taken args : List (List ℕ)) → Each NoFeed args → Each WordOther (table_faults lut_size taken args)
table_other lut_size taken args each = search (output_other, arith)

latch_faults_other : (b : Bool) (taken args : List (List ℕ)) → Each NoFeed args → Each WordOther (cond b (driver_faults taken (latch_output args)) (of_line BadLatch))
latch_faults_other b taken args each = grind arith

row_other : (cover : Option Cover) (words : List (List ℕ)) → Each WordOther (row_faults cover words)
row_other cover words = grind (arith, where_other)

kind_other : (lut_size : ℕ) (above : Sights) (keyword : Keyword) (words : List (List ℕ)) → Each NoFeed words → Each WordOther (kind_faults lut_size above keyword words)
kind_other lut_size above Model words each = where_other above.begun Unknown tt
kind_other lut_size above Inputs words each = drivers_other (driven_nets above) (args_of words) (each-drop NoFeed 1 words each)
kind_other lut_size above Outputs words each =
    each-map PlacedOther WordOther (λ name. record { word = name.0; kind = RepeatedOutput name.1 }) (λ name is. is) (repeats_from 0 above.outputs (args_of words)) (repeats_other 0 above.outputs (args_of words) (each-drop NoFeed 1 words each))
kind_other lut_size above Clock words each =
    let test : List ℕ → Bool = λ name. not (has_name above.declared name) && has_name above.drivers name in
    each-map PlacedOther WordOther (λ name. record { word = name.0; kind = TwoDrivers name.1 }) (λ name is. is) (names_with_index test (args_of words)) (placed_other test (args_of words) (each-drop NoFeed 1 words each))
kind_other lut_size above Names words each = table_other lut_size (driven_nets above) (args_of words) (each-drop NoFeed 1 words each)
kind_other lut_size above Latch words each = latch_faults_other (is_latch (args_of words)) (driven_nets above) (args_of words) (each-drop NoFeed 1 words each)
kind_other lut_size above Other words each = (tt, tt)
kind_other lut_size above Row words each = row_other above.cover words
kind_other lut_size above End words each = tt
kind_other lut_size above Skipped words each = tt

line_other : (lut_size : ℕ) (above : Sights) (keyword : Keyword) (words : List (List ℕ)) → Each NoFeed words → Each WordOther (faults_in lut_size above keyword words)
line_other lut_size above keyword words each = grind (arith, each-append, kind_other, where_other)

at_other : (at_end : Bool) (number : ℕ) (faults : List WordFault) → Each WordOther faults → Each FoundOther (at_line at_end number faults)
at_other at_end number faults each = search (each-map, arith)

lines_faults_other : (lut_size : ℕ) (declared : List (List ℕ)) (above lines : List JoinedLine) → Each HasWords lines → Each FoundOther (line_faults lut_size declared above lines)
unfolding line_faults
lines_faults_other lut_size declared above [] each = tt
lines_faults_other lut_size declared above (line ∷ lines) each = grind (arith, each-append, at_other, line_other, lines_faults_other lut_size declared (above ++ line ∷ []) lines each.1)

reads_other : (keyword : Keyword) (words : List (List ℕ)) → Each NoFeed words → Each NoFeed (reads_in keyword words)
reads_other keyword words each = grind (arith, each-take)

undriven_other : (drivers : List (List ℕ)) (line : JoinedLine) → HasWords line → Each FoundOther (undriven_faults drivers line)
unfolding undriven_faults
undriven_other drivers line each =
    let test : List ℕ → Bool = λ name. not (has_name drivers name) in
    let names = reads_in (kind_of line) line.words in
    at_other true line.number (at_words Undriven (names_with_index test names))
    (each-map PlacedOther WordOther (λ name. record { word = name.0; kind = Undriven name.1 }) (λ name is. is) (names_with_index test names) (placed_other test names (reads_other (kind_of line) line.words each)))

final_other : (declared : List (List ℕ)) (lines : List JoinedLine) → Each HasWords lines → Each FoundOther (final_faults declared lines)
unfolding final_faults
final_other declared [] each = (tt, tt)
final_other declared (line ∷ lines) each = search (each-flat_map, undriven_other, arith)

-- the least element is one of the elements
least_other : (all : List (Found BlifFault)) → Each FoundOther all → IfSome (least_by precedes all) FoundOther
least_other [] each = tt
least_other (found ∷ all) each = by_least (least_by precedes all) (least_other all each.1)
  where
    by_test : (b : Bool) (other : Found BlifFault) → FoundOther other → FoundOther (cond b found other)
    by_test true other is = each.0
    by_test false other is = is

    by_least : (o : Option (Found BlifFault)) → IfSome o FoundOther → FoundOther (earlier_by precedes found o)
    by_least None is = each.0
    by_least (Some other) is = by_test (precedes found other) other is

fault_other : (o : Option (Found BlifFault)) (circuit : Circuit) (fault : BlifFault) → IfSome o FoundOther → option_map_or Err (option_map (λ found. found.fault) o) (Ok circuit) ≡ Err fault → NamesOther fault.kind
fault_other o circuit fault is e = grind arith

no_fault : (o : Option BlifFault) (circuit other : Circuit) → option_map_or Err o (Ok circuit) ≡ Ok other → circuit ≡ other
no_fault o circuit other e = grind arith

-- the nets of a circuit
with_name_other : (names : List (List ℕ)) (name : List ℕ) → Each NoFeed names → NoFeed name → Each NoFeed (with_name names name)
with_name_other names name each is = grind (arith, each-append)

with_names_other : (names others : List (List ℕ)) → Each NoFeed names → Each NoFeed others → Each NoFeed (with_names names others)
with_names_other names [] each is = each
with_names_other names (name ∷ others) each is = with_names_other (with_name names name) others (with_name_other names name each is.0) is.1

names_other : (keyword : Keyword) (words : List (List ℕ)) → Each NoFeed words → Each NoFeed (names_in keyword words)
names_other keyword words each = grind arith

nets_other : (declared : List (List ℕ)) (lines : List JoinedLine) → Each HasWords lines → Each NoFeed (circuit_from declared lines).nets
unfolding circuit_from sights_of
nets_other declared lines each = with_names_other [] (flat_map names_of lines) tt (each-flat_map HasWords NoFeed names_of (λ line. names_other (kind_of line) line.words) lines each)

-- this holds for all that a netlist names
of_lines_fault : (lut_size : ℕ) (lines : List JoinedLine) (fault : BlifFault) → Each HasWords lines → circuit_of_lines lut_size lines ≡ Err fault → NamesOther fault.kind
unfolding circuit_of_lines
of_lines_fault lut_size lines fault each e = grind (arith, each-append, lines_faults_other, final_other, fault_other, least_other)

of_lines_nets : (lut_size : ℕ) (lines : List JoinedLine) (circuit : Circuit) → Each HasWords lines → circuit_of_lines lut_size lines ≡ Ok circuit → Each NoFeed circuit.nets
unfolding circuit_of_lines
of_lines_nets lut_size lines circuit each e = grind (arith, nets_other)

line_fault_other : (fault : LineFault) → NamesOther (fault_of_lines fault).kind
line_fault_other fault = grind arith

-- the circuit, or the fault, of a text with these lines
abbrev circuit_of_read : ℕ → Result (List JoinedLine) LineFault → Result Circuit BlifFault
circuit_of_read lut_size read = result_flatten (result_map_both (circuit_of_lines lut_size) fault_of_lines read)

read_fault : (lut_size : ℕ) (r : Result (List JoinedLine) LineFault) (fault : BlifFault) → ((lines : List JoinedLine) → r ≡ Ok lines → Each HasWords lines) → circuit_of_read lut_size r ≡ Err fault → NamesOther fault.kind
read_fault lut_size (Ok lines) fault words e = of_lines_fault lut_size lines fault (words lines refl) e
read_fault lut_size (Err other) fault words e = let same : fault_of_lines other ≡ fault = cc in let P : BlifFault → Type 0 = λ f. NamesOther f.kind in subst P same (line_fault_other other)

read_nets : (lut_size : ℕ) (r : Result (List JoinedLine) LineFault) (circuit : Circuit) → ((lines : List JoinedLine) → r ≡ Ok lines → Each HasWords lines) → circuit_of_read lut_size r ≡ Ok circuit → Each NoFeed circuit.nets
read_nets lut_size r circuit words e = grind (arith, of_lines_nets)

text_fault : (text : List ℕ) (lut_size : ℕ) (fault : BlifFault) → circuit_of text lut_size ≡ Err fault → NamesOther fault.kind
unfolding circuit_of
text_fault text lut_size fault e = grind (arith, read_fault, words_other)

text_nets : (text : List ℕ) (lut_size : ℕ) (circuit : Circuit) → circuit_of text lut_size ≡ Ok circuit → Each NoFeed circuit.nets
unfolding circuit_of
text_nets text lut_size circuit e = grind (arith, read_nets, words_other)

pub nets_are_words : NetsAreWords
nets_are_words = grind (arith, text_fault, each-get, text_nets)
