-- The names of a circuit that is read from a text are words: none has a space or a line end in it.
use Rattle.print_law.proofs.Prelude.{◌≡◌, ℕ, refl, ◌+◌, List, [], ◌∷◌, ◌++◌, length, get_or, map, filter, take, Option, Some, None, Result, Ok, Err, Bool, true, false, not, cond, nat_lt, ◌==◌, arith, inl, inr, sym, subst, All, codes, slice_get, enumerate_from, filter_map, flat_map, onto_first, slice_split, option_map_or, option_to_list, result_flatten, result_map_both, cases_lt, nat_tests, get_or_past, All-append, All-contains, All-cons, All-drop, All-filter, All-head, All-map, All-nil, All-tail, All-take, list_all-from_AllPass, bytes_eq, all_faults, circuit_of, circuit_of_lines, declared_in, circuit_from, model_of, fault_of_lines, args_of, control_of, is_latch, latch_nets, names_in, kind_of, names_of, sights_of, Circuit, BlifFault, OverLimit, Keyword, Inputs, Outputs, Names, Latch, Model, End, Skipped, Other, Row, all_members, from_flat_map, IsPlain, is_word_end, least_fault, JoinedLine, fault_of, is_continued, joined_bytes, joined_line, joined_part, lines_of, physical_lines, runs, trim_end, without_comment, without_last, has_name, with_names, is_blank, is_filled, words_of, LineFault, MAX_TEXT, HasPlainNames}
use Rattle.blif.specs.declared.keyword.Keyword.TheVariants.{Clock}

-- ---- lines

-- the byte is not a line end
abbrev IsInLine : ℕ → Type 0
IsInLine byte = byte ≡ 10 → ⊥

abbrev IsLine : List ℕ → Type 0
IsLine bytes = All IsInLine bytes

-- what holds of each byte holds of the bytes of each part
onto : (P : ℕ → Type 0) (byte : ℕ) (parts : List (List ℕ)) → P byte → All (All P) parts → All (All P) (onto_first byte parts)
onto P byte [] is all = All-cons (All P) (byte ∷ []) [] (All-cons P byte [] is (All-nil P)) (All-nil (All P))
onto P byte (part ∷ parts) is all = All-cons (All P) (byte ∷ part) parts (All-cons P byte part is (All-head (All P) part parts all)) (All-tail (All P) part parts all)

are_lines : (text : List ℕ) → All IsLine (physical_lines text)
are_lines [] = All-nil IsLine
are_lines (byte ∷ rest) = by (byte == 10) refl (are_lines rest)
  where
    by : (b : Bool) → (byte == 10) ≡ b → All IsLine (physical_lines rest) → All IsLine (cond b ([] ∷ physical_lines rest) (onto_first byte (physical_lines rest)))
    by true is all = All-cons IsLine [] (physical_lines rest) (All-nil IsInLine) all
    by false is all = onto IsInLine byte (physical_lines rest) (λ same. (let other : (byte == 10) ≡ true = grind (arith, nat_tests, same) in absurd cc)) all

-- a numbered line
abbrev IsNumbered : ℕ × List ℕ → Type 0
IsNumbered line = IsLine line.1

are_numbered : (number : ℕ) (lines : List (List ℕ)) → All IsLine lines → All IsNumbered (enumerate_from number lines)
are_numbered number [] all = All-nil IsNumbered
are_numbered number (line ∷ lines) all = All-cons IsNumbered (number, line) (enumerate_from (number + 1) lines) (All-head IsLine line lines all) (are_numbered (number + 1) lines (All-tail IsLine line lines all))

abbrev IsRun : List (ℕ × List ℕ) → Type 0
IsRun run = All IsNumbered run

before_run : (line : ℕ × List ℕ) (others : List (List (ℕ × List ℕ))) → IsNumbered line → All IsRun others → All IsRun (onto_first line others)
before_run line [] is all = All-cons IsRun (line ∷ []) [] (All-cons IsNumbered line [] is (All-nil IsNumbered)) (All-nil IsRun)
before_run line (run ∷ others) is all = All-cons IsRun (line ∷ run) others (All-cons IsNumbered line run is (All-head IsRun run others all)) (All-tail IsRun run others all)

are_runs : (lines : List (ℕ × List ℕ)) → All IsNumbered lines → All IsRun (runs lines)
are_runs [] all = All-nil IsRun
are_runs (line ∷ rest) all = by (is_continued line.1) (All-head IsNumbered line rest all) (are_runs rest (All-tail IsNumbered line rest all))
  where
    by : (b : Bool) → IsNumbered line → All IsRun (runs rest) → All IsRun (cond b (onto_first line (runs rest)) ((line ∷ []) ∷ runs rest))
    by true is others = before_run line (runs rest) is others
    by false is others = All-cons IsRun (line ∷ []) (runs rest) (All-cons IsNumbered line [] is (All-nil IsNumbered)) others

trimmed : (line : List ℕ) → IsLine line → IsLine (trim_end (without_comment line))
trimmed line is = All-take IsInLine _ (without_comment line) (All-take IsInLine _ line is)

part_is : (line : List ℕ) → IsLine line → IsLine (joined_part line)
part_is line is = by (is_continued line)
  where
    by : (b : Bool) → IsLine (cond b (without_last (trim_end (without_comment line)) ++ 32 ∷ []) (trim_end (without_comment line)))
    by true = All-append IsInLine (without_last (trim_end (without_comment line))) (32 ∷ []) (All-take IsInLine _ (trim_end (without_comment line)) (trimmed line is)) (All-cons IsInLine 32 [] (λ same. omega (arith, same)) (All-nil IsInLine))
    by false = trimmed line is

joined_is : (run : List (ℕ × List ℕ)) → IsRun run → IsLine (joined_bytes run)
joined_is run is = all_members IsInLine (joined_bytes run) (λ byte c.
    let q = from_flat_map (λ (line : ℕ × List ℕ). joined_part line.1) run byte c in
    All-contains IsInLine (joined_part q.0.1) byte (part_is q.0.1 (All-contains IsNumbered run q.0 is q.1)) q.2)

-- ---- words

abbrev IsInWord : ℕ → Type 0
IsInWord byte = not (is_word_end byte) ≡ true

in_word : (byte : ℕ) → IsInLine byte → is_blank byte ≡ false → IsInWord byte
in_word byte is blank = grind (arith, nat_tests, is, blank)

parts_are : (line : List ℕ) → IsLine line → All (All IsInWord) (slice_split is_blank line)
parts_are [] is = All-cons (All IsInWord) [] [] (All-nil IsInWord) (All-nil (All IsInWord))
parts_are (byte ∷ line) is = by (is_blank byte) refl (parts_are line (All-tail IsInLine byte line is))
  where
    by : (b : Bool) → is_blank byte ≡ b → All (All IsInWord) (slice_split is_blank line) → All (All IsInWord) (cond b ([] ∷ slice_split is_blank line) (onto_first byte (slice_split is_blank line)))
    by true blank all = All-cons (All IsInWord) [] (slice_split is_blank line) (All-nil IsInWord) all
    by false blank all = onto IsInWord byte (slice_split is_blank line) (in_word byte (All-head IsInLine byte line is) blank) all

plain : (word : List ℕ) → All IsInWord word → IsPlain word
plain word all = list_all-from_AllPass (λ byte. not (is_word_end byte)) word all

words_are : (line : List ℕ) → IsLine line → All IsPlain (words_of line)
words_are line is =
    let parts = parts_are line is in
    All-filter is_filled IsPlain (slice_split is_blank line) (λ k d small. plain _ (parts k d small))

-- the words of the line are plain
abbrev HasPlainWords : JoinedLine → Type 0
HasPlainWords line = All IsPlain line.words

run_plain : (all : List (List (ℕ × List ℕ))) → All IsRun all → All HasPlainWords (map joined_line all)
run_plain all are = All-map HasPlainWords joined_line all (λ k d small. words_are (joined_bytes (get_or all k d)) (joined_is (get_or all k d) (are k d small)))

lines_are : (text : List ℕ) (lines : List JoinedLine) → lines_of text ≡ Ok lines → All HasPlainWords lines
unfolding lines_of
lines_are text lines h = by (slice_get (filter_map fault_of all_runs) 0) h
  where
    all_runs : List (List (ℕ × List ℕ))
    all_runs = runs (enumerate_from 1 (physical_lines text))

    joined : All HasPlainWords (map joined_line all_runs)
    joined = run_plain all_runs (are_runs (enumerate_from 1 (physical_lines text)) (are_numbered 1 (physical_lines text) (are_lines text)))

    by : (o : Option LineFault) → option_map_or Err o (Ok (filter (λ line. is_filled line.words) (map joined_line all_runs))) ≡ Ok lines → All HasPlainWords lines
    by None is =
        let same : filter (λ (line : JoinedLine). is_filled line.words) (map joined_line all_runs) ≡ lines = cc in
        subst (λ (l : List JoinedLine). All HasPlainWords l) same (All-filter (λ (line : JoinedLine). is_filled line.words) HasPlainWords (map joined_line all_runs) joined)
    by (Some fault) is = absurd cc

-- ---- names

named : (names others : List (List ℕ)) → All IsPlain names → All IsPlain others → All IsPlain (with_names names others)
named names [] before all = before
named names (name ∷ others) before all = named (cond (has_name names name) names (names ++ name ∷ [])) others (either (has_name names name)) (All-tail IsPlain name others all)
  where
    either : (b : Bool) → All IsPlain (cond b names (names ++ name ∷ []))
    either true = before
    either false = All-append IsPlain names (name ∷ []) before (All-cons IsPlain name [] (All-head IsPlain name others all) (All-nil IsPlain))

control_plain : (args : List (List ℕ)) → All IsPlain args → All IsPlain (option_to_list (control_of args))
control_plain [] all = All-nil IsPlain
control_plain (input ∷ []) all = All-nil IsPlain
control_plain (input ∷ output ∷ []) all = All-nil IsPlain
control_plain (input ∷ output ∷ type ∷ []) all = All-nil IsPlain
control_plain (input ∷ output ∷ type ∷ control ∷ words) all = by (bytes_eq control (codes "NIL"))
  where
    by : (b : Bool) → All IsPlain (option_to_list (cond b None (Some control)))
    by true = All-nil IsPlain
    by false = All-cons IsPlain control [] (all 3 control (omega arith)) (All-nil IsPlain)

args_plain : (words : List (List ℕ)) → All IsPlain words → All IsPlain (args_of words)
args_plain words all = All-drop IsPlain 1 words all

latch_plain : (args : List (List ℕ)) → All IsPlain args → All IsPlain (latch_nets 2 args)
latch_plain args all = by (is_latch args)
  where
    by : (b : Bool) → All IsPlain (cond b (take 2 args ++ option_to_list (control_of args)) [])
    by true = All-append IsPlain (take 2 args) (option_to_list (control_of args)) (All-take IsPlain 2 args all) (control_plain args all)
    by false = All-nil IsPlain

line_plain : (keyword : Keyword) (words : List (List ℕ)) → All IsPlain words → All IsPlain (names_in keyword words)
line_plain Inputs words all = args_plain words all
line_plain Outputs words all = args_plain words all
line_plain Clock words all = args_plain words all
line_plain Names words all = args_plain words all
line_plain Latch words all = latch_plain (args_of words) (args_plain words all)
line_plain Model words all = All-nil IsPlain
line_plain End words all = All-nil IsPlain
line_plain Skipped words all = All-nil IsPlain
line_plain Other words all = All-nil IsPlain
line_plain Row words all = All-nil IsPlain

model_plain : (lines : List JoinedLine) → All HasPlainWords lines → IsPlain (model_of lines)
model_plain [] all = refl
model_plain (line ∷ lines) all = elim (cases_lt 0 (length (args_of line.words))) [
  | inl some ↦ args_plain line.words (All-head HasPlainWords line lines all) 0 (codes "top") some
  | inr none ↦ subst IsPlain (sym (get_or_past (args_of line.words) 0 (codes "top") none)) refl
]

circuit_plain : (declared : List (List ℕ)) (lines : List JoinedLine) → All HasPlainWords lines → HasPlainNames (circuit_from declared lines)
unfolding circuit_from sights_of
circuit_plain declared lines all = record {
  model = model_plain lines all;
  nets = named [] (flat_map names_of lines) (All-nil IsPlain) (all_members IsPlain (flat_map names_of lines) (λ name c.
      let q = from_flat_map names_of lines name c in
      All-contains IsPlain (names_of q.0) name (line_plain (kind_of q.0) q.0.words (All-contains HasPlainWords lines q.0 all q.1)) q.2));
}

-- lines without a fault say their circuit
said : (found : Option BlifFault) (built circuit : Circuit) → option_map_or Err found (Ok built) ≡ Ok circuit → built ≡ circuit
said None built circuit h = cc
said (Some fault) built circuit h = absurd cc

-- the names of a text's circuit are plain
pub names_plain : (text : List ℕ) (lut_size : ℕ) (circuit : Circuit) → circuit_of text lut_size ≡ Ok circuit → HasPlainNames circuit
unfolding circuit_of circuit_of_lines
names_plain text lut_size circuit says = by (nat_lt MAX_TEXT (length text)) says
  where
    of_lines : (read : Result (List JoinedLine) LineFault) → lines_of text ≡ read → result_flatten (result_map_both (circuit_of_lines lut_size) fault_of_lines read) ≡ Ok circuit → HasPlainNames circuit
    of_lines (Ok lines) is given = subst HasPlainNames (said (least_fault (all_faults lut_size lines)) (circuit_from (declared_in lines) lines) circuit given) (circuit_plain (declared_in lines) lines (lines_are text lines is))
    of_lines (Err fault) is given = absurd cc

    by : (b : Bool) → cond b (Err (record { line = 0; kind = OverLimit })) (result_flatten (result_map_both (circuit_of_lines lut_size) fault_of_lines (lines_of text))) ≡ Ok circuit → HasPlainNames circuit
    by true given = absurd cc
    by false given = of_lines (lines_of text) refl given
