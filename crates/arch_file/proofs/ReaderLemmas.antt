-- The least fault belongs to the first line that has any.
use Rattle.arch_file.proofs.Prelude.{◌≡◌, ◌∙◌, ℕ, zero, suc, ◌+◌, ◌<◌, ◌≤◌, List, [], ◌∷◌, ◌++◌, Bool, true, false, Some, Ok, Err, option_map, length, take, drop, slice_get, refl, ap, sym, subst, arith, nat_lt, add-one, drop-cons, nat_tests, take_more, get_or_from_slice_get, slice_get_within, option_map_or, Found, least_by, least_fault, precedes, RisesFrom, Each, Each-append, Each-weaker, Precedes, by_number-same, least_before, least_map, precedes-end, precedes-line, turn_of, rises_lower, MAX_TEXT, JoinedLine, lines_of, Draft, TextError, NoMemory, Fault, arch_from, arch_of, Reads, ReadsAll, error_at, ArchFault, ArchFaultKind, number_of, end_faults, faults_after, faults_of, found_at, comes_before, word_of, least_kind}

-- a fault of a line or of the end
abbrev found : Bool → ℕ → ArchFaultKind → Found ArchFault
found at_end number kind = record { at_end = at_end; line = number; number = number_of kind; word = word_of kind; fault = record { line = number; kind = kind } }

-- a fault is of the end, or of a line with at least this number
abbrev IsFrom : ℕ → Found ArchFault → Type 0
IsFrom low fault = fault.at_end ≡ false → low ≤ fault.line

IsFrom-weaker : (low high : ℕ) (faults : List (Found ArchFault)) → low ≤ high → Each (IsFrom high) faults → Each (IsFrom low) faults
IsFrom-weaker low high faults fits from = Each-weaker (IsFrom high) (IsFrom low) faults (λ fault above line. omega (arith, above line)) from

each_found : (P : Found ArchFault → Type 0) (at_end : Bool) (number : ℕ) (kinds : List ArchFaultKind) → ((kind : ArchFaultKind) → P (found at_end number kind)) → Each P (found_at at_end number kinds)
each_found P at_end number [] h = tt
each_found P at_end number (kind ∷ kinds) h = (h kind, each_found P at_end number kinds h)

-- the faults of the later lines are at those lines or at the end
from_faults_behind : (before lines : List JoinedLine) (low : ℕ) → RisesFrom low lines → Each (IsFrom low) (faults_after before lines)
from_faults_behind before [] low rises = each_found (IsFrom low) true 0 (end_faults before) (λ kind line. absurd (cc))
from_faults_behind before (line ∷ lines) low rises =
    Each-append (IsFrom low) (found_at false line.number (faults_of before line.words)) (faults_after (before ++ line ∷ []) lines)
    (each_found (IsFrom low) false line.number (faults_of before line.words) (λ kind _. rises.0))
    (IsFrom-weaker low (line.number + 1) (faults_after (before ++ line ∷ []) lines) (omega (arith, rises.0)) (from_faults_behind (before ++ line ∷ []) lines (line.number + 1) rises.1))

-- a fault of a line comes before those of the next lines and of the end
precedes_from : (number : ℕ) (kind : ArchFaultKind) (other : Found ArchFault) → IsFrom (number + 1) other → Precedes (found false number kind) other
precedes_from number kind other from = by other.at_end refl
  where
    by : (b : Bool) → other.at_end ≡ b → Precedes (found false number kind) other
    by true ends = precedes-end (found false number kind) other refl ends
    by false line = precedes-line (found false number kind) other (sym line) (omega (arith, from line))

-- the least of a line's faults
least_found : (at_end : Bool) (number : ℕ) (kinds : List ArchFaultKind) → least_by precedes (found_at at_end number kinds) ≡ option_map (found at_end number) (least_kind kinds)
least_found at_end number kinds =
    least_map comes_before precedes (found at_end number) kinds (λ x y. by_number-same (turn_of at_end) _ ∙ by_number-same number (comes_before x y))

-- of a line's faults and the later ones, the least is the line's
pub least_at : (number : ℕ) (kinds : List ArchFaultKind) (kind : ArchFaultKind) (rest : List (Found ArchFault)) → Each (IsFrom (number + 1)) rest → least_kind kinds ≡ Some kind → least_fault (found_at false number kinds ++ rest) ≡ Some (record { line = number; kind = kind })
least_at number kinds kind rest from is =
    ap (option_map (λ f. f.fault))
    (least_before precedes (found_at false number kinds) rest (found false number kind)
    (least_found false number kinds ∙ ap (option_map (found false number)) is)
    (each_found (λ x. Each (Precedes x) rest) false number kinds (λ k. Each-weaker (IsFrom (number + 1)) (Precedes (found false number k)) rest (precedes_from number k) from)))

-- the lines from an index on begin with the line at that index
pub drop_line : (lines : List JoinedLine) (place : ℕ) (line : JoinedLine) → slice_get lines place ≡ Some line → drop place lines ≡ line ∷ drop (place + 1) lines
drop_line lines place line found =
    let inside : place < length lines = slice_get_within lines place line found in
    rw (add-one place, drop-cons lines place line inside, get_or_from_slice_get lines place line line found) refl

pub take_line : (lines : List JoinedLine) (place : ℕ) (line : JoinedLine) → slice_get lines place ≡ Some line → take (place + 1) lines ≡ take place lines ++ line ∷ []
take_line lines place line found =
    let inside : place < length lines = slice_get_within lines place line found in
    take_more lines place line inside ∙ ap (λ l. take place lines ++ l ∷ []) (get_or_from_slice_get lines place line line found)

-- a line without a fault
pub faults_behind-fine : (lines : List JoinedLine) (place : ℕ) (line : JoinedLine) → slice_get lines place ≡ Some line → faults_of (take place lines) line.words ≡ [] → faults_after (take place lines) (drop place lines) ≡ faults_after (take (place + 1) lines) (drop (place + 1) lines)
faults_behind-fine lines place line found fine =
    rw (drop_line lines place line found, take_line lines place line found, fine) refl

-- the lines from an index on have increasing numbers, too
rises_drop : (low place : ℕ) (lines : List JoinedLine) → RisesFrom low lines → RisesFrom low (drop place lines)
rises_drop low zero lines rises = rises
rises_drop low (suc place) [] rises = tt
rises_drop low (suc place) (line ∷ lines) rises = rises_drop low place lines (rises_lower low (line.number + 1) lines (omega (arith, rises.0)) rises.1)

-- a line with a fault
pub faults_behind-fault : (lines : List JoinedLine) (place : ℕ) (line : JoinedLine) (kind : ArchFaultKind) → RisesFrom 1 lines → slice_get lines place ≡ Some line → least_kind (faults_of (take place lines) line.words) ≡ Some kind → least_fault (faults_after (take place lines) (drop place lines)) ≡ Some (record { line = line.number; kind = kind })
faults_behind-fault lines place line kind rises at is =
    let before = take place lines in
    let rest : List JoinedLine = drop (place + 1) lines in
    let risen : RisesFrom 1 (line ∷ rest) = subst (RisesFrom 1) (drop_line lines place line at) (rises_drop 1 place lines rises) in
    ap (λ xs. least_fault (faults_after before xs)) (drop_line lines place line at)
    ∙ least_at line.number (faults_of before line.words) kind (faults_after (before ++ line ∷ []) rest) (from_faults_behind (before ++ line ∷ []) rest (line.number + 1) risen.1) is

pub least_end : (lines : List JoinedLine) (kind : ArchFaultKind) → least_kind (end_faults lines) ≡ Some kind → least_fault (found_at true 0 (end_faults lines)) ≡ Some (record { line = 0; kind = kind })
least_end lines kind is =
    ap (option_map (λ f. f.fault)) (least_found true 0 (end_faults lines) ∙ ap (option_map (found true 0)) is)

-- a line is refused, and the lines before it have no faults
pub reads_fault : (lines : List JoinedLine) (place : ℕ) (line : JoinedLine) (refusal : TextError ArchFaultKind) (draft : Draft) → RisesFrom 1 lines → slice_get lines place ≡ Some line → Reads (take place lines) line (Err refusal) draft → faults_after (take place lines) (drop place lines) ≡ faults_after [] lines → ReadsAll lines (Err (error_at line.number refusal))
reads_fault lines place line NoMemory draft rises at reads rest = reads
reads_fault lines place line (Fault kind) draft rises at reads rest =
    ap least_fault (sym rest) ∙ faults_behind-fault lines place line kind rises at reads

-- the lines of a text have no faults, but its end has one
pub arch_of-end : (text : List ℕ) (tracks : ℕ) (lines : List JoinedLine) (kind : ArchFaultKind) → length text ≤ MAX_TEXT → lines_of text ≡ Ok lines → faults_after [] lines ≡ found_at true 0 (end_faults lines) → least_kind (end_faults lines) ≡ Some kind → arch_of text tracks ≡ Err (record { line = 0; kind = kind })
unfolding arch_of
arch_of-end text tracks lines kind short is ends least =
    let fits : nat_lt MAX_TEXT (length text) ≡ false = grind (arith, nat_tests) in
    rw (fits, is) (ap (λ o. option_map_or Err o (Ok (arch_from lines tracks))) (ap least_fault ends ∙ least_end lines kind least))
