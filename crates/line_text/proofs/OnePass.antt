-- Reading a text one physical line after another has the result that its runs define.
use Rattle.line_text.proofs.Prelude.{◌≡◌, ℕ, ◌+◌, Bool, true, false, cond, ◌&&◌, List, [], ◌∷◌, ◌++◌, length, map, filter, Result, Ok, Err, Option, Some, None, slice_get, refl, sym, ap, ◌∙◌, arith, append_assoc, length-append, nat_lt, append-nil, flat_map-append, slice_split, onto_first, flat_map, enumerate_from, find, filter_map, cons_option, option_map_or, option_or, LineFault, NotAscii, LineTooLong, is_blank, is_filled, words_of, MAX_LINE, JoinedLine, physical_lines, ends_in_backslash, without_last, joined_part, is_continued, is_not_ascii, runs, is_too_long, joined_bytes, joined_line, fault_of, lines_of_runs, lines_of, OpenLine, Reading, line_to_extend, longer_line, lines_with, closed_reading, continued_or_ended, reading_after, lines_at_end}
use Rattle.std.specs.Option.{option_map}

-- a final `\` becomes a blank
abbrev pub blanked : List ℕ → List ℕ
blanked bytes = cond (ends_in_backslash bytes) (without_last bytes ++ 32 ∷ []) bytes

-- what is wrong with a run that has this line that is not ASCII
abbrev fault_at : Option (ℕ × List ℕ) → List (ℕ × List ℕ) → Option LineFault
fault_at found run = option_or (option_map (λ line. NotAscii line.0) found) (cond (is_too_long run) (Some (LineTooLong (joined_line run).number)) None)

-- the first of the faults, or the lines if there are no faults
abbrev pub unless_fault : List LineFault → List JoinedLine → Result (List JoinedLine) LineFault
unless_fault faults lines = option_map_or Err (slice_get faults 0) (Ok lines)

slice_split-filled : {X : Type 0} (p : X → Bool) (xs : List X) → is_filled (slice_split p xs) ≡ true
slice_split-filled p [] = refl
slice_split-filled p (x ∷ xs) = grind arith

onto_first-append : {X : Type 0} (x : X) (parts more : List (List X)) → is_filled parts ≡ true → onto_first x (parts ++ more) ≡ onto_first x parts ++ more
onto_first-append x parts more e = grind arith

-- splitting a list around an element that passes the test
pub slice_split-append : {X : Type 0} (p : X → Bool) (xs : List X) (y : X) (ys : List X) → p y ≡ true → slice_split p (xs ++ y ∷ ys) ≡ slice_split p xs ++ slice_split p ys
slice_split-append p [] y ys e = rw e
slice_split-append p (x ∷ xs) y ys e = grind (arith, onto_first-append, slice_split-filled, slice_split-append p xs y ys e)

pub filter-append : {X : Type 0} (p : X → Bool) (xs ys : List X) → filter p (xs ++ ys) ≡ filter p xs ++ filter p ys
filter-append p [] ys = refl
filter-append p (x ∷ xs) ys = grind (arith, filter-append p xs ys)

-- a blank separates words
pub words_of-blank : (xs ys : List ℕ) → words_of (xs ++ 32 ∷ ys) ≡ words_of xs ++ words_of ys
words_of-blank xs ys = ap (filter is_filled) (slice_split-append is_blank xs 32 ys refl) ∙ filter-append is_filled (slice_split is_blank xs) (slice_split is_blank ys)

-- the words of what a continued line adds, and of what follows it
pub words_of-continued : (line rest : List ℕ) → is_continued line ≡ true → words_of (joined_part line ++ rest) ≡ words_of (joined_part line) ++ words_of rest
words_of-continued line rest e = grind (arith, append_assoc, words_of-blank)

-- the words of the lines of a run, line by line
abbrev words_within : List (ℕ × List ℕ) → List (List ℕ)
words_within run = flat_map (λ line. words_of (joined_part line.1)) run

-- each of these lines is continued
abbrev AreContinued : List (ℕ × List ℕ) → Type 0
AreContinued [] = Unit {0}
AreContinued (line ∷ rest) = (is_continued line.1 ≡ true) × AreContinued rest

-- each of these lines is ASCII
abbrev AreAscii : List (ℕ × List ℕ) → Type 0
AreAscii [] = Unit {0}
AreAscii (line ∷ rest) = (is_not_ascii line.1 ≡ false) × AreAscii rest

-- no word spans two lines
words_of-joined : (run : List (ℕ × List ℕ)) (rest : List ℕ) → AreContinued run → words_of (joined_bytes run ++ rest) ≡ words_within run ++ words_of rest
words_of-joined [] rest h = refl
words_of-joined (line ∷ run) rest h = grind (arith, append_assoc, words_of-continued, words_of-joined run rest h.1)

-- these lines put before the first of the runs
abbrev glued : List (ℕ × List ℕ) → List (List (ℕ × List ℕ)) → List (List (ℕ × List ℕ))
glued [] all = all
glued (line ∷ run) all = onto_first line (glued run all)

glued-push : (run : List (ℕ × List ℕ)) (line : ℕ × List ℕ) (all : List (List (ℕ × List ℕ))) → glued (run ++ line ∷ []) all ≡ glued run (onto_first line all)
glued-push [] line all = refl
glued-push (first ∷ run) line all = ap (onto_first first) (glued-push run line all)

glued-cons : (run first : List (ℕ × List ℕ)) (all : List (List (ℕ × List ℕ))) → glued run (first ∷ all) ≡ (run ++ first) ∷ all
glued-cons [] first all = refl
glued-cons (line ∷ run) first all = ap (onto_first line) (glued-cons run first all)

glued-nil : (line : ℕ × List ℕ) (run : List (ℕ × List ℕ)) → glued (line ∷ run) [] ≡ (line ∷ run) ∷ []
glued-nil line [] = refl
glued-nil line (next ∷ run) = ap (onto_first line) (glued-nil next run)

-- the open line that these lines make
abbrev open_of : List (ℕ × List ℕ) → Option OpenLine
open_of [] = None
open_of (line ∷ run) = Some (record { number = line.0; words = words_within (line ∷ run); count = length (joined_bytes (line ∷ run)) })

abbrev reading_of : List JoinedLine → List (ℕ × List ℕ) → Reading
reading_of done run = record { done = done; unfinished = open_of run }

-- these lines put before the lines of a result
abbrev onto : List JoinedLine → Result (List JoinedLine) LineFault → Result (List JoinedLine) LineFault
onto done (Ok lines) = Ok (done ++ lines)
onto done (Err fault) = Err fault

abbrev pub and_then : {A B : Type 0} → Result A LineFault → (A → Result B LineFault) → Result B LineFault
and_then (Ok a) f = f a
and_then (Err fault) f = Err fault

-- the result of reading the lines one after another
abbrev pub read_all : Reading → List (ℕ × List ℕ) → Result (List JoinedLine) LineFault
read_all reading [] = lines_at_end reading
read_all reading (line ∷ rest) = and_then (reading_after reading line.0 line.1) (λ later. read_all later rest)

same_open : (n : ℕ) (words more : List (List ℕ)) (count count' : ℕ) → words ≡ more → count ≡ count' → Some (let line : OpenLine = record { number = n; words = words; count = count } in line) ≡ Some (record { number = n; words = more; count = count' })
same_open n words more count count' e f = cc

-- one more line of the open line
extended-push : (run : List (ℕ × List ℕ)) (line : ℕ × List ℕ) → Some (longer_line (line_to_extend (open_of run) line.0) line.1) ≡ open_of (run ++ line ∷ [])
extended-push [] line =
    same_open line.0 _ _ _ _ (sym (append-nil (words_of (joined_part line.1)))) (omega (arith, ap length (append-nil (joined_part line.1))))
extended-push (first ∷ run) line =
    same_open first.0 _ _ _ _
    (ap (λ words. words_within (first ∷ run) ++ words) (sym (append-nil (words_of (joined_part line.1)))) ∙ sym (flat_map-append (λ (l : ℕ × List ℕ). words_of (joined_part l.1)) (first ∷ run) (line ∷ [])))
    (ap (λ n. length (joined_bytes (first ∷ run)) + n) (ap length (sym (append-nil (joined_part line.1)))) ∙ (sym (length-append (joined_bytes (first ∷ run)) (joined_bytes (line ∷ []))) ∙ ap length (sym (flat_map-append (λ (l : ℕ × List ℕ). joined_part l.1) (first ∷ run) (line ∷ [])))))

ended_by_cases : (done lines : List JoinedLine) (faults : List LineFault) (n : ℕ) (line : JoinedLine) (has_words is_long : Bool) → onto done (unless_fault (cons_option (cond (has_words && is_long) (Some (LineTooLong n)) None) faults) (cond has_words (line ∷ lines) lines)) ≡ and_then (cond has_words (cond is_long (Err (LineTooLong n)) (Ok (done ++ line ∷ []))) (Ok done)) (λ before. onto before (unless_fault faults lines))
ended_by_cases done lines faults n line false is_long = refl
ended_by_cases done lines faults n line true true = refl
ended_by_cases done lines [] n line true false = ap Ok (sym (append_assoc done (line ∷ []) lines))
ended_by_cases done lines (fault ∷ faults) n line true false = refl

find-none : (run : List (ℕ × List ℕ)) → AreAscii run → find (λ line. is_not_ascii line.1) run ≡ None
find-none [] a = refl
find-none (line ∷ run) a = rw a.0 (find-none run a.1)

find-first : (run : List (ℕ × List ℕ)) (line : ℕ × List ℕ) (tail : List (ℕ × List ℕ)) → AreAscii run → is_not_ascii line.1 ≡ true → find (λ l. is_not_ascii l.1) (run ++ line ∷ tail) ≡ Some line
find-first [] line tail a e = rw e
find-first (first ∷ run) line tail a e = rw a.0 (find-first run line tail a.1 e)

-- a run that is ASCII, when it ends
ended-run : (done : List JoinedLine) (run : List (ℕ × List ℕ)) (line : OpenLine) (all : List (List (ℕ × List ℕ))) → open_of run ≡ Some line → words_of (joined_bytes run) ≡ words_within run → AreAscii run → onto done (lines_of_runs (run ∷ all)) ≡ and_then (lines_with done line) (λ lines. onto lines (lines_of_runs all))
ended-run done [] line all o w a = cc
ended-run done (first ∷ run) line all o w a =
    let bytes = joined_bytes (first ∷ run) in
    let faults = filter_map fault_of all in
    let lines = filter (λ (l : JoinedLine). is_filled l.words) (map joined_line all) in
    let whole : OpenLine = record { number = first.0; words = words_within (first ∷ run); count = length bytes } in
    let same : whole ≡ line = cc in
    ap (λ found. onto done (unless_fault (cons_option (fault_at found (first ∷ run)) faults) (cond (is_filled (words_of bytes)) (joined_line (first ∷ run) ∷ lines) lines))) (find-none (first ∷ run) a)
    ∙ (ap (λ words. onto done (unless_fault (cons_option (cond (is_filled words && nat_lt MAX_LINE (length bytes)) (Some (LineTooLong first.0)) None) faults) (cond (is_filled words) (record { number = first.0; words = words } ∷ lines) lines))) w
    ∙ (ended_by_cases done lines faults first.0 (record { number = first.0; words = whole.words }) (is_filled whole.words) (nat_lt MAX_LINE (length bytes))
    ∙ ap (λ (l : OpenLine). and_then (lines_with done l) (λ more. onto more (lines_of_runs all))) same))

AreAscii-push : (run : List (ℕ × List ℕ)) (line : ℕ × List ℕ) → AreAscii run → is_not_ascii line.1 ≡ false → AreAscii (run ++ line ∷ [])
AreAscii-push [] line a e = (e, tt)
AreAscii-push (first ∷ run) line a e = (a.0, AreAscii-push run line a.1 e)

AreContinued-push : (run : List (ℕ × List ℕ)) (line : ℕ × List ℕ) → AreContinued run → is_continued line.1 ≡ true → AreContinued (run ++ line ∷ [])
AreContinued-push [] line a e = (e, tt)
AreContinued-push (first ∷ run) line a e = (a.0, AreContinued-push run line a.1 e)

words_of-run : (run : List (ℕ × List ℕ)) → AreContinued run → words_of (joined_bytes run) ≡ words_within run
words_of-run run c = grind (arith, words_of-joined, append-nil (joined_bytes run), words_of-joined run [] c, append-nil (words_within run))

words_of-run_push : (run : List (ℕ × List ℕ)) (line : ℕ × List ℕ) → AreContinued run → words_of (joined_bytes (run ++ line ∷ [])) ≡ words_within (run ++ line ∷ [])
words_of-run_push run line c = grind (arith, flat_map-append, append-nil, words_of-joined)

-- reading on from this state has the result that the remaining runs define
abbrev GivesRuns : List (ℕ × List ℕ) → List JoinedLine → List (ℕ × List ℕ) → Type 0
GivesRuns rest done run = read_all (reading_of done run) rest ≡ onto done (lines_of_runs (glued run (runs rest)))

at_end : (done : List JoinedLine) (run : List (ℕ × List ℕ)) → AreContinued run → AreAscii run → GivesRuns [] done run
at_end done [] c a = ap Ok (sym (append-nil done))
at_end done (first ∷ run) c a =
    let whole : OpenLine = record { number = first.0; words = words_within (first ∷ run); count = length (joined_bytes (first ∷ run)) } in
    sym (ap (λ all. onto done (lines_of_runs all)) (glued-nil first run) ∙ (ended-run done (first ∷ run) whole [] refl (words_of-run (first ∷ run) c) a ∙ same_ended (lines_with done whole)))
  where
    same_ended : (r : Result (List JoinedLine) LineFault) → and_then r (λ lines. Ok (lines ++ [])) ≡ r
    same_ended (Ok lines) = ap Ok (append-nil lines)
    same_ended (Err fault) = refl

not_ascii : (done : List JoinedLine) (run : List (ℕ × List ℕ)) (line : ℕ × List ℕ) (rest : List (ℕ × List ℕ)) → AreAscii run → is_not_ascii line.1 ≡ true → onto done (lines_of_runs (glued run (runs (line ∷ rest)))) ≡ Err (NotAscii line.0)
not_ascii done run line rest a e = grind (arith, glued-cons, find-first)

read_settled : (rest : List (ℕ × List ℕ)) → ((done : List JoinedLine) → GivesRuns rest done []) → (r : Result (List JoinedLine) LineFault) → and_then (closed_reading r) (λ later. read_all later rest) ≡ and_then r (λ lines. onto lines (lines_of_runs (runs rest)))
read_settled rest h r = grind arith

-- one more line, if the rest is read correctly
one_line : (line : ℕ × List ℕ) (rest : List (ℕ × List ℕ)) → ((done : List JoinedLine) (run : List (ℕ × List ℕ)) → AreContinued run → AreAscii run → GivesRuns rest done run) → (done : List JoinedLine) (run : List (ℕ × List ℕ)) → AreContinued run → AreAscii run → GivesRuns (line ∷ rest) done run
one_line line rest h done run c a =
    elim (is_not_ascii line.1) as (λ b. is_not_ascii line.1 ≡ b → and_then (cond b (Err (NotAscii line.0)) (continued_or_ended (is_continued line.1) done new)) (λ later. read_all later rest) ≡ onto done (lines_of_runs (glued run (runs (line ∷ rest))))) [
      | true ↦ λ e. sym (not_ascii done run line rest a e)
      | false ↦ λ ascii. elim (is_continued line.1) as (λ b. is_continued line.1 ≡ b → and_then (continued_or_ended b done new) (λ later. read_all later rest) ≡ onto done (lines_of_runs (glued run (cond b (onto_first line (runs rest)) ((line ∷ []) ∷ runs rest))))) [
        | true ↦ λ e. ap (λ line'. read_all (record { done = done; unfinished = line' }) rest) (extended-push run line)
            ∙ (h done (run ++ line ∷ []) (AreContinued-push run line c e) (AreAscii-push run line a ascii)
            ∙ ap (λ all. onto done (lines_of_runs all)) (glued-push run line (runs rest)))
        | false ↦ λ e. read_settled rest (λ lines. h lines [] tt tt) (lines_with done new)
            ∙ sym (ap (λ all. onto done (lines_of_runs all)) (glued-cons run (line ∷ []) (runs rest))
            ∙ ended-run done (run ++ line ∷ []) new (runs rest) (sym (extended-push run line)) (words_of-run_push run line c) (AreAscii-push run line a ascii))
      ] refl
    ] refl
  where
    new : OpenLine
    new = longer_line (line_to_extend (open_of run) line.0) line.1

read_as_runs : (rest : List (ℕ × List ℕ)) (done : List JoinedLine) (run : List (ℕ × List ℕ)) → AreContinued run → AreAscii run → GivesRuns rest done run
read_as_runs [] done run c a = at_end done run c a
read_as_runs (line ∷ rest) done run c a =
    one_line line rest (λ d r. read_as_runs rest d r) done run c a

-- the state before anything is read
abbrev pub unread : Reading
unread = record { done = []; unfinished = None }

-- reading the numbered lines of a text one after another results in its lines
pub lines_of-read : (text : List ℕ) → lines_of text ≡ read_all unread (enumerate_from 1 (physical_lines text))
unfolding lines_of
lines_of-read text = grind (arith, read_as_runs (enumerate_from 1 (physical_lines text)) [] [] tt tt)
