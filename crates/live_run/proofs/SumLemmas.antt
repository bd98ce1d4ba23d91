-- Lines of a log, and the sums that they say.
use Rattle.live_run.proofs.Prelude.{◌≡◌, ℕ, ◌+◌, List, [], ◌∷◌, ◌++◌, true, false, cond, map, Option, Some, None, Ok, Err, refl, sym, ap, ◌∙◌, append_assoc, arith, IfSome, ⊤, Consumes, IsAtEnd, map-append, fold-append, IsKept, TakesPiece, kept_of, kept_none, ended_lines, Changed, NoLog, Others, Outcome, Done, ArchUnreadable, ArchRefused, LogUnreadable, LogDiffers, LogIsStream, LogInUse, Stopped, TooManyLines, NoMemory, LogSum, ChecksLines, ChecksLog, TakesNext, differs, first_differing, lines_sum, no_lines, with_line}
use Rattle.live_run.proofs.ReadLemmas.{IsRead, read_first, read_line, read_more, read_none, read_piece, read_whole}

-- lines that say no other sum, and those after them
differing_then : (s : LogSum) (lines more : List (List ℕ)) → first_differing s lines ≡ None → first_differing s (lines ++ more) ≡ first_differing (lines_sum s lines) more
differing_then s [] more none = refl
differing_then s (line ∷ lines) more none =
    elim (differs s line) as (λ b. cond b (Some (s.count + 1)) (first_differing (with_line s line) lines) ≡ None → cond b (Some (s.count + 1)) (first_differing (with_line s line) (lines ++ more)) ≡ first_differing (lines_sum (with_line s line) lines) more) [
      | true ↦ λ e. absurd (cc)
      | false ↦ λ e. differing_then (with_line s line) lines more e
    ] none

differing_now : (s : LogSum) (lines more : List (List ℕ)) (line : List ℕ) → first_differing s lines ≡ None → differs (lines_sum s lines) line ≡ true → first_differing s (lines ++ line ∷ more) ≡ Some ((lines_sum s lines).count + 1)
differing_now s lines more line none is = grind (arith, differing_then)

differing_not : (s : LogSum) (lines : List (List ℕ)) (line : List ℕ) → first_differing s lines ≡ None → differs (lines_sum s lines) line ≡ false → first_differing s (lines ++ line ∷ []) ≡ None
differing_not s lines line none is = grind (arith, differing_then)

-- the lines so far say no other sum, and come to that
pub record SumsSome (input now : Option (List ℕ)) (ahead kept : List ℕ) (s : LogSum) : Type 0 where
  pub lines : List (List ℕ)
  pub read : IsRead input now ahead kept lines
  pub none : first_differing no_lines (map kept_of lines) ≡ None
  pub sum : s ≡ lines_sum no_lines (map kept_of lines)

pub sums_none : (input : Option (List ℕ)) (ahead kept : List ℕ) (s : LogSum) → ahead ≡ [] → IsKept kept [] → s ≡ no_lines → SumsSome input input ahead kept s
sums_none input ahead kept s none line is = record { lines = []; read = read_none input ahead kept none line; none = refl; sum = is }

-- one more line
pub sums_line : (input now : Option (List ℕ)) (ahead kept rest after cleared : List ℕ) (s new : LogSum) → SumsSome input now ahead kept s → TakesPiece ahead kept true rest after → IsKept cleared [] → TakesNext s after (Ok new) → SumsSome input now rest cleared new
sums_line input now ahead kept rest after cleared s new g p none h4 = grind (arith, map-append, differing_not, fold-append, read_line input now ahead kept rest after cleared g.lines g.read p none)

-- more of the log is read
pub sums_read : (input now later : Option (List ℕ)) (ahead kept rest after bytes line : List ℕ) (s : LogSum) → SumsSome input now ahead kept s → TakesPiece ahead kept false rest after → Consumes now later bytes → line ≡ after → SumsSome input later bytes line s
sums_read input now later ahead kept rest after bytes line s g p reads same = grind (arith, read_more input now later rest after bytes g.lines p.rest.1 (read_piece input now ahead kept rest after g.lines g.read p) reads)

-- all of it was
known_lines : (input : Option (List ℕ)) (lines : List (List ℕ)) (s : LogSum) → ChecksLines (map kept_of lines) (Ok s) → IfSome input (λ bytes. lines ≡ ended_lines bytes) → ChecksLog input (Ok s)
known_lines input lines s checks all = grind arith

pub sums_whole : (input now : Option (List ℕ)) (ahead kept : List ℕ) (s : LogSum) → ahead ≡ [] → IsAtEnd now → SumsSome input now ahead kept s → ChecksLog input (Ok s)
sums_whole input now ahead kept s none at g = known_lines input g.lines s (g.none, g.sum) (read_whole input now ahead kept g.lines none g.read at)

-- a line says another sum
known_first : (input : Option (List ℕ)) (lines : List (List ℕ)) (number : ℕ) → ((more : List (List ℕ)) → first_differing no_lines (map kept_of lines ++ more) ≡ Some number) → IfSome input (λ bytes. (more : List (List ℕ)) × (ended_lines bytes ≡ lines ++ more)) → ChecksLog input (Err (LogDiffers (Changed number)))
known_first input lines number h1 first = grind (arith, map-append)

sums_differ : (input now : Option (List ℕ)) (ahead kept rest after : List ℕ) (s : LogSum) (number : ℕ) → SumsSome input now ahead kept s → TakesPiece ahead kept true rest after → differs s after ≡ true → number ≡ s.count + 1 → ChecksLog input (Err (LogDiffers (Changed number)))
sums_differ input now ahead kept rest after s number g p other is =
    let line = g.read.begun ++ p.piece in
    let before = map kept_of g.lines in
    let cut : after ≡ kept_of line = p.kept g.read.begun g.read.line in
    let all : map kept_of (g.lines ++ line ∷ []) ≡ before ++ after ∷ [] = map-append kept_of g.lines (line ∷ []) ∙ ap (λ l. before ++ l ∷ []) (sym cut) in
    let count : Some (s.count + 1) ≡ Some ((lines_sum no_lines before).count + 1) = ap (λ (x : LogSum). Some (x.count + 1)) g.sum in
    known_first input (g.lines ++ line ∷ []) number
    (λ more. ap (λ ls. first_differing no_lines (ls ++ more)) all
    ∙ (ap (first_differing no_lines) (append_assoc before (after ∷ []) more)
    ∙ (differing_now no_lines before more after g.none (ap (λ x. differs x after) (sym g.sum) ∙ other)
    ∙ (sym count ∙ ap Some (sym is)))))
    (read_first input now rest [] (g.lines ++ line ∷ []) (read_line input now ahead kept rest after [] g.lines g.read p (sym kept_none)))

-- the log can't be read, or memory ran out
known_any : (input : Option (List ℕ)) → IfSome input (λ bytes. ⊤)
known_any input = grind arith

pub sums_unread : (input : Option (List ℕ)) → ChecksLog input (Err LogUnreadable)
sums_unread input = known_any input

-- a line was not added
pub sums_end : (input now : Option (List ℕ)) (ahead kept rest after : List ℕ) (s : LogSum) (outcome : Outcome) → SumsSome input now ahead kept s → TakesPiece ahead kept true rest after → TakesNext s after (Err outcome) → ChecksLog input (Err outcome)
sums_end input now ahead kept rest after s Done g p takes = absurd takes
sums_end input now ahead kept rest after s ArchUnreadable g p takes = absurd takes
sums_end input now ahead kept rest after s (ArchRefused fault) g p takes = absurd takes
sums_end input now ahead kept rest after s LogUnreadable g p takes = known_any input
sums_end input now ahead kept rest after s (LogDiffers NoLog) g p takes = absurd takes
sums_end input now ahead kept rest after s (LogDiffers (Others others)) g p takes = absurd takes
sums_end input now ahead kept rest after s (LogDiffers (Changed number)) g p takes = sums_differ input now ahead kept rest after s number g p takes.0 takes.1
sums_end input now ahead kept rest after s LogIsStream g p takes = absurd takes
sums_end input now ahead kept rest after s LogInUse g p takes = absurd takes
sums_end input now ahead kept rest after s (Stopped fault) g p takes = absurd takes
sums_end input now ahead kept rest after s TooManyLines g p takes = absurd takes
sums_end input now ahead kept rest after s NoMemory g p takes = known_any input
