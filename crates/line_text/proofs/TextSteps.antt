-- One physical line of a text, read after the lines before it.
use Rattle.line_text.proofs.Prelude.{◌≡◌, ℕ, ◌+◌, ◌<◌, true, false, not, cond, List, ◌++◌, ◌≤◌, length, Result, Ok, Err, sym, ap, ◌∙◌, arith, IsErrAnd, length-drop, length-take, enumerate_from, list_all, LineFault, NotAscii, TextError, JoinedLine, is_lawful, is_not_ascii, physical_lines, trim_end, ends_in_backslash, without_comment, Gives, IsContent, first_line, later_lines, OpenLine, Reading, reading_after, line_to_extend, continued_or_ended, lines_at_end, IsReadOn, words_of}
use Rattle.line_text.proofs.LineLemmas.{content-again, is_empty, physical_lines-first}
use Rattle.line_text.proofs.OnePass.{and_then, blanked, read_all}

-- the result of reading on from this state
abbrev pub read_from : Reading → ℕ → List ℕ → Result (List JoinedLine) LineFault
read_from reading n rest = read_all reading (enumerate_from (n + 1) (physical_lines rest))

read_from-first : (reading : Reading) (n : ℕ) (rest : List ℕ) → 0 < length rest → read_from reading n rest ≡ and_then (reading_after reading (n + 1) (first_line rest)) (λ later. read_from later (n + 1) (later_lines rest))
read_from-first reading n rest h = grind (arith, physical_lines-first)

-- reading on when nothing is left
pub read_from-end : (reading : Reading) (n : ℕ) (rest : List ℕ) → length rest ≡ 0 → read_from reading n rest ≡ lines_at_end reading
read_from-end reading n rest none = ap (read_from reading n) (is_empty rest none)

-- the state after an ASCII line with this content
abbrev after_ascii : Reading → ℕ → List ℕ → Result Reading LineFault
after_ascii reading n content =
    continued_or_ended (ends_in_backslash (trim_end content)) reading.done (let line = line_to_extend reading.unfinished n in let open_line : OpenLine = record { number = line.number; words = line.words ++ words_of (blanked (trim_end content)); count = line.count + length (blanked (trim_end content)) } in open_line)

-- the state after a line with this content
abbrev after_content : Reading → ℕ → List ℕ → Result Reading LineFault
after_content reading n content = cond (not (list_all is_lawful content)) (Err (NotAscii n)) (after_ascii reading n content)

same_after : (reading : Reading) (n : ℕ) (line content : List ℕ) → content ≡ without_comment line → reading_after reading n line ≡ reading_after reading n content
same_after reading n line content e = ap (after_content reading n) (sym e ∙ sym (content-again line content e))

pub read_from-not_ascii : (reading : Reading) (n : ℕ) (rest : List ℕ) → 0 < length rest → is_not_ascii (first_line rest) ≡ true → read_from reading n rest ≡ Err (NotAscii (n + 1))
read_from-not_ascii reading n rest h e = grind (arith, read_from-first)

pub is_content-ascii : (text content rest : List ℕ) → IsContent text content rest → is_not_ascii content ≡ false
is_content-ascii text content rest h = grind (arith, content-again)

-- a line that is read
pub read_from-ok : (reading later : Reading) (n : ℕ) (rest content others : List ℕ) → 0 < length rest → IsContent rest content others → reading_after reading (n + 1) content ≡ Ok later → read_from reading n rest ≡ read_from later (n + 1) others
read_from-ok reading later n rest content others h is e = grind (arith, read_from-first, same_after)

-- a line that cannot be read
pub read_from-err : (reading new : Reading) (n : ℕ) (rest content others : List ℕ) (lines : Result (List JoinedLine) LineFault) (error : TextError LineFault) → 0 < length rest → IsContent rest content others → lines ≡ read_from reading n rest → IsReadOn reading (n + 1) content (Err error) new → Gives lines (Err error)
read_from-err reading new n rest content others lines error h is l e = grind (arith, read_from-first, same_after)

-- the content and the rest of a text are no longer than it
pub is_content-length : (text content rest : List ℕ) → 0 < length text → IsContent text content rest → (length content + length rest ≤ length text) × (length rest < length text)
is_content-length text content rest h is = grind (arith, length-take, length-drop)

-- an error that is returned to the caller
pub gives-err : (lines : Result (List JoinedLine) LineFault) (r : Result (List JoinedLine) (TextError LineFault)) (error : TextError LineFault) → IsErrAnd r (λ e. e ≡ error) → Gives lines (Err error) → Gives lines r
gives-err lines r error e h = grind arith
