-- Joined lines of small texts, and numbers, computed by the checker.
use Rattle.line_text.proofs.Prelude.{Some, None, ◌≡◌, ℕ, Bool, true, false, List, [], ◌∷◌, Ok, Err, refl, codes, NotAscii, decimal_of, millionths_of, whole_of, words_of, Found, least_fault, JoinedLine, joined_bytes, joined_part, lines_of, physical_lines}

abbrev numbered : ℕ → List (List ℕ) → JoinedLine
numbered n words = record { number = n; words = words }

-- words are separated by spaces, tabs and CRs
blanks : words_of (32 ∷ 97 ∷ 98 ∷ 9 ∷ 13 ∷ 99 ∷ 32 ∷ []) ≡ codes "ab" ∷ codes "c" ∷ []
blanks = refl

-- the last line needs no LF
lines_end : physical_lines (codes "a\n\nb") ≡ codes "a" ∷ [] ∷ codes "b" ∷ []
lines_end = refl

lf_at_end : physical_lines (codes "a\n") ≡ codes "a" ∷ []
lf_at_end = refl

-- a comment and the blanks before it are cut, and the final `\` becomes a blank
cuts : joined_part (codes "a b \\ # c") ≡ codes "a b  "
cuts = refl

-- blanks before the `\` are kept, and count towards the length
joins : joined_bytes ((1, codes "a \\") ∷ (2, codes "b ") ∷ []) ≡ codes "a  b"
joins = refl

continued_and_commented : lines_of (codes "a \\\nb # c\n\n# only\nd") ≡ Ok (numbered 1 (codes "a" ∷ codes "b" ∷ []) ∷ numbered 5 (codes "d" ∷ []) ∷ [])
unfolding lines_of
continued_and_commented = refl

-- no word spans two physical lines
parted : lines_of (codes "ab\\\ncd") ≡ Ok (numbered 1 (codes "ab" ∷ codes "cd" ∷ []) ∷ [])
unfolding lines_of
parted = refl

-- a `\` in a comment continues nothing
commented_backslash : lines_of (codes "a # \\\nb") ≡ Ok (numbered 1 (codes "a" ∷ []) ∷ numbered 2 (codes "b" ∷ []) ∷ [])
unfolding lines_of
commented_backslash = refl

-- only the last `\` continues the line, and a `\` before it belongs to its word
two_backslashes : lines_of (codes "a\\\\\nb\\c") ≡ Ok (numbered 1 (codes "a\\" ∷ codes "b\\c" ∷ []) ∷ [])
unfolding lines_of
two_backslashes = refl

-- a final `\` with nothing after it
final_backslash : lines_of (codes "a \\") ≡ Ok (numbered 1 (codes "a" ∷ []) ∷ [])
unfolding lines_of
final_backslash = refl

-- a line that is `\` alone can be the first of a joined line
backslash_alone : lines_of (codes "\\\na") ≡ Ok (numbered 1 (codes "a" ∷ []) ∷ [])
unfolding lines_of
backslash_alone = refl

-- a CR before LF is a blank, also after a `\`
cr_lf : lines_of (97 ∷ 32 ∷ 92 ∷ 13 ∷ 10 ∷ 98 ∷ 13 ∷ 10 ∷ 99 ∷ []) ≡ Ok (numbered 1 (codes "a" ∷ codes "b" ∷ []) ∷ numbered 3 (codes "c" ∷ []) ∷ [])
unfolding lines_of
cr_lf = refl

no_words : lines_of (codes "\n \\\n\n# a\n") ≡ Ok []
unfolding lines_of
no_words = refl

-- a byte 128 is allowed in a comment, and elsewhere its own physical line is reported
in_comment : lines_of (97 ∷ 35 ∷ 128 ∷ []) ≡ Ok (numbered 1 (codes "a" ∷ []) ∷ [])
unfolding lines_of
in_comment = refl

outside_comment : lines_of (97 ∷ 92 ∷ 10 ∷ 128 ∷ 10 ∷ 129 ∷ []) ≡ Err (NotAscii 2)
unfolding lines_of
outside_comment = refl

-- a control byte is reported in the same way, and so is the byte 127
control_byte : lines_of (10 ∷ 7 ∷ []) ≡ Err (NotAscii 2)
unfolding lines_of
control_byte = refl

delete_byte : lines_of (127 ∷ []) ≡ Err (NotAscii 1)
unfolding lines_of
delete_byte = refl

nine_digits : whole_of (codes "012345678") ≡ Some 12345678
nine_digits = refl

ten_digits : whole_of (codes "0123456789") ≡ None
ten_digits = refl

no_digit : whole_of [] ≡ None
no_digit = refl

largest_32 : decimal_of 32 (codes "00000000004294967295") ≡ Some 4294967295
largest_32 = refl

above_32 : decimal_of 32 (codes "4294967296") ≡ None
above_32 = refl

signed : decimal_of 64 (codes "+1") ≡ None
signed = refl

half : millionths_of (codes ".5") ≡ Some 500000
half = refl

one_and_point : millionths_of (codes "01.") ≡ Some 1000000
one_and_point = refl

largest : millionths_of (codes "1000000.999999") ≡ Some 1000000999999
largest = refl

above_a_million : millionths_of (codes "1000001") ≡ None
above_a_million = refl

seven_places : millionths_of (codes "0.0000001") ≡ None
seven_places = refl

point_alone : millionths_of (codes ".") ≡ None
point_alone = refl

two_points : millionths_of (codes "1.2.3") ≡ None
two_points = refl

-- the least fault, whatever the order of the list: on one line that of the first word, and those of
-- the end after all lines
abbrev found : Bool → ℕ → ℕ → ℕ → ℕ → Found ℕ
found at_end line number word fault = record { at_end = at_end; line = line; number = number; word = word; fault = fault }

least_word : least_fault (found false 3 5 1 10 ∷ found false 3 5 0 11 ∷ found true 1 2 0 12 ∷ []) ≡ Some 11
least_word = refl

least_word_swapped : least_fault (found true 1 2 0 12 ∷ found false 3 5 0 11 ∷ found false 3 5 1 10 ∷ []) ≡ Some 11
least_word_swapped = refl

least_number : least_fault (found false 3 5 0 10 ∷ found false 3 4 7 11 ∷ []) ≡ Some 11
least_number = refl

least_line : least_fault (found false 3 1 0 10 ∷ found false 2 9 0 11 ∷ []) ≡ Some 11
least_line = refl
