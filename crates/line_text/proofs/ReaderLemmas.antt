-- The lines that a reader stores, as words are appended.
use Rattle.line_text.proofs.Prelude.{◌≡◌, ℕ, zero, suc, ◌+◌, ◌<◌, ◌≤◌, true, false, List, [], ◌∷◌, ◌++◌, length, drop, map, Some, Result, Ok, Err, refl, ap, ◌∙◌, arith, length-drop, OnOk, IfErr, length-append, length-take, append-nil, length-map, take-append-le, drop-append-le, Span, LineFault, LineTooLong, TextError, NoMemory, is_filled, words_of, MAX_LINE, JoinedLine, ends_in_backslash, without_last, without_comment, trim_end, is_not_ascii, OpenLine, Reading, line_to_extend, lines_with, reading_after, AreWithin, seen_line, seen_lines, IsReadOn}
use Rattle.line_text.proofs.OnePass.{blanked, words_of-blank}

same_line : (words more : List (List ℕ)) (span : Span) → span.start ≤ span.end → span.end ≤ length words → seen_line (words ++ more) span ≡ seen_line words span
same_line words more span s e = grind (arith, drop-append-le, take-append-le, length-drop)

-- appending words changes no line
pub seen_lines-append : (words more : List (List ℕ)) (spans : List Span) → AreWithin (length words) spans → seen_lines (words ++ more) spans ≡ seen_lines words spans
seen_lines-append words more [] h = refl
seen_lines-append words more (span ∷ spans) h =
    ap (λ line. line ∷ seen_lines (words ++ more) spans) (same_line words more span (h 0 span (omega arith)).0 (h 0 span (omega arith)).1)
    ∙ ap (λ lines. seen_line words span ∷ lines) (seen_lines-append words more spans (λ k d l. h (suc k) d (omega arith)))

is_filled-drop : {X : Type 0} (n : ℕ) (xs : List X) → n < length xs → is_filled (drop n xs) ≡ true
is_filled-drop zero [] h = absurd (omega arith)
is_filled-drop zero (x ∷ xs) h = refl
is_filled-drop (suc n) [] h = absurd (omega arith)
is_filled-drop (suc n) (x ∷ xs) h = is_filled-drop n xs (omega arith)

-- an open line with words and too many bytes
pub ended-too_long : (done : List JoinedLine) (words : List (List ℕ)) (n start count : ℕ) → start < length words → MAX_LINE < count → lines_with done (record { number = n; words = drop start words; count = count }) ≡ Err (LineTooLong n)
ended-too_long done words n start count h l = grind (arith, is_filled-drop)

pub started_within : {X Y : Type 0} (f : X → Y) (xs : List X) (n m : ℕ) → n ≤ length xs → (n ≡ m → ⊥) → m ≡ length xs → n < length (map f xs)
started_within f xs n m h ne e = omega (arith, length-map xs f)

pub AreWithin-map : {X Y : Type 0} (f : X → Y) (xs : List X) (spans : List Span) → AreWithin (length xs) spans → AreWithin (length (map f xs)) spans
AreWithin-map f xs spans h = λ k d l. ((h k d l).0, omega (arith, (h k d l).1, length-map xs f))

pub from_three : {T E : Type 0} (r : Result T E) (P Q R S : Type 0) → OnOk r P → OnOk r Q → OnOk r R → (P → Q → R → S) → OnOk r S
from_three r P Q R S p q h3 f = grind arith

-- a step that can fail only if memory runs out
pub read_on : (r : Result (Unit {0}) (TextError LineFault)) (old new : Reading) (n : ℕ) (physical : List ℕ) → OnOk r (reading_after old n physical ≡ Ok new) → IfErr r (λ e. e ≡ NoMemory) → IsReadOn old n physical r new
read_on r old new n physical h e = grind arith

same_words : (bytes : List ℕ) → ends_in_backslash bytes ≡ true → (words_of (blanked bytes) ≡ words_of (without_last bytes)) × (length (blanked bytes) ≡ length bytes)
same_words [] e = absurd (cc)
same_words (x ∷ xs) e = grind (arith, words_of-blank, append-nil, length-append, length-take)

-- a physical line that is continued
pub after-continued : (old new : Reading) (n : ℕ) (physical bytes before : List ℕ) (mid last : OpenLine) → is_not_ascii physical ≡ false → mid ≡ line_to_extend old.unfinished n → bytes ≡ trim_end (without_comment physical) → ends_in_backslash bytes ≡ true → before ≡ without_last bytes → last ≡ record { number = mid.number; words = mid.words ++ words_of before; count = mid.count + length bytes } → new.done ≡ old.done → new.unfinished ≡ Some last → reading_after old n physical ≡ Ok new
after-continued old new n physical bytes before mid last ascii m b e w l d u = grind (arith, same_words)
