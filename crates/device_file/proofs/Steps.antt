-- One word or line before others.
use Rattle.device_file.proofs.Prelude.{◌≡◌, ℕ, ◌+◌, List, [], ◌∷◌, map, Result, Ok, Err, Option, Some, None, Bool, true, false, ◌||◌, cond, refl, sym, ap, ◌∙◌, list_any, TextError, NoMemory, Fault, DeviceFileFault, NoValue, FoundFault, Given, Read, Step, Unfinished, all_values, begins_comment, line_read, lines_read, then_read, values_at_end, word_read, words_read, IsError, Refuses}

-- a word
pub comment_begun : (read : Read) (line : ℕ) (word : List ℕ) (words : List (List ℕ)) → begins_comment word ≡ true → words_read (word ∷ words) read line ≡ Ok read
unfolding words_read
comment_begun read line word words begun = ap (λ t. cond t (Ok read) (then_read (words_read words) line (word_read read word line))) begun

pub word_taken : (read new : Read) (line : ℕ) (word : List ℕ) (words : List (List ℕ)) → begins_comment word ≡ false → word_read read word line ≡ Ok new → words_read (word ∷ words) read line ≡ words_read words new line
unfolding words_read
word_taken read new line word words plain is =
    ap (λ t. cond t (Ok read) (then_read (words_read words) line (word_read read word line))) plain ∙ ap (then_read (words_read words) line) is

pub word_refused : (read : Read) (line : ℕ) (word : List ℕ) (words : List (List ℕ)) (error : TextError DeviceFileFault) → begins_comment word ≡ false → IsError (word_read read word line) error → IsError (words_read (word ∷ words) read line) error
unfolding words_read
word_refused read line word words NoMemory plain is = tt
word_refused read line word words (Fault fault) plain is =
    ap (λ t. cond t (Ok read) (then_read (words_read words) line (word_read read word line))) plain ∙ ap (then_read (words_read words) line) is

pub no_words : (read : Read) (line : ℕ) → words_read [] read line ≡ Ok read
unfolding words_read
no_words read line = refl

-- a line
pub line_taken : (read new : Read) (number : ℕ) (line : List ℕ) (lines : List (List ℕ)) → line_read read line (number + 1) ≡ Ok new → lines_read (line ∷ lines) read number ≡ lines_read lines new (number + 1)
unfolding lines_read
line_taken read new number line lines is = ap (then_read (lines_read lines) (number + 1)) is

pub line_refused : (read : Read) (number : ℕ) (line : List ℕ) (lines : List (List ℕ)) (error : TextError DeviceFileFault) → IsError (line_read read line (number + 1)) error → IsError (lines_read (line ∷ lines) read number) error
unfolding lines_read
line_refused read number line lines NoMemory is = tt
line_refused read number line lines (Fault fault) is = ap (then_read (lines_read lines) (number + 1)) is

pub no_lines : (read : Read) (number : ℕ) → lines_read [] read number ≡ Ok read
unfolding lines_read
no_lines read number = refl

-- an error stays one with what follows
pub same_error : {A : Type 0} (meant other : Result A FoundFault) (error : TextError DeviceFileFault) → meant ≡ other → IsError other error → IsError meant error
same_error meant other NoMemory same is = tt
same_error meant other (Fault fault) same is = same ∙ is

pub value_missing : (values : List Given) (awaited : Unfinished) (error : TextError DeviceFileFault) → Refuses awaited.line NoValue awaited.name error → IsError (all_values values (Some awaited)) error
value_missing values awaited (Fault fault) is = ap Err (sym is)
value_missing values awaited NoMemory is = absurd is

pub at_end : (meant : Step) (error : TextError DeviceFileFault) → IsError meant error → IsError (values_at_end meant) error
at_end meant NoMemory is = tt
at_end meant (Fault fault) is = ap values_at_end is

-- a test over what elements are mapped to
pub any-map : {X Y : Type 0} (p : Y → Bool) (f : X → Y) (xs : List X) → list_any p (map f xs) ≡ list_any (λ x. p (f x)) xs
any-map p f [] = refl
any-map p f (x ∷ xs) = ap (λ b. p (f x) || b) (any-map p f xs)
