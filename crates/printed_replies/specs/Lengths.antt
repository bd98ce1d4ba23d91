-- How many bytes a reply has, by its form and by the bytes themselves.
use Rattle.std.specs.Prelude.{ℕ, ◌+◌, ◌-◌, Bool, ◌==◌, nat_le, if◌then◌else◌, List, [], ◌∷◌, length, take, drop, position, codes, Option, Some, None, option_map, option_and_then, unwrap_or, suc, zero}
use Rattle.std.specs.List.{before_first, after_first}
use Rattle.line_text.specs.Decimal.{decimal_of}
use Rattle.line_text.specs.Words.{is_blank}
use Rattle.printed_replies.specs.declared.asked.ReplyForm.{ReplyForm}
use Rattle.printed_replies.specs.declared.asked.ReplyForm.TheVariants.{Silence, Line, Session, Admission, Eviction, Lines, Tenancies, Owners}

abbrev pub is_line_feed : ℕ → Bool
is_line_feed byte = byte == 10

-- the length of the first line with its line feed; `None` if there is no line feed
abbrev pub line_length : List ℕ → Option ℕ
line_length bytes = option_map (λ place. place + 1) (position is_line_feed bytes)

-- the length of the first `count` lines
abbrev pub lines_length : ℕ → List ℕ → Option ℕ
lines_length zero bytes = Some 0
lines_length (suc count) bytes = option_and_then (λ first. option_map (λ more. first + more) (lines_length count (drop first bytes))) (line_length bytes)

-- the bytes after a prefix; `None` if they don't begin with it
abbrev pub after_prefix : List ℕ → List ℕ → Option (List ℕ)
after_prefix [] bytes = Some bytes
after_prefix (a ∷ start) [] = None
after_prefix (a ∷ start) (b ∷ bytes) = if a == b then after_prefix start bytes else None

-- the kind and the length from `KIND LENGTH`
abbrev pub kind_and_length : List ℕ → Option (List ℕ × ℕ)
kind_and_length words = option_map (λ n. (before_first is_blank words, n)) (decimal_of 64 (after_first is_blank words))

-- a line `text KIND LENGTH` announces a file of that kind: the next LENGTH bytes
abbrev pub told_file : List ℕ → Option (List ℕ × ℕ)
told_file line = option_and_then kind_and_length (after_prefix (codes "text ") line)

abbrev pub told_bytes : Option (List ℕ × ℕ) → ℕ
told_bytes None = 0
told_bytes (Some told) = told.1

-- a line `owners COUNT` announces COUNT lines after it
abbrev pub told_owners : List ℕ → ℕ
told_owners line = unwrap_or (option_and_then (decimal_of 64) (after_prefix (codes "owners ") line)) 0

-- the first line without its line feed, if `n` bytes include it
abbrev pub line_of : ℕ → List ℕ → List ℕ
line_of n bytes = take (n - 1) bytes

-- the number of bytes, if there are as many
abbrev pub number_within : List ℕ → ℕ → Option ℕ
number_within bytes n = if nat_le n (length bytes) then Some n else None

-- the length of a line with the file that it announces
abbrev pub session_length : List ℕ → Option ℕ
session_length bytes = option_and_then (λ n. number_within bytes (n + told_bytes (told_file (line_of n bytes)))) (line_length bytes)

-- the length of a line with the lines that it announces
abbrev pub owners_length : List ℕ → Option ℕ
owners_length bytes = option_and_then (λ n. option_map (λ more. n + more) (lines_length (told_owners (line_of n bytes)) (drop n bytes))) (line_length bytes)

-- the length of the reply at the start of the bytes, while `live` tenancies are live
abbrev pub reply_length : ℕ → ReplyForm → List ℕ → Option ℕ
reply_length live Silence bytes = Some 0
reply_length live Line bytes = line_length bytes
reply_length live Session bytes = session_length bytes
reply_length live Admission bytes = line_length bytes
reply_length live Eviction bytes = line_length bytes
reply_length live (Lines count) bytes = lines_length count bytes
reply_length live Tenancies bytes = lines_length live bytes
reply_length live Owners bytes = owners_length bytes
