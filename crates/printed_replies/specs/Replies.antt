-- The printed text for the lines of a script, taken apart into replies.
use Rattle.std.specs.Prelude.{ℕ, ◌≡◌, ◌+◌, ◌-◌, Bool, true, false, if◌then◌else◌, List, [], ◌∷◌, ◌++◌, length, take, drop, map, fold, count_by, codes, is_some, Option, Some, None, option_map, Result, Ok, Err, ⊤}
use Rattle.std.specs.Str.{bytes_eq}
use Rattle.line_text.specs.Names.{with_name}
use Rattle.printed_replies.specs.declared.asked.Asked.{Asked}
use Rattle.printed_replies.specs.declared.asked.ReplyForm.{ReplyForm}
use Rattle.printed_replies.specs.declared.asked.ReplyForm.TheVariants.{Admission, Eviction}
use Rattle.printed_replies.specs.declared.answered.Answered.{Answered}
use Rattle.line_text.specs.declared.text_error.TextError.{TextError}
use Rattle.line_text.specs.declared.text_error.TextError.TheVariants.{NoMemory, Fault}
use Rattle.printed_replies.specs.Lengths.{after_prefix, is_line_feed, reply_length}

-- a line's speaker: the session of a name, or the operator
abbrev pub Speaker : Type 0
Speaker = Option (List ℕ)

-- a line by its speaker, and the form of its reply
pub record AskedLine : Type 0 where
  pub speaker : Speaker
  pub form : ReplyForm

-- and its reply
pub record AnsweredLine : Type 0 where
  pub asked : AskedLine
  pub reply : List ℕ

-- the number of live tenancies, and the remaining bytes
pub record Rest : Type 0 where
  pub live : ℕ
  pub bytes : List ℕ

abbrev pub rest_of : ℕ → List ℕ → Rest
rest_of live bytes = record { live = live; bytes = bytes }

-- what was read, or the number of bytes that remained when they didn't fit the lines
abbrev pub Reading : Type 0 → Type 0
Reading A = Result A ℕ

abbrev pub and_then : {A B : Type 0} → Reading A → (A → Reading B) → Reading B
and_then (Ok a) next = next a
and_then (Err left) next = Err left

-- the next bytes are read, if they fit
abbrev pub if_fitting : {A : Type 0} → Rest → Option ℕ → (ℕ → Reading A) → Reading A
if_fitting rest None next = Err (length rest.bytes)
if_fitting rest (Some n) next = next n

abbrev pub is_of : Speaker → Speaker → Bool
is_of None None = true
is_of (Some name) (Some other) = bytes_eq name other
is_of speaker other = false

-- an admission with a reply `ok ..` adds a live tenancy, and an eviction removes one
abbrev pub live_after : ℕ → ReplyForm → List ℕ → ℕ
live_after live Admission reply = if is_some (after_prefix (codes "ok") reply) then live + 1 else live
live_after live Eviction reply = if is_some (after_prefix (codes "ok") reply) then live - 1 else live
live_after live form reply = live

-- a line takes its reply from the bytes
abbrev pub with_reply : AskedLine → List ℕ → AnsweredLine
with_reply asked reply = record { asked = asked; reply = reply }

abbrev pub reply_read : Rest → AskedLine → Reading (AnsweredLine × Rest)
reply_read rest asked = if_fitting rest (reply_length rest.live asked.form rest.bytes) (λ n.
    Ok (with_reply asked (take n rest.bytes), rest_of (live_after rest.live asked.form (take n rest.bytes)) (drop n rest.bytes)))

-- a line of another speaker is left as it is
abbrev pub line_read : Speaker → Rest → AnsweredLine → Reading (AnsweredLine × Rest)
line_read speaker rest line = if is_of speaker line.asked.speaker then reply_read rest line.asked else Ok (line, rest)

abbrev pub with_line : AnsweredLine → Reading (List AnsweredLine × Rest) → Reading (List AnsweredLine × Rest)
with_line line (Ok read) = Ok (line ∷ read.0, read.1)
with_line line (Err left) = Err left

-- a speaker's lines take their replies one after another
abbrev pub lines_read : Speaker → Rest → List AnsweredLine → Reading (List AnsweredLine × Rest)
lines_read speaker rest [] = Ok ([], rest)
lines_read speaker rest (line ∷ lines) = and_then (line_read speaker rest line) (λ read. with_line read.0 (lines_read speaker read.1 lines))

-- a section begins with its heading
abbrev pub speaker_text : Speaker → List ℕ
speaker_text None = codes "op"
speaker_text (Some name) = name

abbrev pub heading : Speaker → List ℕ
heading speaker = codes "== " ++ speaker_text speaker ++ 10 ∷ []

abbrev pub reading_after : List ℕ → Option (List ℕ) → Reading Rest
reading_after bytes None = Err (length bytes)
reading_after bytes (Some rest) = Ok (rest_of 0 rest)

abbrev pub after_heading : Speaker → List ℕ → Reading Rest
after_heading speaker bytes = reading_after bytes (after_prefix (heading speaker) bytes)

abbrev pub section_read : Speaker → List AnsweredLine → List ℕ → Reading (List AnsweredLine × Rest)
section_read speaker lines bytes = and_then (after_heading speaker bytes) (λ rest. lines_read speaker rest lines)

-- the sections of the names follow one after the other, up to the end
abbrev pub lines_at_end : List AnsweredLine → List ℕ → Reading (List AnsweredLine)
lines_at_end lines [] = Ok lines
lines_at_end lines (b ∷ bytes) = Err (length (b ∷ bytes))

abbrev pub sections_read : List (List ℕ) → List AnsweredLine → List ℕ → Reading (List AnsweredLine)
sections_read [] lines bytes = lines_at_end lines bytes
sections_read (name ∷ names) lines bytes = and_then (section_read (Some name) lines bytes) (λ read. sections_read names read.0 read.1.bytes)

-- the names in the order of their first lines
abbrev pub with_speaker : List (List ℕ) → Speaker → List (List ℕ)
with_speaker names None = names
with_speaker names (Some name) = with_name names name

abbrev pub names_of : List AskedLine → List (List ℕ)
names_of asked = fold (λ names line. with_speaker names line.speaker) [] asked

-- each line with its reply, if the bytes are the operator's section and those of the names
abbrev pub without_reply : AskedLine → AnsweredLine
without_reply asked = with_reply asked []

abbrev pub read_from : List (List ℕ) → List AnsweredLine → List ℕ → Reading (List AnsweredLine)
read_from names lines bytes = and_then (section_read None lines bytes) (λ read. sections_read names read.0 read.1.bytes)

unfoldable pub replies_in : List AskedLine → List ℕ → Reading (List AnsweredLine)
replies_in asked bytes = read_from (names_of asked) (map without_reply asked) bytes

-- the number of the line, from 1, at which that many bytes remain
abbrev pub line_at : List ℕ → ℕ → ℕ
line_at bytes left = count_by is_line_feed (take (length bytes - left) bytes) + 1

-- the values of lines: names and replies as lists of bytes
abbrev pub asked_line : Asked → AskedLine
asked_line asked = record { speaker = option_map (λ name. name.now) asked.name; form = asked.form }

abbrev pub answered_line : Answered → AnsweredLine
answered_line answered = record { asked = asked_line answered.asked; reply = answered.reply.now }

-- the possible results of a reader of the lines
abbrev pub Gives : List ℕ → Reading (List AnsweredLine) → Result (List AnsweredLine) (TextError ℕ) → Type 0
Gives bytes meant (Ok lines) = meant ≡ Ok lines
Gives bytes meant (Err (Fault line)) = (left : ℕ) × (meant ≡ Err left) × (line ≡ line_at bytes left)
Gives bytes meant (Err NoMemory) = ⊤
