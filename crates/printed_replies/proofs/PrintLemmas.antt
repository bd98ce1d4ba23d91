-- What is printed for lines is read back.
use Rattle.printed_replies.proofs.Prelude.{◌≡◌, ℕ, Bool, true, false, cond, ◌||◌, List, [], ◌∷◌, ◌++◌, map, fold, Ok, Some, None, refl, ap, ◌∙◌, append_assoc, arith, flat_map, false≢true, list_any-append, bytes_eq-Decides, drop-append_seam, take-append_seam, has_name, with_name, HasReply, HaveReplies, IsReadBack, IsReply, asked_in, printed_for, section_of, told_to, AnsweredLine, AskedLine, Speaker, and_then, heading, is_of, lines_read, live_after, names_of, read_from, replies_in, reply_read, rest_of, section_read, sections_read, without_reply, with_speaker}
use Rattle.printed_replies.proofs.BehindLemmas.{behind-append}

-- the lines after the sections of some speakers are read
abbrev shown : (Speaker → Bool) → AnsweredLine → AnsweredLine
shown done line = cond (done line.asked.speaker) line (without_reply line.asked)

abbrev also : Speaker → (Speaker → Bool) → Speaker → Bool
also speaker done other = is_of speaker other || done other

-- a reply that the bytes begin with is read
reply_is_read : (live : ℕ) (line : AnsweredLine) (tail : List ℕ) → IsReply live line.asked.form line.reply →
    reply_read (rest_of live (line.reply ++ tail)) line.asked ≡ Ok (line, rest_of (live_after live line.asked.form line.reply) tail)
reply_is_read live line tail is = grind (arith, take-append_seam, drop-append_seam)

-- what a speaker's lines are read to, if they are printed so
record IsRead (speaker : Speaker) (done : Speaker → Bool) (live : ℕ) (lines : List AnsweredLine) (tail : List ℕ) : Type 0 where
  last : ℕ
  read : lines_read speaker (rest_of live (told_to speaker lines ++ tail)) (map (shown done) lines) ≡ Ok (map (shown (also speaker done)) lines, rest_of last tail)

one_read : (speaker : Speaker) (done : Speaker → Bool) (live : ℕ) (line : AnsweredLine) (lines : List AnsweredLine) (tail : List ℕ) (b : Bool) → is_of speaker line.asked.speaker ≡ b →
    HasReply b live line (λ next. HaveReplies speaker next lines) → ((next : ℕ) → HaveReplies speaker next lines → IsRead speaker done next lines tail) → IsRead speaker done live (line ∷ lines) tail
one_read speaker done live line lines tail b e has more = grind (arith, append_assoc, reply_is_read)

lines_are_read : (speaker : Speaker) (done : Speaker → Bool) (live : ℕ) (lines : List AnsweredLine) (tail : List ℕ) → HaveReplies speaker live lines → IsRead speaker done live lines tail
lines_are_read speaker done live [] tail has = record { last = live; read = refl }
lines_are_read speaker done live (line ∷ lines) tail has =
    one_read speaker done live line lines tail (is_of speaker line.asked.speaker) refl has (λ next more. lines_are_read speaker done next lines tail more)

-- a section that is printed is read
record IsSection (speaker : Speaker) (done : Speaker → Bool) (lines : List AnsweredLine) (tail : List ℕ) : Type 0 where
  last : ℕ
  read : section_read speaker (map (shown done) lines) (section_of speaker lines ++ tail) ≡ Ok (map (shown (also speaker done)) lines, rest_of last tail)

section_is_read : (speaker : Speaker) (done : Speaker → Bool) (lines : List AnsweredLine) (tail : List ℕ) → HaveReplies speaker 0 lines → IsSection speaker done lines tail
section_is_read speaker done lines tail has = grind (arith, append_assoc, behind-append, lines_are_read speaker done 0 lines tail has, append_assoc (heading speaker) (told_to speaker lines) tail, behind-append (heading speaker) (told_to speaker lines ++ tail))

-- and so are those of all names
abbrev all_of : List (List ℕ) → (Speaker → Bool) → Speaker → Bool
all_of [] done = done
all_of (name ∷ names) done = all_of names (also (Some name) done)

sections_are_read : (names : List (List ℕ)) (done : Speaker → Bool) (lines : List AnsweredLine) → ((speaker : Speaker) → HaveReplies speaker 0 lines) →
    sections_read names (map (shown done) lines) (flat_map (λ name. section_of (Some name) lines) names) ≡ Ok (map (shown (all_of names done)) lines)
sections_are_read [] done lines has = refl
sections_are_read (name ∷ names) done lines has =
    let one = section_is_read (Some name) done lines (flat_map (λ n. section_of (Some n) lines) names) (has (Some name)) in
    ap (λ r. and_then r (λ read. sections_read names read.0 read.1.bytes)) one.read
    ∙ sections_are_read names (also (Some name) done) lines has

-- a section that is read stays read
or_true : (b : Bool) → (b || true) ≡ true
or_true b = grind arith

stays_read : (names : List (List ℕ)) (done : Speaker → Bool) (other : Speaker) → done other ≡ true → all_of names done other ≡ true
stays_read [] done other is = is
stays_read (name ∷ names) done other is = stays_read names (also (Some name) done) other (ap (λ b. is_of (Some name) other || b) is ∙ or_true (is_of (Some name) other))

named_is_read : (names : List (List ℕ)) (done : Speaker → Bool) (name : List ℕ) → has_name names name ≡ true → all_of names done (Some name) ≡ true
named_is_read [] done name is = absurd (false≢true is)
named_is_read (first ∷ names) done name is = grind (arith, stays_read, bytes_eq-Decides, named_is_read names (also (Some first) done) name)

-- a name is among the names from its first line on
has_own : (names : List (List ℕ)) (name : List ℕ) → has_name (with_name names name) name ≡ true
has_own names name = grind (arith, list_any-append, bytes_eq-Decides)

keeps_name : (names : List (List ℕ)) (speaker : Speaker) (name : List ℕ) → has_name names name ≡ true → has_name (with_speaker names speaker) name ≡ true
keeps_name names speaker name has = grind (arith, list_any-append)

abbrev names_from : List (List ℕ) → List AskedLine → List (List ℕ)
names_from names asked = fold (λ names line. with_speaker names line.speaker) names asked

keeps_names : (asked : List AskedLine) (names : List (List ℕ)) (name : List ℕ) → has_name names name ≡ true → has_name (names_from names asked) name ≡ true
keeps_names [] names name has = has
keeps_names (line ∷ asked) names name has = keeps_names asked (with_speaker names line.speaker) name (keeps_name names line.speaker name has)

-- so in the end each line is read
each_is_read : (lines : List AnsweredLine) (names : List (List ℕ)) (done : Speaker → Bool) → done None ≡ true →
    ((name : List ℕ) → has_name (names_from names (asked_in lines)) name ≡ true → done (Some name) ≡ true) → map (shown done) lines ≡ lines
each_is_read [] names done none some = refl
each_is_read (line ∷ lines) names done none some =
    ap (λ b. cond b line (without_reply line.asked) ∷ map (shown done) lines) (by_speaker line.asked.speaker some)
    ∙ ap (λ ls. line ∷ ls) (each_is_read lines (with_speaker names line.asked.speaker) done none some)
  where
    by_speaker : (speaker : Speaker) → ((name : List ℕ) → has_name (names_from (with_speaker names speaker) (asked_in lines)) name ≡ true → done (Some name) ≡ true) → done speaker ≡ true
    by_speaker None more = none
    by_speaker (Some name) more = more name (keeps_names (asked_in lines) (with_name names name) name (has_own names name))

none_read : (lines : List AnsweredLine) → map without_reply (asked_in lines) ≡ map (shown (λ speaker. false)) lines
none_read [] = refl
none_read (line ∷ lines) = ap (λ ls. without_reply line.asked ∷ ls) (none_read lines)

pub read_back : (lines : List AnsweredLine) → IsReadBack lines
unfolding replies_in
read_back lines has =
    let names = names_of (asked_in lines) in
    let operator = also None (λ speaker. false) in
    let one = section_is_read None (λ speaker. false) lines (flat_map (λ n. section_of (Some n) lines) names) (has None) in
    ap (λ ls. read_from names ls (printed_for lines)) (none_read lines)
    ∙ ap (λ r. and_then r (λ read. sections_read names read.0 read.1.bytes)) one.read
    ∙ sections_are_read names operator lines has
    ∙ ap Ok (each_is_read lines [] (all_of names operator) (stays_read names operator None refl) (λ name is. named_is_read names operator name is))
