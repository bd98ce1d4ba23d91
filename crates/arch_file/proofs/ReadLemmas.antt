-- What reading one line adds to the draft.
use Rattle.arch_file.proofs.Prelude.{◌≡◌, ◌∙◌, ℕ, ◌<◌, ◌≤◌, List, [], ◌∷◌, ◌++◌, Bool, true, false, cond, not, Option, Some, None, Result, Ok, Err, refl, ap, sym, arith, get_or, set, option_map_or, option_or, option_to_list, append-nil, JoinedLine, with_first, Pin, Draft, TextError, NoMemory, Fault, ArchFaultKind, Unknown, ArchKeyword, Segment, first_word_faults, pin_after, pin_of_words, pins_of, words_at, AddsPin, Follows, FollowsLines, Reads, ReadsKeyword, Sets, found_with, only_if, least_kind, has_side, is_clock_class, is_input_class, pin_in, pin_line_faults, segment_faults, value_faults, rank_of, is_pin_keyword, is_unread, keyword_of, same_keyword}
use Rattle.arch_file.proofs.DraftLemmas.{Follows-mark, Follows-set}
use Rattle.arch_file.proofs.LineLemmas.{Follows-add, Follows-same, keyword_faults-pin, keyword_faults-segment, keyword_faults-value, no_pin, one_pin, pin_rank, pins_of-push, segment_pin, segment_rank, words_at-push}

-- the draft with a keyword marked
abbrev pub marked : Draft → ArchKeyword → Draft
marked draft keyword = record draft { stands = set draft.stands (rank_of keyword) true }

pub reads_value : (before : List JoinedLine) (keyword : ArchKeyword) (words : List (List ℕ)) (old mid new : Draft) → FollowsLines old before → is_pin_keyword keyword ≡ false → same_keyword keyword Segment ≡ false → get_or old.stands (rank_of keyword) false ≡ false → value_faults keyword words ≡ [] → Sets old keyword words mid → new ≡ marked mid keyword → ReadsKeyword before keyword words (Ok tt) new
reads_value before keyword words old mid new follows pin segment fresh faults sets mark = (
  keyword_faults-value before keyword words false pin segment (sym (follows.stands keyword) ∙ fresh) ∙ faults,
  rw mark (Follows-same (marked mid keyword) (found_with (λ other. words_at other before) keyword words) (found_with (λ other. words_at other before) keyword words)
      (pins_of before) (pins_of before ++ option_to_list (pin_after (Some keyword) words)) (λ _. refl) (sym (no_pin (pins_of before) keyword words pin))
      (Follows-set old mid (λ other. words_at other before) (pins_of before) keyword words fresh follows sets)),
)

pub reads_segment : (before : List JoinedLine) (keyword : ArchKeyword) (words : List (List ℕ)) (old new : Draft) → FollowsLines old before → same_keyword keyword Segment ≡ true → segment_faults (get_or old.stands (rank_of keyword) false) words ≡ [] → new ≡ marked old keyword → ReadsKeyword before keyword words (Ok tt) new
reads_segment before keyword words old new follows segment faults mark =
    let pin = segment_pin keyword segment in
    let high : 11 ≤ rank_of keyword = omega (arith, segment_rank keyword segment) in (
      keyword_faults-segment before keyword words (get_or old.stands (rank_of keyword) false) pin segment (sym (follows.stands keyword)) ∙ faults,
      rw mark (Follows-same (marked old keyword) (found_with (λ other. words_at other before) keyword words) (found_with (λ other. words_at other before) keyword words)
          (pins_of before) (pins_of before ++ option_to_list (pin_after (Some keyword) words)) (λ _. refl) (sym (no_pin (pins_of before) keyword words pin))
          (Follows-mark old (λ other. words_at other before) (pins_of before) keyword words high follows)),
    )

pub reads_pin : (before : List JoinedLine) (keyword : ArchKeyword) (words : List (List ℕ)) (old mid new : Draft) (pin : Pin) → FollowsLines old before → is_pin_keyword keyword ≡ true → pin_line_faults (pins_of before) keyword words ≡ [] → pin_in words ≡ Some pin → AddsPin old pin mid → has_side pin.sides ≡ true → (is_clock_class pin.class ≡ true → old.has_clock ≡ false) → (is_input_class pin.class ≡ true → old.inputs < 128) → new ≡ marked mid keyword → ReadsKeyword before keyword words (Ok tt) new
reads_pin before keyword words old mid new pin follows is_pin faults is adds sides clock room mark = (
  keyword_faults-pin before keyword words is_pin ∙ faults,
  rw mark (Follows-same (marked mid keyword) (found_with (λ other. words_at other before) keyword words) (found_with (λ other. words_at other before) keyword words)
      (pins_of before ++ pin ∷ []) (pins_of before ++ option_to_list (pin_after (Some keyword) words)) (λ _. refl) (sym (one_pin (pins_of before) keyword words pin is_pin is))
      (Follows-mark mid (λ other. words_at other before) (pins_of before ++ pin ∷ []) keyword words (pin_rank keyword is_pin)
      (Follows-add old mid (λ other. words_at other before) (pins_of before) pin follows adds sides clock room))),
)

-- a draft that holds these lines and one more line's words holds all of the lines
pub lines_more : (draft : Draft) (before : List JoinedLine) (line : JoinedLine) → Follows draft (λ other. option_or (words_at other before) (words_at other (line ∷ []))) (pins_of before ++ option_to_list (pin_of_words line.words)) → FollowsLines draft (before ++ line ∷ [])
lines_more draft before line follows =
    Follows-same draft (λ other. option_or (words_at other before) (words_at other (line ∷ []))) (λ other. words_at other (before ++ line ∷ []))
    (pins_of before ++ option_to_list (pin_of_words line.words)) (pins_of (before ++ line ∷ [])) (λ other. sym (words_at-push other before line)) (sym (pins_of-push before line)) follows

or_none : (found : Option (List (List ℕ))) → found ≡ option_or found None
or_none None = refl
or_none (Some words) = refl

-- a line without a keyword adds nothing
pub lines_same : (draft : Draft) (before : List JoinedLine) (line : JoinedLine) → ((other : ArchKeyword) → words_at other (line ∷ []) ≡ None) → pin_of_words line.words ≡ None → FollowsLines draft before → FollowsLines draft (before ++ line ∷ [])
lines_same draft before line nothing pin follows =
    lines_more draft before line
    (Follows-same draft (λ other. words_at other before) (λ other. option_or (words_at other before) (words_at other (line ∷ [])))
    (pins_of before) (pins_of before ++ option_to_list (pin_of_words line.words))
    (λ other. or_none (words_at other before) ∙ ap (option_or (words_at other before)) (sym (nothing other)))
    (sym (append-nil (pins_of before)) ∙ ap (λ p. pins_of before ++ option_to_list p) (sym pin)) follows)

-- the keyword is this one
abbrev is_keyword : ArchKeyword → Option ArchKeyword → Bool
is_keyword keyword found = option_map_or (same_keyword keyword) found false

pub reads_empty : (before : List JoinedLine) (line : JoinedLine) (draft : Draft) → line.words ≡ [] → FollowsLines draft before → Reads before line (Ok tt) draft
reads_empty before line draft is follows =
    rw is (refl, lines_same draft before (record { number = line.number; words = [] }) (λ _. refl) refl follows)

pub reads_unread : (before : List JoinedLine) (word : List ℕ) (rest : JoinedLine) (draft : Draft) → keyword_of word ≡ None → is_unread word ≡ true → FollowsLines draft before → Reads before (with_first word rest) (Ok tt) draft
reads_unread before word rest draft is unread follows = (
  ap (λ k. first_word_faults before word k rest.words) is ∙ ap (λ b. only_if (not b) Unknown) unread,
  lines_same draft before (with_first word rest) (λ other. ap (λ k. cond (is_keyword other k) (Some rest.words) None) is) (ap (λ k. pin_after k rest.words) is) follows,
)

pub reads_keyword : (before : List JoinedLine) (word : List ℕ) (rest : JoinedLine) (keyword : ArchKeyword) (result : Result (Unit {0}) (TextError ArchFaultKind)) (draft : Draft) → keyword_of word ≡ Some keyword → ReadsKeyword before keyword rest.words result draft → Reads before (with_first word rest) result draft
reads_keyword before word rest keyword (Ok done) draft is reads = (
  ap (λ k. first_word_faults before word k rest.words) is ∙ reads.0,
  lines_more draft before (with_first word rest)
      (Follows-same draft (found_with (λ other. words_at other before) keyword rest.words) (λ other. option_or (words_at other before) (cond (is_keyword other (keyword_of word)) (Some rest.words) None))
      (pins_of before ++ option_to_list (pin_after (Some keyword) rest.words)) (pins_of before ++ option_to_list (pin_after (keyword_of word) rest.words))
      (λ other. ap (λ k. option_or (words_at other before) (cond (is_keyword other k) (Some rest.words) None)) (sym is))
      (ap (λ k. pins_of before ++ option_to_list (pin_after k rest.words)) (sym is)) reads.1),
)
reads_keyword before word rest keyword (Err (Fault kind)) draft is reads =
    ap (λ k. least_kind (first_word_faults before word k rest.words)) is ∙ reads
reads_keyword before word rest keyword (Err NoMemory) draft is reads = reads
