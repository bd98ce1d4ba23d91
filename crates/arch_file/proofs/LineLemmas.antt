-- The faults of one line, and the words and pins after one more line.
use Rattle.arch_file.proofs.Prelude.{◌≡◌, ◌∙◌, ℕ, ◌+◌, ◌<◌, ◌≤◌, List, [], ◌∷◌, ◌++◌, Bool, true, false, cond, ◌||◌, ◌==◌, Option, Some, None, is_some, refl, ap, sym, arith, count_by, nat_lt, length, drop, get_or, codes, eqb, option_or, option_to_list, bytes_eq, cons_option, eqb-true, nat_tests, append-nil, All-push, filter_map-append, sum_by_push, JoinedLine, Pin, Draft, ArchFaultKind, NotProfile, Repeated, ArchKeyword, IoRat, ChanWidthIo, ChanWidthX, ChanWidthY, Inpin, Outpin, SubblocksPerClb, SubblockLutSize, FcType, FcOutput, FcInput, FcPad, SwitchBlockType, Segment, begins_with, keyword_faults, pin_after, pin_of_words, pins_of, words_at, AddsPin, Follows, only_if, least_kind, is_fractional_type, clock_count, has_side, is_clock_class, is_input_class, pin_in, pin_line_faults, segment_faults, decimal_faults, decimal_in, is_fc_type, is_subset, one_faults, value_faults, whole_faults, whole_in, width_faults, word_faults, rank_of, is_pin_keyword, only_word, same_keyword}
use Rattle.arch_file.specs.Pins.{input_count}
use Rattle.arch_file.proofs.KeywordRanks.{alike_by_rank}

-- `Repeated` comes before all of these
abbrev IsRepeatedFirst : List ArchFaultKind → Type 0
IsRepeatedFirst kinds = least_kind (Repeated ∷ kinds) ≡ Some Repeated

either : (b : Bool) (xs ys : List ArchFaultKind) → IsRepeatedFirst xs → IsRepeatedFirst ys → IsRepeatedFirst (cond b xs ys)
either true xs ys first second = first
either false xs ys first second = second

repeated_whole : (limit : ℕ) (number : Option ℕ) → IsRepeatedFirst (whole_faults limit number)
repeated_whole limit None = refl
repeated_whole limit (Some number) = either (number == 0) _ _ refl (either (nat_lt limit number) _ _ refl refl)

repeated_decimal : (value : Option ℕ) → IsRepeatedFirst (decimal_faults value)
repeated_decimal None = refl
repeated_decimal (Some value) = refl

repeated_one : (keyword : ArchKeyword) (value : Option ℕ) → IsRepeatedFirst (one_faults keyword value)
repeated_one keyword None = refl
repeated_one keyword (Some value) = either (value == 1000000) _ _ refl refl

repeated_width : (keyword : ArchKeyword) (words : List (List ℕ)) → IsRepeatedFirst (width_faults keyword words)
repeated_width keyword [] = refl
repeated_width keyword (kind ∷ words) = either (bytes_eq kind (codes "uniform")) (one_faults keyword (decimal_in words)) (NotProfile keyword ∷ []) (repeated_one keyword (decimal_in words)) refl

repeated_word : (keyword : ArchKeyword) (passes : List ℕ → Bool) (word : Option (List ℕ)) → IsRepeatedFirst (word_faults keyword passes word)
repeated_word keyword passes None = refl
repeated_word keyword passes (Some word) = either (passes word) _ _ refl refl

-- a repeated keyword comes before everything that is wrong with its value
pub repeated_first : (keyword : ArchKeyword) (words : List (List ℕ)) → least_kind (Repeated ∷ value_faults keyword words) ≡ Some Repeated
unfolding value_faults
repeated_first IoRat words = repeated_whole 8 (whole_in words)
repeated_first ChanWidthIo words = repeated_one ChanWidthIo (decimal_in words)
repeated_first ChanWidthX words = repeated_width ChanWidthX words
repeated_first ChanWidthY words = repeated_width ChanWidthY words
repeated_first Inpin words = refl
repeated_first Outpin words = refl
repeated_first SubblocksPerClb words = repeated_whole 16 (whole_in words)
repeated_first SubblockLutSize words = repeated_whole 8 (whole_in words)
repeated_first FcType words = repeated_word FcType is_fc_type (only_word words)
repeated_first FcOutput words = repeated_decimal (decimal_in words)
repeated_first FcInput words = repeated_decimal (decimal_in words)
repeated_first FcPad words = repeated_decimal (decimal_in words)
repeated_first SwitchBlockType words = repeated_word SwitchBlockType is_subset (only_word words)
repeated_first Segment words = refl

-- the faults of a line, by its keyword
pub keyword_faults-value : (before : List JoinedLine) (keyword : ArchKeyword) (words : List (List ℕ)) (stood : Bool) → is_pin_keyword keyword ≡ false → same_keyword keyword Segment ≡ false → is_some (words_at keyword before) ≡ stood → keyword_faults before keyword words ≡ only_if stood Repeated ++ value_faults keyword words
keyword_faults-value before keyword words stood pin segment stands = rw (pin, segment, stands) refl

pub keyword_faults-segment : (before : List JoinedLine) (keyword : ArchKeyword) (words : List (List ℕ)) (stood : Bool) → is_pin_keyword keyword ≡ false → same_keyword keyword Segment ≡ true → is_some (words_at keyword before) ≡ stood → keyword_faults before keyword words ≡ segment_faults stood words
keyword_faults-segment before keyword words stood pin segment stands = rw (pin, segment, stands) refl

pub keyword_faults-pin : (before : List JoinedLine) (keyword : ArchKeyword) (words : List (List ℕ)) → is_pin_keyword keyword ≡ true → keyword_faults before keyword words ≡ pin_line_faults (pins_of before) keyword words
keyword_faults-pin before keyword words pin = rw pin refl

-- `segment` is not a pin's keyword, and has no value
pub segment_rank : (keyword : ArchKeyword) → same_keyword keyword Segment ≡ true → rank_of keyword ≡ 11
segment_rank keyword same = eqb-true (rank_of keyword) 11 (sym (alike_by_rank keyword Segment) ∙ same)

pub segment_pin : (keyword : ArchKeyword) → same_keyword keyword Segment ≡ true → is_pin_keyword keyword ≡ false
segment_pin keyword same = rw (alike_by_rank keyword Inpin, alike_by_rank keyword Outpin, segment_rank keyword same) refl

pub pin_rank : (keyword : ArchKeyword) → is_pin_keyword keyword ≡ true → 11 ≤ rank_of keyword
pin_rank keyword pin =
    let ranks : (eqb (rank_of keyword) 12 || eqb (rank_of keyword) 13) ≡ true = rw (← alike_by_rank keyword Inpin, ← alike_by_rank keyword Outpin) pin in
    grind (arith, nat_tests, ranks)

-- a line without a pin's keyword adds no pin
pub no_pin : (seen : List Pin) (keyword : ArchKeyword) (words : List (List ℕ)) → is_pin_keyword keyword ≡ false → seen ++ option_to_list (pin_after (Some keyword) words) ≡ seen
no_pin seen keyword words pin = rw pin (append-nil seen)

pub one_pin : (seen : List Pin) (keyword : ArchKeyword) (words : List (List ℕ)) (pin : Pin) → is_pin_keyword keyword ≡ true → pin_in words ≡ Some pin → seen ++ option_to_list (pin_after (Some keyword) words) ≡ seen ++ pin ∷ []
one_pin seen keyword words pin is_pin is = rw (is_pin, is) refl

pub count_push : (p : Pin → Bool) (seen : List Pin) (pin : Pin) → count_by p (seen ++ pin ∷ []) ≡ count_by p seen + cond (p pin) 1 0
count_push p seen pin = sum_by_push (λ x. cond (p x) 1 0) seen pin

clock_push : (b : Bool) (count : ℕ) → nat_lt 0 (count + cond b 1 0) ≡ (nat_lt 0 count || b)
clock_push true count = grind (arith, nat_tests)
clock_push false count = grind (arith, nat_tests)

inputs_fit : (b : Bool) (count : ℕ) → (b ≡ true → count < 128) → count ≤ 128 → count + cond b 1 0 ≤ 128
inputs_fit true count room fits = let below : count < 128 = room refl in omega arith
inputs_fit false count room fits = omega arith

clocks_fit : (b : Bool) (count : ℕ) → (b ≡ true → nat_lt 0 count ≡ false) → count ≤ 1 → count + cond b 1 0 ≤ 1
clocks_fit true count none fits = let never : nat_lt 0 count ≡ false = none refl in grind (arith, nat_tests)
clocks_fit false count none fits = omega arith

-- the draft with one more pin
pub Follows-add : (old mid : Draft) (found : ArchKeyword → Option (List (List ℕ))) (seen : List Pin) (pin : Pin) → Follows old found seen → AddsPin old pin mid → has_side pin.sides ≡ true → (is_clock_class pin.class ≡ true → old.has_clock ≡ false) → (is_input_class pin.class ≡ true → old.inputs < 128) → Follows mid found (seen ++ pin ∷ [])
Follows-add old mid found seen pin follows adds sides clock room =
    let inputs : input_count (seen ++ pin ∷ []) ≡ input_count seen + cond (is_input_class pin.class) 1 0 = count_push (λ p. is_input_class p.class) seen pin in
    let clocks : clock_count (seen ++ pin ∷ []) ≡ clock_count seen + cond (is_clock_class pin.class) 1 0 = count_push (λ p. is_clock_class p.class) seen pin in
    record {
      ranks = ap length adds.stands ∙ follows.ranks;
      stands = λ other. ap (λ xs. get_or xs (rank_of other) false) adds.stands ∙ follows.stands other;
      io_rat = adds.io_rat ∙ follows.io_rat;
      cluster_size = adds.cluster_size ∙ follows.cluster_size;
      lut_size = adds.lut_size ∙ follows.lut_size;
      fc_type = ap is_fractional_type adds.fc_type ∙ follows.fc_type;
      fc_output = adds.fc_output ∙ follows.fc_output;
      fc_input = adds.fc_input ∙ follows.fc_input;
      fc_pad = adds.fc_pad ∙ follows.fc_pad;
      pins = adds.pins ∙ ap (λ xs. xs ++ pin ∷ []) follows.pins;
      inputs = adds.inputs ∙ ap (λ n. n + cond (is_input_class pin.class) 1 0) follows.inputs ∙ sym inputs;
      clock = adds.clock ∙ ap (λ b. b || is_clock_class pin.class) follows.clock ∙ sym (clock_push (is_clock_class pin.class) (clock_count seen)) ∙ ap (nat_lt 0) (sym clocks);
      io_rat_limit = λ is. rw adds.io_rat (follows.io_rat_limit is);
      cluster_limit = λ is. rw adds.cluster_size (follows.cluster_limit is);
      lut_limit = λ is. rw adds.lut_size (follows.lut_limit is);
      inputs_limit = rw inputs (inputs_fit (is_input_class pin.class) (input_count seen) (λ is. rw (← follows.inputs) (room is)) follows.inputs_limit);
      clock_limit = rw clocks (clocks_fit (is_clock_class pin.class) (clock_count seen) (λ is. sym follows.clock ∙ clock is) follows.clock_limit);
      sides = All-push (λ p. has_side p.sides ≡ true) seen pin follows.sides sides;
    }

-- the words and pins of the lines with one more line
pub words_at-push : (keyword : ArchKeyword) (before : List JoinedLine) (line : JoinedLine) → words_at keyword (before ++ line ∷ []) ≡ option_or (words_at keyword before) (words_at keyword (line ∷ []))
words_at-push keyword [] line = refl
words_at-push keyword (first ∷ before) line = or_choice (begins_with keyword first.words) (Some (drop 1 first.words)) (words_at keyword before) (words_at keyword (line ∷ [])) (words_at keyword (before ++ line ∷ [])) (words_at-push keyword before line)
  where
    or_choice : (b : Bool) (x : Option (List (List ℕ))) (rest last all : Option (List (List ℕ))) → all ≡ option_or rest last → cond b (Some (drop 1 first.words)) all ≡ option_or (cond b (Some (drop 1 first.words)) rest) last
    or_choice true x rest last all is = refl
    or_choice false x rest last all is = is

pub pins_of-push : (before : List JoinedLine) (line : JoinedLine) → pins_of (before ++ line ∷ []) ≡ pins_of before ++ option_to_list (pin_of_words line.words)
pins_of-push before line = filter_map-append (λ l. pin_of_words l.words) before (line ∷ []) ∙ ap (λ xs. pins_of before ++ xs) (single (pin_of_words line.words))
  where
    single : (pin : Option Pin) → cons_option pin [] ≡ option_to_list pin
    single None = refl
    single (Some pin) = refl

-- the draft depends only on the words and pins
pub Follows-same : (draft : Draft) (found other : ArchKeyword → Option (List (List ℕ))) (seen more : List Pin) → ((keyword : ArchKeyword) → found keyword ≡ other keyword) → seen ≡ more → Follows draft found seen → Follows draft other more
Follows-same draft found other seen more same pins follows =
    record {
      ranks = follows.ranks;
      stands = λ keyword. follows.stands keyword ∙ ap is_some (same keyword);
      io_rat = rw (← same IoRat) follows.io_rat;
      cluster_size = rw (← same SubblocksPerClb) follows.cluster_size;
      lut_size = rw (← same SubblockLutSize) follows.lut_size;
      fc_type = rw (← same FcType) follows.fc_type;
      fc_output = rw (← same FcOutput) follows.fc_output;
      fc_input = rw (← same FcInput) follows.fc_input;
      fc_pad = rw (← same FcPad) follows.fc_pad;
      pins = follows.pins ∙ pins;
      inputs = follows.inputs ∙ ap input_count pins;
      clock = follows.clock ∙ ap (λ xs. nat_lt 0 (clock_count xs)) pins;
      io_rat_limit = λ is. follows.io_rat_limit (ap is_some (same IoRat) ∙ is);
      cluster_limit = λ is. follows.cluster_limit (ap is_some (same SubblocksPerClb) ∙ is);
      lut_limit = λ is. follows.lut_limit (ap is_some (same SubblockLutSize) ∙ is);
      inputs_limit = rw (← pins) follows.inputs_limit;
      clock_limit = rw (← pins) follows.clock_limit;
      sides = rw (← pins) follows.sides;
    }
