-- The places of each speaker's lines, line by line.
use Rattle.printed_replies.proofs.Prelude.{◌≡◌, ℕ, ◌+◌, ◌<◌, suc, zero, Bool, true, false, cond, List, [], ◌∷◌, ◌++◌, length, map, take, drop, set, get_or, replicate, slice_get, Option, Some, None, Ok, Err, refl, subst, sym, ap, ◌∙◌, arith, append_assoc, get_or_from_slice_get, same_Some, slice_get-get_or, slice_get_within, number_of, Bor, bytes_eq, bytes_eq-Decides, append-nil, drop_more, get_or-map, length-append, length-map, length-take, map-append, map-set, replicate_more, take_more, map-set_same, answered_lines, asked_in, AnsweredLine, AskedLine, Reading, Rest, Speaker, and_then, answered_line, asked_line, is_of, lines_read, names_of, reply_read, with_line, with_reply, without_reply, places_from, places_of, session_places, Answered, Asked, Silence}
use Rattle.std.specs.Prelude.{option_map}
use Rattle.printed_replies.proofs.OnePass.{AreOnce, names_once, one_updated, other_way}
use Rattle.printed_replies.proofs.ReadLemmas.{behind_lines, one_more}

-- one line more
abbrev its_place : Bool → ℕ → List ℕ
its_place is place = cond is (place ∷ []) []

places_more : (place : ℕ) (speaker : Speaker) (lines : List AskedLine) (line : AskedLine) → places_from place speaker (lines ++ line ∷ []) ≡ places_from place speaker lines ++ its_place (is_of speaker line.speaker) (place + length lines)
places_more place speaker [] line = grind arith
places_more place speaker (first ∷ lines) line = grind (arith, places_more (place + 1) speaker lines line)

pub places_next : (speaker : Speaker) (lines : List AskedLine) (place : ℕ) (line : AskedLine) → place < length lines → get_or lines place line ≡ line → places_of speaker (take (place + 1) lines) ≡ places_of speaker (take place lines) ++ its_place (is_of speaker line.speaker) place
places_next speaker lines place line within at = grind (arith, take_more, places_more, length-take place lines, take_more lines place line within, places_more 0 speaker (take place lines) line)

-- the places of the other names' lines stay
pub session_next : (names : List (List ℕ)) (lines : List AskedLine) (place : ℕ) (line : AskedLine) (own : List ℕ) → AreOnce names → place < length lines → get_or lines place line ≡ line → line.speaker ≡ Some own →
    map (λ name. places_of (Some name) (take (place + 1) lines)) names
    ≡ set (map (λ name. places_of (Some name) (take place lines)) names) (number_of names own) (get_or (map (λ name. places_of (Some name) (take place lines)) names) (number_of names own) [] ++ place ∷ [])
session_next names lines place line own once within at speaks =
    one_updated (λ name. places_of (Some name) (take place lines)) (λ name. places_of (Some name) (take (place + 1) lines)) (λ ps. ps ++ place ∷ []) [] own names once
    (λ name differ. next name ∙ ap (λ b. places_of (Some name) (take place lines) ++ its_place b place) (other_way own name differ) ∙ append-nil (places_of (Some name) (take place lines)))
    (next own ∙ ap (λ b. places_of (Some own) (take place lines) ++ its_place b place) ((bytes_eq-Decides own own).1 refl))
  where
    next : (name : List ℕ) → places_of (Some name) (take (place + 1) lines) ≡ places_of (Some name) (take place lines) ++ its_place (bytes_eq name own) place
    next name = places_next (Some name) lines place line within at ∙ ap (λ s. places_of (Some name) (take place lines) ++ its_place (is_of (Some name) s) place) speaks

pub session_silent : (names : List (List ℕ)) (lines : List AskedLine) (place : ℕ) (line : AskedLine) → place < length lines → get_or lines place line ≡ line → line.speaker ≡ None →
    map (λ name. places_of (Some name) (take (place + 1) lines)) names ≡ map (λ name. places_of (Some name) (take place lines)) names
session_silent [] lines place line within at speaks = refl
session_silent (name ∷ names) lines place line within at speaks = grind (arith, places_next (Some name) lines place line within, append-nil (places_of (Some name) (take place lines)), session_silent names lines place line within)

pub none_yet : (names : List (List ℕ)) (lines : List AskedLine) → replicate (length names) [] ≡ map (λ name. places_of (Some name) (take 0 lines)) names
none_yet [] lines = refl
none_yet (name ∷ names) lines = ap (λ ps. [] ∷ ps) (none_yet names lines)

-- each place is one of the lines
pub place_within : (first : ℕ) (speaker : Speaker) (lines : List AskedLine) (i : ℕ) (place : ℕ) → slice_get (places_from first speaker lines) i ≡ Some place → place < first + length lines
place_within first speaker [] i place at = absurd cc
place_within first speaker (line ∷ lines) i place at = by (is_of speaker line.speaker) i (λ j there. omega (arith, place_within (first + 1) speaker lines j place there)) at
  where
    by : (b : Bool) (i : ℕ) → ((j : ℕ) → slice_get (places_from (first + 1) speaker lines) j ≡ Some place → place < first + length (line ∷ lines)) →
        slice_get (cond b (first ∷ places_from (first + 1) speaker lines) (places_from (first + 1) speaker lines)) i ≡ Some place → place < first + length (line ∷ lines)
    by false i more at = more i at
    by true zero more at = let e : first ≡ place = same_Some first place at in omega (arith, e)
    by true (suc i) more at = more i at

-- ---- reading at places

abbrev nothing : AnsweredLine
nothing = with_reply (record { speaker = None; form = Silence }) []

-- the lines at these places take their replies one after another
abbrev pub reads_at : Rest → List ℕ → List AnsweredLine → Reading (List AnsweredLine × Rest)
reads_at rest [] lines = Ok (lines, rest)
reads_at rest (place ∷ places) lines = and_then (reply_read rest (get_or lines place nothing).asked) (λ read. reads_at read.1 places (set lines place read.0))

at_seam : (front : List AnsweredLine) (line : AnsweredLine) (lines : List AnsweredLine) → get_or (front ++ line ∷ lines) (length front) nothing ≡ line
at_seam [] line lines = refl
at_seam (first ∷ front) line lines = at_seam front line lines

set_seam : (front : List AnsweredLine) (line new : AnsweredLine) (lines : List AnsweredLine) → set (front ++ line ∷ lines) (length front) new ≡ front ++ new ∷ lines
set_seam [] line new lines = refl
set_seam (first ∷ front) line new lines = ap (λ ls. first ∷ ls) (set_seam front line new lines)

-- a speaker's lines are read at their places
reads_behind : (speaker : Speaker) (rest : Rest) (front lines : List AnsweredLine) → reads_at rest (places_from (length front) speaker (asked_in lines)) (front ++ lines) ≡ behind_lines front (lines_read speaker rest lines)
reads_behind speaker rest front [] = refl
reads_behind speaker rest front (line ∷ lines) = by (is_of speaker line.asked.speaker) (λ new next. after new next (reads_behind speaker next (front ++ new ∷ []) lines))
  where
    after : (new : AnsweredLine) (next : Rest) → reads_at next (places_from (length (front ++ new ∷ [])) speaker (asked_in lines)) ((front ++ new ∷ []) ++ lines) ≡ behind_lines (front ++ new ∷ []) (lines_read speaker next lines) →
        reads_at next (places_from (length front + 1) speaker (asked_in lines)) (front ++ new ∷ lines) ≡ behind_lines front (with_line new (lines_read speaker next lines))
    after new next rest =
        let long : length front + 1 ≡ length (front ++ new ∷ []) = sym (length-append front (new ∷ [])) in
        ap (λ ls. reads_at next (places_from (length front + 1) speaker (asked_in lines)) ls) (sym (append_assoc front (new ∷ []) lines))
        ∙ ap (λ n. reads_at next (places_from n speaker (asked_in lines)) ((front ++ new ∷ []) ++ lines)) long
        ∙ rest ∙ one_more front new (lines_read speaker next lines)

    by_read : (r : Reading (AnsweredLine × Rest)) →
        ((new : AnsweredLine) (next : Rest) → reads_at next (places_from (length front + 1) speaker (asked_in lines)) (front ++ new ∷ lines) ≡ behind_lines front (with_line new (lines_read speaker next lines))) →
        and_then r (λ read. reads_at read.1 (places_from (length front + 1) speaker (asked_in lines)) (set (front ++ line ∷ lines) (length front) read.0)) ≡ behind_lines front (and_then r (λ read. with_line read.0 (lines_read speaker read.1 lines)))
    by_read (Ok read) more = ap (λ ls. reads_at read.1 (places_from (length front + 1) speaker (asked_in lines)) ls) (set_seam front line read.0 lines) ∙ more read.0 read.1
    by_read (Err left) more = refl

    by : (b : Bool) →
        ((new : AnsweredLine) (next : Rest) → reads_at next (places_from (length front + 1) speaker (asked_in lines)) (front ++ new ∷ lines) ≡ behind_lines front (with_line new (lines_read speaker next lines))) →
        reads_at rest (cond b (length front ∷ places_from (length front + 1) speaker (asked_in lines)) (places_from (length front + 1) speaker (asked_in lines))) (front ++ line ∷ lines)
        ≡ behind_lines front (and_then (cond b (reply_read rest line.asked) (Ok (line, rest))) (λ read. with_line read.0 (lines_read speaker read.1 lines)))
    by true more =
        ap (λ l. and_then (reply_read rest l.asked) (λ read. reads_at read.1 (places_from (length front + 1) speaker (asked_in lines)) (set (front ++ line ∷ lines) (length front) read.0))) (at_seam front line lines)
        ∙ by_read (reply_read rest line.asked) more
    by false more = more line rest

behind_none : (read : Reading (List AnsweredLine × Rest)) → behind_lines [] read ≡ read
behind_none read = grind arith

pub reads_own : (speaker : Speaker) (rest : Rest) (lines : List AnsweredLine) → reads_at rest (places_of speaker (asked_in lines)) lines ≡ lines_read speaker rest lines
reads_own speaker rest lines = reads_behind speaker rest [] lines ∙ behind_none (lines_read speaker rest lines)

-- ---- the steps of the loops

pub index_within : (speaker : Speaker) (places : List ℕ) (i : ℕ) (items old : List Answered) → places ≡ places_of speaker (asked_in (answered_lines old)) → asked_in (answered_lines items) ≡ asked_in (answered_lines old) → i < length places →
    get_or places i 0 < length items
index_within speaker places i items old own same within = grind (arith, slice_get-get_or, place_within, length-map)

line_at_index : (items : List Answered) (index : ℕ) (line : Answered) → index < length items → line ≡ get_or items index line → get_or (answered_lines items) index nothing ≡ answered_line line
line_at_index items index line within is = get_or-map answered_line items index line nothing within ∙ ap answered_line (sym is)

pub read_next : (rest next : Rest) (places : List ℕ) (i : ℕ) (items : List Answered) (line new : Answered) → i < length places → get_or places i 0 < length items → line ≡ get_or items (get_or places i 0) line →
    reply_read rest (answered_line line).asked ≡ Ok (answered_line new, next) →
    reads_at next (drop (i + 1) places) (answered_lines (set items (get_or places i 0) new)) ≡ reads_at rest (drop i places) (answered_lines items)
read_next rest next places i items line new within inside is reads = grind (arith, map-set, line_at_index, drop_more)

pub read_stops : (rest : Rest) (places : List ℕ) (i left : ℕ) (items : List Answered) (line : Answered) → i < length places → get_or places i 0 < length items → line ≡ get_or items (get_or places i 0) line →
    reply_read rest (answered_line line).asked ≡ Err left → reads_at rest (drop i places) (answered_lines items) ≡ Err left
read_stops rest places i left items line within inside is stops = grind (arith, drop_more, line_at_index)

pub same_asked : (rest next : Rest) (items : List Answered) (index : ℕ) (line new : Answered) → index < length items → line ≡ get_or items index line → reply_read rest (answered_line line).asked ≡ Ok (answered_line new, next) →
    asked_in (answered_lines (set items index new)) ≡ asked_in (answered_lines items)
same_asked rest next items index line new inside is reads = grind (arith, map-set, map-set_same, line_at_index)

-- the places of the session with that number
pub session_at : {V : Type 0} (items : V → List ℕ) (asked : List AskedLine) (names : List (List ℕ)) (number : ℕ) (name : List ℕ) (lists : List V) (list : V) → names ≡ names_of asked → map items lists ≡ session_places asked →
    slice_get names number ≡ Some name → list ≡ get_or lists number list → items list ≡ places_of (Some name) asked
session_at items asked names number name lists list names_are are at is =
    let inside : number < length names = slice_get_within names number name at in
    let long = length-map lists items in
    let all = length-map (names_of asked) (λ n. places_of (Some n) asked) in
    let within : number < length lists = omega (arith, inside, long, all, ap length are, ap length names_are) in
    ap items is ∙ sym (get_or-map items lists number list [] within) ∙ ap (λ ls. get_or ls number []) (are ∙ ap (map (λ n. places_of (Some n) asked)) (sym names_are))
    ∙ get_or-map (λ n. places_of (Some n) asked) names number name [] inside ∙ ap (λ n. places_of (Some n) asked) (get_or_from_slice_get names number name name at)

pub asked_again : (asked : List AskedLine) → asked_in (map without_reply asked) ≡ asked
asked_again [] = refl
asked_again (line ∷ lines) = ap (λ ls. line ∷ ls) (asked_again lines)

-- one place more in the list with this number
pub place_added : {V : Type 0} (lists : List V) (items : V → List ℕ) (number place : ℕ) (old new : V) → number < length lists → old ≡ get_or lists number old → items new ≡ items old ++ place ∷ [] →
    map items (set lists number new) ≡ set (map items lists) number (get_or (map items lists) number [] ++ place ∷ [])
place_added lists items number place old new inside at is = grind (arith, get_or-map, map-set)

-- one empty list more
pub one_more_empty : {V : Type 0} (lists new : List V) (items : V → List ℕ) (list : V) (n : ℕ) → map items lists ≡ replicate n [] → new ≡ lists ++ list ∷ [] → items list ≡ [] → map items new ≡ replicate (n + 1) []
one_more_empty lists new items list n so more empty = grind (arith, map-append, replicate_more)

-- the line at a place
abbrev no_line : Asked
no_line = record { name = None; form = Silence }

module _ (asked : List Asked) (names : List (List ℕ)) (place : ℕ) (within : place < length asked) where
  abbrev lines : List AskedLine
  lines = map asked_line asked

  abbrev line : AskedLine
  line = asked_line (get_or asked place no_line)

  long : place < length lines
  long = let same = length-map asked asked_line in omega (arith, same, within)

  at : get_or lines place line ≡ line
  at = get_or-map asked_line asked place no_line line within

  -- the operator's list takes its lines alone
  pub operator_more : (get_or asked place no_line).name ≡ None → places_of None (take (place + 1) lines) ≡ places_of None (take place lines) ++ place ∷ []
  operator_more none = places_next None lines place line long at ∙ ap (λ (n : Option (Bor (List ℕ))). places_of None (take place lines) ++ its_place (is_of None (option_map (λ m. m.now) n)) place) none

  pub operator_stays : (name : Bor (List ℕ)) → (get_or asked place no_line).name ≡ Some name → places_of None (take (place + 1) lines) ≡ places_of None (take place lines)
  operator_stays name some =
      places_next None lines place line long at ∙ ap (λ (n : Option (Bor (List ℕ))). places_of None (take place lines) ++ its_place (is_of None (option_map (λ m. m.now) n)) place) some
      ∙ append-nil (places_of None (take place lines))

  pub sessions_stay : (get_or asked place no_line).name ≡ None → map (λ name. places_of (Some name) (take (place + 1) lines)) names ≡ map (λ name. places_of (Some name) (take place lines)) names
  sessions_stay none = session_silent names lines place line long at (ap (option_map (λ m. m.now)) none)

  pub session_more : (name : Bor (List ℕ)) → names ≡ names_of lines → (get_or asked place no_line).name ≡ Some name →
      map (λ name. places_of (Some name) (take (place + 1) lines)) names
      ≡ set (map (λ name. places_of (Some name) (take place lines)) names) (number_of names name.now) (get_or (map (λ name. places_of (Some name) (take place lines)) names) (number_of names name.now) [] ++ place ∷ [])
  session_more name are some = session_next names lines place line name.now (subst AreOnce (sym are) (names_once lines)) long at (ap (option_map (λ m. m.now)) some)
