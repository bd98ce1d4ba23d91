-- The lines of a listing, one after another.
use Rattle.script_replies.proofs.Prelude.{ℕ, ◌≡◌, ◌∙◌, ◌+◌, ◌<◌, ◌≤◌, List, [], ◌∷◌, ◌++◌, length, map, min, take, set, get_or, ap, sym, arith, append_assoc, get_or-map, length-map, map-set, set-get_or, take_all, take_more, get_or-zip, length-zip, zip, AnsweredLine, answered_line, Answered, LineReply, line_replies, line_reply, reply_to, ScriptLine, ToldLine}

-- a line is counted once more
pub told_again : (items : List ToldLine) (place : ℕ) (none again : ToldLine) → place < length items → line_reply again ≡ line_reply (get_or items place none)
    → map line_reply (set items place again) ≡ map line_reply items
told_again items place none again within same =
    map-set line_reply items place again
    ∙ (ap (set (map line_reply items) place) (same ∙ sym (get_or-map line_reply items place none (line_reply none) within)) ∙ set-get_or (map line_reply items) place (line_reply none))

-- the line at a place with its reply
reply_at : (lines : List ScriptLine) (answers : List Answered) (place : ℕ) (line : ScriptLine) (answered : Answered) → place < length lines → place < length answers
    → get_or (line_replies lines (map answered_line answers)) place (reply_to line (answered_line answered)) ≡ reply_to (get_or lines place line) (answered_line (get_or answers place answered))
reply_at lines answers place line answered in_lines in_answers =
    let f : ScriptLine × AnsweredLine → LineReply = λ pair. reply_to pair.0 pair.1 in
    let replies : List AnsweredLine = map answered_line answers in
    let one : AnsweredLine = answered_line answered in
    let long_replies : length replies ≡ length answers = length-map answers answered_line in
    let long : length (zip lines replies) ≡ min (length lines) (length replies) = length-zip lines replies in
    let is : get_or replies place one ≡ answered_line (get_or answers place answered) = get_or-map answered_line answers place answered one in_answers in
    let pair : get_or (zip lines replies) place (line, one) ≡ (get_or lines place line, get_or replies place one) = get_or-zip lines replies place (line, one) in_lines (omega arith) in
    get_or-map f (zip lines replies) place (line, one) (f (line, one)) (omega arith) ∙ (ap f pair ∙ ap (λ (a : AnsweredLine). reply_to (get_or lines place line) a) is)

pub replies_long : (lines : List ScriptLine) (replies : List AnsweredLine) → length (line_replies lines replies) ≡ min (length lines) (length replies)
replies_long lines replies = length-map (zip lines replies) (λ (pair : ScriptLine × AnsweredLine). reply_to pair.0 pair.1) ∙ length-zip lines replies

-- one more line with its reply
pub told_next : (lines : List ScriptLine) (answers : List Answered) (place : ℕ) (line : ScriptLine) (answered : Answered) (before old new : List LineReply) → place < length lines → place < length answers
    → new ≡ old ++ reply_to (get_or lines place line) (answered_line (get_or answers place answered)) ∷ []
    → old ≡ before ++ take place (line_replies lines (map answered_line answers)) → new ≡ before ++ take (place + 1) (line_replies lines (map answered_line answers))
told_next lines answers place line answered before old new in_lines in_answers new_is old_is =
    let all : List LineReply = line_replies lines (map answered_line answers) in
    let one : LineReply = reply_to (get_or lines place line) (answered_line (get_or answers place answered)) in
    let long : length all ≡ min (length lines) (length (map answered_line answers)) = replies_long lines (map answered_line answers) in
    let long_answers : length (map answered_line answers) ≡ length answers = length-map answers answered_line in
    let at = reply_at lines answers place line answered in_lines in_answers in
    let more : take (place + 1) all ≡ take place all ++ one ∷ [] = take_more all place (reply_to line (answered_line answered)) (omega arith) ∙ ap (λ (t : LineReply). take place all ++ t ∷ []) at in
    new_is ∙ (ap (λ xs. xs ++ one ∷ []) old_is ∙ (append_assoc before (take place all) (one ∷ []) ∙ ap (λ xs. before ++ xs) (sym more)))

-- all lines
pub told_all : (lines : List ScriptLine) (answers : List Answered) (place : ℕ) (before new : List LineReply) (replies : List AnsweredLine) → min (length lines) (length answers) ≤ place
    → map answered_line answers ≡ replies → new ≡ before ++ take place (line_replies lines (map answered_line answers)) → new ≡ before ++ line_replies lines replies
told_all lines answers place before new replies many is new_is =
    let all : List LineReply = line_replies lines (map answered_line answers) in
    let long : length all ≡ min (length lines) (length (map answered_line answers)) = replies_long lines (map answered_line answers) in
    let long_answers : length (map answered_line answers) ≡ length answers = length-map answers answered_line in
    new_is ∙ (ap (λ xs. before ++ xs) (take_all place all (omega arith)) ∙ ap (λ (rs : List AnsweredLine). before ++ line_replies lines rs) is)
