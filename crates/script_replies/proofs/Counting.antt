-- What a name used, act by act.
use Rattle.script_replies.proofs.Prelude.{ℕ, ◌≡◌, ◌+◌, ◌-◌, ◌^◌, ◌<◌, ◌≤◌, ◌∙◌, Bool, true, false, cond, not, ◌&&◌, List, [], ◌∷◌, ◌++◌, length, map, min, take, get_or, Option, Some, None, refl, ap, arith, cons_option, filter, filter_map, last_or, sum, zip, option_map_or, if◌then◌else◌, bytes_eq, append-nil, get_or-map, length-append, length-map, length-take, map-append, take_all, take_more, filter-append, filter_map-append, sum_by_push, get_or-zip, length-zip, AnsweredLine, Act, Operator, Session, OperatorLine, Admit, Evict, Move, Owners, Step, Take, Put, Usage, IsWithin, Told, admitted_columns, begins_job, usage_in, is_job, is_own, is_refusal, last_of, steps_asked, told_of, usage_of, with_act, with_operator}
use Rattle.script_text.specs.declared.operator_line.OperatorLine.TheVariants.{List as ListAll}

abbrev make : ℕ → ℕ → ℕ → ℕ → ℕ → Usage
make columns lines refused jobs steps = record { columns = columns; lines = lines; refused = refused; jobs = jobs; steps = steps }

-- one more of a list counts if it passes
one_if : {X : Type 0} (p : X → Bool) (x : X) (b : Bool) → p x ≡ b → length (filter p (x ∷ [])) ≡ cond b 1 0
one_if p x true is = ap (λ (b : Bool). length (cond b (x ∷ filter p []) (filter p []))) is
one_if p x false is = ap (λ (b : Bool). length (cond b (x ∷ filter p []) (filter p []))) is

count_more : {X : Type 0} (p : X → Bool) (xs : List X) (x : X) → length (filter p (xs ++ x ∷ [])) ≡ length (filter p xs) + cond (p x) 1 0
count_more p xs x = ap length (filter-append p xs (x ∷ [])) ∙ (length-append (filter p xs) (filter p (x ∷ [])) ∙ ap (λ n. length (filter p xs) + n) (one_if p x (p x) refl))

few_more : {X : Type 0} (b : Bool) (x : X) (xs : List X) (limit : ℕ) → length xs ≤ limit → length (cond b (x ∷ xs) xs) ≤ limit + 1
few_more true x xs limit low = omega arith
few_more false x xs limit low = omega arith

few : {X : Type 0} (p : X → Bool) (xs : List X) → length (filter p xs) ≤ length xs
few p [] = omega arith
few p (x ∷ xs) = (let a : length (filter p (x ∷ xs)) ≤ length xs + 1 = few_more (p x) x (filter p xs) (length xs) (few p xs) in omega arith)

-- the last of a list
last_some : (before : Option ℕ) (xs : List ℕ) (x : ℕ) → last_or before (xs ++ x ∷ []) ≡ Some x
last_some before [] x = refl
last_some before (first ∷ rest) x = last_some (Some first) rest x

last_more : (xs : List ℕ) (more : Option ℕ) → last_of (xs ++ cons_option more []) ≡ option_map_or (λ number. number) more (last_of xs)
last_more xs None = ap last_of (append-nil xs)
last_more xs (Some x) = ap (λ o. option_map_or (λ number. number) o 0) (last_some None xs x)

sum_more : (xs : List ℕ) (x : ℕ) → sum (xs ++ x ∷ []) ≡ sum xs + x
sum_more xs x = sum_by_push (λ n. n) xs x

-- one more act, by what counts of it
abbrev with_told : List ℕ → Act (List ℕ) → Bool → Usage → Usage
with_told name act refused usage =
    make (option_map_or (λ number. number) (admitted_columns name act refused) usage.columns) (usage.lines + cond (is_own name act) 1 0) (usage.refused + cond (is_own name act && refused) 1 0)
    (usage.jobs + cond (is_job name act && not refused) 1 0) (min (usage.steps + steps_asked name act refused) (2 ^ 64 - 1))

told_more : (name : List ℕ) (xs : List Told) (one : Told) → usage_in name (xs ++ one ∷ []) ≡ with_told name one.act one.refused (usage_in name xs)
told_more name xs one =
    let columns = ap last_of (filter_map-append (λ (t : Told). admitted_columns name t.act t.refused) xs (one ∷ [])) ∙ last_more (filter_map (λ (t : Told). admitted_columns name t.act t.refused) xs) (admitted_columns name one.act one.refused) in
    let lines = count_more (λ (t : Told). is_own name t.act) xs one in
    let refused = count_more (λ (t : Told). is_own name t.act && t.refused) xs one in
    let jobs = count_more (λ (t : Told). is_job name t.act && not t.refused) xs one in
    let all : ℕ = sum (map (λ (t : Told). steps_asked name t.act t.refused) xs) in
    let more : sum (map (λ (t : Told). steps_asked name t.act t.refused) (xs ++ one ∷ [])) ≡ all + steps_asked name one.act one.refused =
    ap sum (map-append (λ (t : Told). steps_asked name t.act t.refused) xs (one ∷ [])) ∙ sum_more (map (λ (t : Told). steps_asked name t.act t.refused) xs) (steps_asked name one.act one.refused) in
    let steps : min (sum (map (λ (t : Told). steps_asked name t.act t.refused) (xs ++ one ∷ []))) (2 ^ 64 - 1) ≡ min (min all (2 ^ 64 - 1) + steps_asked name one.act one.refused) (2 ^ 64 - 1) =
    ap (λ n. min n (2 ^ 64 - 1)) more ∙ omega arith in
    λ i. make (columns i) (lines i) (refused i) (jobs i) (steps i)

-- that is the usage with one more act
same : (usage : Usage) → usage.steps ≤ 2 ^ 64 - 1 → make usage.columns (usage.lines + 0) (usage.refused + 0) (usage.jobs + 0) (min (usage.steps + 0) (2 ^ 64 - 1)) ≡ usage
same usage few =
    let lines : usage.lines + 0 ≡ usage.lines = omega arith in
    let refused : usage.refused + 0 ≡ usage.refused = omega arith in
    let jobs : usage.jobs + 0 ≡ usage.jobs = omega arith in
    let steps : min (usage.steps + 0) (2 ^ 64 - 1) ≡ usage.steps = omega (arith, few) in
    λ i. make usage.columns (lines i) (refused i) (jobs i) (steps i)

by_admit : (own refused : Bool) (columns : ℕ) (usage : Usage) → usage.steps ≤ 2 ^ 64 - 1
    → make (option_map_or (λ number. number) (if refused then None else if own then Some columns else None) usage.columns) (usage.lines + 0) (usage.refused + 0) (usage.jobs + 0) (min (usage.steps + (if refused then 0 else 0)) (2 ^ 64 - 1))
    ≡ (if own && not refused then record usage { columns = columns } else usage)
by_admit true true columns usage few = same usage few
by_admit true false columns usage few = same (record usage { columns = columns }) few
by_admit false true columns usage few = same usage few
by_admit false false columns usage few = same usage few

by_step : (own refused : Bool) (count : ℕ) (usage : Usage) → usage.steps ≤ 2 ^ 64 - 1
    → make (option_map_or (λ number. number) (if refused then None else None) usage.columns) (usage.lines + 0) (usage.refused + 0) (usage.jobs + 0) (min (usage.steps + (if refused then 0 else if own then count else 0)) (2 ^ 64 - 1))
    ≡ (if own && not refused then record usage { steps = min (usage.steps + count) (2 ^ 64 - 1) } else usage)
by_step true true count usage few = same usage few
by_step true false count usage few =
    let lines : usage.lines + 0 ≡ usage.lines = omega arith in
    let refused : usage.refused + 0 ≡ usage.refused = omega arith in
    let jobs : usage.jobs + 0 ≡ usage.jobs = omega arith in
    λ i. make usage.columns (lines i) (refused i) (jobs i) (min (usage.steps + count) (2 ^ 64 - 1))
by_step false true count usage few = same usage few
by_step false false count usage few = same usage few

by_other : (refused : Bool) (usage : Usage) → usage.steps ≤ 2 ^ 64 - 1
    → make (option_map_or (λ number. number) (if refused then None else None) usage.columns) (usage.lines + 0) (usage.refused + 0) (usage.jobs + 0) (min (usage.steps + (if refused then 0 else 0)) (2 ^ 64 - 1)) ≡ usage
by_other true usage few = same usage few
by_other false usage few = same usage few

by_operator : (name : List ℕ) (line : OperatorLine (List ℕ)) (refused : Bool) (usage : Usage) → usage.steps ≤ 2 ^ 64 - 1 → with_told name (Operator line) refused usage ≡ with_operator name line refused usage
by_operator name (Admit own columns) refused usage few = by_admit (bytes_eq own name) refused columns usage few
by_operator name (Evict own) refused usage few = by_other refused usage few
by_operator name (Move own offset) refused usage few = by_other refused usage few
by_operator name ListAll refused usage few = by_other refused usage few
by_operator name Owners refused usage few = by_other refused usage few
by_operator name (Step own count) refused usage few = by_step (bytes_eq own name) refused count usage few
by_operator name (Take own) refused usage few = by_other refused usage few
by_operator name (Put number) refused usage few = by_other refused usage few

by_session : (own begins refused : Bool) (usage : Usage) → usage.steps ≤ 2 ^ 64 - 1
    → make usage.columns (usage.lines + cond own 1 0) (usage.refused + cond (own && refused) 1 0) (usage.jobs + cond ((own && begins) && not refused) 1 0) (min (usage.steps + 0) (2 ^ 64 - 1))
    ≡ (if own then record usage { lines = usage.lines + 1; refused = usage.refused + cond refused 1 0; jobs = usage.jobs + cond (begins && not refused) 1 0 } else usage)
by_session true begins refused usage few =
    let steps : min (usage.steps + 0) (2 ^ 64 - 1) ≡ usage.steps = omega (arith, few) in
    λ i. make usage.columns (usage.lines + 1) (usage.refused + cond refused 1 0) (usage.jobs + cond (begins && not refused) 1 0) (steps i)
by_session false begins refused usage few = same usage few

by_act : (name : List ℕ) (act : Act (List ℕ)) (refused : Bool) (usage : Usage) → usage.steps ≤ 2 ^ 64 - 1 → with_told name act refused usage ≡ with_act name act refused usage
by_act name (Operator line) refused usage few = by_operator name line refused usage few
by_act name (Session own line) refused usage few = by_session (bytes_eq own name) (begins_job line) refused usage few

pub counted_more : (name : List ℕ) (xs : List Told) (one : Told) → usage_in name (xs ++ one ∷ []) ≡ with_act name one.act one.refused (usage_in name xs)
counted_more name xs one = told_more name xs one ∙ by_act name one.act one.refused (usage_in name xs) (omega arith)

-- as many are counted as there are acts
pub counted_within : (name : List ℕ) (told : List Told) (place : ℕ) → place < 2 ^ 64 - 1 → IsWithin (2 ^ 64 - 1) (usage_in name (take place told))
counted_within name told place low =
    let long : length (take place told) ≡ min place (length told) = length-take place told in
    let lines = few (λ (t : Told). is_own name t.act) (take place told) in
    let refused = few (λ (t : Told). is_own name t.act && t.refused) (take place told) in
    let jobs = few (λ (t : Told). is_job name t.act && not t.refused) (take place told) in
    record { lines = omega arith; refused = omega arith; jobs = omega arith }

-- the first acts with one more
pub counted_next : (name : List ℕ) (told : List Told) (place : ℕ) (one : Told) → place < length told → get_or told place one ≡ one
    → usage_in name (take (place + 1) told) ≡ with_act name one.act one.refused (usage_in name (take place told))
counted_next name told place one within is =
    ap (usage_in name) (take_more told place one within ∙ ap (λ t. take place told ++ t ∷ []) is) ∙ counted_more name (take place told) one

-- the act at a place, with its reply
pub told_at : (acts : List (Act (List ℕ))) (replies : List AnsweredLine) (place : ℕ) (act : Act (List ℕ)) (line : AnsweredLine) → place < length acts → place < length replies
    → get_or acts place act ≡ act → get_or replies place line ≡ line
    → get_or (told_of acts replies) place (record { act = act; refused = is_refusal line.reply }) ≡ record { act = act; refused = is_refusal line.reply }
told_at acts replies place act line in_acts in_replies act_is line_is =
    let f : Act (List ℕ) × AnsweredLine → Told = λ p. record { act = p.0; refused = is_refusal p.1.reply } in
    let long : length (zip acts replies) ≡ min (length acts) (length replies) = length-zip acts replies in
    let pair : get_or (zip acts replies) place (act, line) ≡ (act, line) = get_or-zip acts replies place (act, line) in_acts in_replies ∙ (λ i. (act_is i, line_is i)) in
    get_or-map f (zip acts replies) place (act, line) (f (act, line)) (omega arith) ∙ ap f pair

pub told_long : (acts : List (Act (List ℕ))) (replies : List AnsweredLine) → length (told_of acts replies) ≡ min (length acts) (length replies)
told_long acts replies = length-map (zip acts replies) (λ (p : Act (List ℕ) × AnsweredLine). let t : Told = record { act = p.0; refused = is_refusal p.1.reply } in t) ∙ length-zip acts replies

-- all acts
pub all_told : (name : List ℕ) (acts : List (Act (List ℕ))) (replies : List AnsweredLine) (place : ℕ) → min (length acts) (length replies) ≤ place
    → usage_in name (take place (told_of acts replies)) ≡ usage_of name acts replies
all_told name acts replies place many =
    let long : length (told_of acts replies) ≡ min (length acts) (length replies) = told_long acts replies in
    ap (usage_in name) (take_all place (told_of acts replies) (omega arith))
