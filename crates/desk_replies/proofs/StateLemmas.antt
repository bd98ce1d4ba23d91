-- The states after acts, one act after another.
use Rattle.desk_replies.proofs.Prelude.{ℕ, ◌≡◌, ◌∙◌, ◌+◌, ◌<◌, ◌≤◌, List, [], ◌∷◌, ◌++◌, length, map, min, drop, get_or, inl, inr, refl, ap, sym, arith, add-one, Bor, drop-cons, cases_lt, at_drop_all, get_or-map, length-map, AnsweredLine, answered_line, Answered, named_act, Act, states_from, states_in}

-- the acts and replies from a place on are those at it and those after it
pub states_next : (acts : List (Act (Bor (List ℕ)))) (lines : List Answered) (i : ℕ) (act : Act (Bor (List ℕ))) (none : Answered) → i < length acts → i < length lines → act ≡ get_or acts i act
    → states_from i (drop i (map named_act acts)) (drop i (map answered_line lines))
    ≡ states_in i (named_act act) (answered_line (get_or lines i none)).reply ++ states_from (i + 1) (drop (i + 1) (map named_act acts)) (drop (i + 1) (map answered_line lines))
states_next acts lines i act none in_acts in_lines is =
    let many : List (Act (List ℕ)) = map named_act acts in
    let replies : List AnsweredLine = map answered_line lines in
    let long_acts : length many ≡ length acts = length-map acts named_act in
    let long_lines : length replies ≡ length lines = length-map lines answered_line in
    let here : get_or many i (named_act act) ≡ named_act act = get_or-map named_act acts i act (named_act act) in_acts ∙ ap named_act (sym is) in
    let there : get_or replies i (answered_line none) ≡ answered_line (get_or lines i none) = get_or-map answered_line lines i none (answered_line none) in_lines in
    let in_many : i < length many = omega arith in
    let in_replies : i < length replies = omega arith in
    let first : drop i many ≡ named_act act ∷ drop (i + 1) many = rw (add-one i) (drop-cons many i (named_act act) in_many) ∙ ap (λ (a : Act (List ℕ)). a ∷ drop (i + 1) many) here in
    let second : drop i replies ≡ answered_line (get_or lines i none) ∷ drop (i + 1) replies = rw (add-one i) (drop-cons replies i (answered_line none) in_replies) ∙ ap (λ (a : AnsweredLine). a ∷ drop (i + 1) replies) there in
    ap (λ (xs : List (Act (List ℕ))). states_from i xs (drop i replies)) first ∙ ap (λ (ys : List AnsweredLine). states_from i (named_act act ∷ drop (i + 1) many) ys) second

-- no reply is left
no_replies : (number : ℕ) (acts : List (Act (List ℕ))) → states_from number acts [] ≡ []
no_replies number [] = refl
no_replies number (act ∷ acts) = refl

pub no_more : (acts : List (Act (List ℕ))) (lines : List AnsweredLine) (i : ℕ) → min (length acts) (length lines) ≤ i → states_from i (drop i acts) (drop i lines) ≡ []
no_more acts lines i many =
    elim (cases_lt i (length acts)) [
      | inl more ↦ at_drop_all (λ (ls : List AnsweredLine). states_from i (drop i acts) ls) lines i (omega arith) ∙ no_replies i (drop i acts)
      | inr none ↦ at_drop_all (λ (some : List (Act (List ℕ))). states_from i some (drop i lines)) acts i none
    ]
