-- What was asked, one act after another.
use Rattle.desk_replies.proofs.Prelude.{ℕ, ◌≡◌, ◌∙◌, ◌+◌, ◌<◌, ◌≤◌, List, [], ◌∷◌, length, map, min, drop, get_or, inl, inr, refl, ap, sym, arith, add-one, Bor, drop-cons, cases_lt, at_drop_all, get_or-map, length-map, AnsweredLine, answered_line, Answered, named_act, Act, Wish, wish_after, wish_from}

-- the acts and replies from a place on are those at it and those after it
pub wish_next : (name : List ℕ) (wish : Wish) (acts : List (Act (Bor (List ℕ)))) (lines : List Answered) (i : ℕ) (act : Act (Bor (List ℕ))) (none : Answered) → i < length acts → i < length lines → act ≡ get_or acts i act
    → wish_from name wish (drop i (map named_act acts)) (drop i (map answered_line lines))
    ≡ wish_from name (wish_after name (named_act act) (answered_line (get_or lines i none)).reply wish) (drop (i + 1) (map named_act acts)) (drop (i + 1) (map answered_line lines))
wish_next name wish acts lines i act none in_acts in_lines is =
    let many : List (Act (List ℕ)) = map named_act acts in
    let replies : List AnsweredLine = map answered_line lines in
    let long_acts : length many ≡ length acts = length-map acts named_act in
    let long_lines : length replies ≡ length lines = length-map lines answered_line in
    let here : get_or many i (named_act act) ≡ named_act act = get_or-map named_act acts i act (named_act act) in_acts ∙ ap named_act (sym is) in
    let there : get_or replies i (answered_line none) ≡ answered_line (get_or lines i none) = get_or-map answered_line lines i none (answered_line none) in_lines in
    let in_many : i < length many = omega arith in
    let in_replies : i < length replies = omega arith in
    let first : drop i many ≡ named_act act ∷ drop (i + 1) many = rw (add-one i) (drop-cons many i (named_act act) in_many) ∙ ap (λ (a : Act (List ℕ)). a ∷ drop (i + 1) many) here in
    let second : drop i replies ≡ answered_line (get_or lines i none) ∷ drop (i + 1) replies = rw (add-one i) (drop-cons replies i (answered_line none) in_replies) ∙ ap (λ (a : AnsweredLine). a ∷ drop (i + 1) replies) there in
    ap (λ (xs : List (Act (List ℕ))). wish_from name wish xs (drop i replies)) first ∙ ap (λ (ys : List AnsweredLine). wish_from name wish (named_act act ∷ drop (i + 1) many) ys) second

-- no reply is left
no_replies : (name : List ℕ) (wish : Wish) (acts : List (Act (List ℕ))) → wish_from name wish acts [] ≡ wish
no_replies name wish [] = refl
no_replies name wish (act ∷ acts) = refl

pub no_more : (name : List ℕ) (wish : Wish) (acts : List (Act (List ℕ))) (lines : List AnsweredLine) (i : ℕ) → min (length acts) (length lines) ≤ i → wish_from name wish (drop i acts) (drop i lines) ≡ wish
no_more name wish acts lines i many =
    elim (cases_lt i (length acts)) [
      | inl more ↦ at_drop_all (λ (ls : List AnsweredLine). wish_from name wish (drop i acts) ls) lines i (omega arith) ∙ no_replies name wish (drop i acts)
      | inr none ↦ at_drop_all (λ (some : List (Act (List ℕ))). wish_from name wish some (drop i lines)) acts i none
    ]
