-- The accounts of names, act by act.
use Rattle.script_replies.proofs.Prelude.{ℕ, suc, zero, ◌≡◌, ◌∙◌, ◌+◌, ◌-◌, ◌^◌, ◌<◌, ◌≤◌, Bool, true, false, cond, List, [], ◌∷◌, ◌++◌, length, map, min, set, take, get_or, slice_get, Option, Some, None, sym, subst, refl, ap, arith, zip, bytes_eq, get_or-map, length-map, map-append, map-set, take_all, take_more, fold_push, get_or_from_slice_get, slice_get_within, get_or-zip, length-zip, number_of, asked_in, AnsweredLine, answered_line, names_of, Answered, AreOnce, names_once, one_updated, named_act, Act, Operator, Session, OperatorLine, Admit, Evict, Move, Owners, Step, Take, Put, AreAccountsWithin, NameAccount, account_after, account_now, account_of, name_in, no_account, operator_name, update_named, updated, FileStates, after_act, after_operator, files_after, files_in, IsWithin, Told, is_refusal, told_of, usage_in, with_act, with_operator, Account, Usage}
use Rattle.std.specs.Borrow.{Bor}
use Rattle.script_text.specs.declared.operator_line.OperatorLine.TheVariants.{List as ListAll}
use Rattle.script_replies.proofs.Counting.{all_told, counted_next, counted_within, told_at, told_long}

same_either : {X : Type 0} (b : Bool) (x : X) → cond b x x ≡ x
same_either true x = refl
same_either false x = refl

-- ---- an act changes nothing of a name that is not in it

abbrev IsOther : List ℕ → Option (List ℕ) → Type 0
IsOther name None = Unit {0}
IsOther name (Some own) = bytes_eq own name ≡ false

other_operator_files : (name : List ℕ) (line : OperatorLine (List ℕ)) (files : FileStates) → IsOther name (operator_name line) → after_operator name line files ≡ files
other_operator_files name (Admit own columns) files other = rw other refl
other_operator_files name (Evict own) files other = rw other refl
other_operator_files name (Move own offset) files other = refl
other_operator_files name ListAll files other = refl
other_operator_files name Owners files other = refl
other_operator_files name (Step own count) files other = refl
other_operator_files name (Take own) files other = refl
other_operator_files name (Put number) files other = refl

other_files : (name : List ℕ) (act : Act (List ℕ)) (reply : List ℕ) (files : FileStates) → IsOther name (name_in act) → files_after name act reply files ≡ files
other_files name act reply files other = ap (λ fs. cond (is_refusal reply) files fs) (by act other) ∙ same_either (is_refusal reply) files
  where
    by : (act : Act (List ℕ)) → IsOther name (name_in act) → after_act name act reply files ≡ files
    by (Operator line) other = other_operator_files name line files other
    by (Session own line) other = rw other refl

other_operator_usage : (name : List ℕ) (line : OperatorLine (List ℕ)) (refused : Bool) (usage : Usage) → IsOther name (operator_name line) → with_operator name line refused usage ≡ usage
other_operator_usage name (Admit own columns) refused usage other = rw other refl
other_operator_usage name (Evict own) refused usage other = refl
other_operator_usage name (Move own offset) refused usage other = refl
other_operator_usage name ListAll refused usage other = refl
other_operator_usage name Owners refused usage other = refl
other_operator_usage name (Step own count) refused usage other = rw other refl
other_operator_usage name (Take own) refused usage other = refl
other_operator_usage name (Put number) refused usage other = refl

other_usage : (name : List ℕ) (act : Act (List ℕ)) (refused : Bool) (usage : Usage) → IsOther name (name_in act) → with_act name act refused usage ≡ usage
other_usage name (Operator line) refused usage other = other_operator_usage name line refused usage other
other_usage name (Session own line) refused usage other = rw other refl

abbrev make : List ℕ → Usage → FileStates → NameAccount
make name usage files = record { name = name; usage = usage; files = files }

other_account : (act : Act (List ℕ)) (reply : List ℕ) (account : NameAccount) → IsOther account.name (name_in act) → account_after act reply account ≡ account
other_account act reply account other =
    ap (λ u. make account.name u (files_after account.name act reply account.files)) (other_usage account.name act (is_refusal reply) account.usage other)
    ∙ ap (make account.name account.usage) (other_files account.name act reply account.files other)

-- ---- the account of a name after some of the acts

abbrev pub account_at : List (Act (List ℕ)) → List AnsweredLine → ℕ → List ℕ → NameAccount
account_at acts replies place name = make name (usage_in name (take place (told_of acts replies))) (files_in name (take place (zip acts replies)))

account_next : (acts : List (Act (List ℕ))) (replies : List AnsweredLine) (place : ℕ) (act : Act (List ℕ)) (line : AnsweredLine) (name : List ℕ) → place < length acts → place < length replies → get_or acts place act ≡ act → get_or replies place line ≡ line →
    account_at acts replies (place + 1) name ≡ account_after act line.reply (account_at acts replies place name)
account_next acts replies place act line name in_acts in_replies act_is line_is =
    let one : Told = record { act = act; refused = is_refusal line.reply } in
    let long : length (told_of acts replies) ≡ min (length acts) (length replies) = told_long acts replies in
    let both : length (zip acts replies) ≡ min (length acts) (length replies) = length-zip acts replies in
    let usage = counted_next name (told_of acts replies) place one (omega arith) (told_at acts replies place act line in_acts in_replies act_is line_is) in
    let pair : get_or (zip acts replies) place (act, line) ≡ (act, line) = get_or-zip acts replies place (act, line) in_acts in_replies ∙ (λ i. (act_is i, line_is i)) in
    let more : take (place + 1) (zip acts replies) ≡ take place (zip acts replies) ++ (act, line) ∷ [] = take_more (zip acts replies) place (act, line) (omega arith) ∙ ap (λ p. take place (zip acts replies) ++ p ∷ []) pair in
    let files : files_in name (take (place + 1) (zip acts replies)) ≡ files_after name act line.reply (files_in name (take place (zip acts replies))) =
    ap (files_in name) more ∙ fold_push (λ fs (p : Act (List ℕ) × AnsweredLine). files_after name p.0 p.1.reply fs) _ (take place (zip acts replies)) (act, line) in
    ap (λ u. make name u (files_in name (take (place + 1) (zip acts replies)))) usage
    ∙ ap (make name (with_act name act (is_refusal line.reply) (usage_in name (take place (told_of acts replies))))) files

-- one act more, for all names
same_map : {S : Type 0} (f g : List ℕ → S) (names : List (List ℕ)) → ((name : List ℕ) → g name ≡ f name) → map g names ≡ map f names
same_map f g [] same = refl
same_map f g (name ∷ names) same = ap (λ x. x ∷ map g names) (same name) ∙ ap (λ xs. f name ∷ xs) (same_map f g names same)

all_next : (acts : List (Act (List ℕ))) (replies : List AnsweredLine) (place : ℕ) (act : Act (List ℕ)) (line : AnsweredLine) (names : List (List ℕ)) → AreOnce names → place < length acts → place < length replies → get_or acts place act ≡ act → get_or replies place line ≡ line →
    map (account_at acts replies (place + 1)) names ≡ updated names act line.reply (map (account_at acts replies place) names)
all_next acts replies place act line names once in_acts in_replies act_is line_is = by (name_in act) refl
  where
    next : (name : List ℕ) → account_at acts replies (place + 1) name ≡ account_after act line.reply (account_at acts replies place name)
    next name = account_next acts replies place act line name in_acts in_replies act_is line_is

    by : (o : Option (List ℕ)) → name_in act ≡ o → map (account_at acts replies (place + 1)) names ≡ update_named names act line.reply (map (account_at acts replies place) names) o
    by None is = same_map (account_at acts replies place) (account_at acts replies (place + 1)) names (λ name. next name ∙ other_account act line.reply (account_at acts replies place name) (subst (IsOther name) (sym is) tt))
    by (Some own) is =
        one_updated (account_at acts replies place) (account_at acts replies (place + 1)) (account_after act line.reply) (no_account []) own names once
        (λ name differ. next name ∙ other_account act line.reply (account_at acts replies place name) (subst (IsOther name) (sym is) differ)) (next own)

-- ---- the loop

pub add_next : (acts : List (Act (Bor (List ℕ)))) (lines : List Answered) (names : List (List ℕ)) (place : ℕ) (act : Act (Bor (List ℕ))) (none : Answered) (old new : List NameAccount) → place < length acts → place < length lines → act ≡ get_or acts place act →
    names ≡ names_of (asked_in (map answered_line lines)) → old ≡ map (account_at (map named_act acts) (map answered_line lines) place) names → new ≡ updated names (named_act act) (answered_line (get_or lines place none)).reply old →
    new ≡ map (account_at (map named_act acts) (map answered_line lines) (place + 1)) names
add_next acts lines names place act none old new in_acts in_lines act_is are old_is new_is =
    let line : AnsweredLine = answered_line (get_or lines place none) in
    let long_acts : length (map named_act acts) ≡ length acts = length-map acts named_act in
    let long_lines : length (map answered_line lines) ≡ length lines = length-map lines answered_line in
    new_is ∙ ap (updated names (named_act act) line.reply) old_is
    ∙ sym (all_next (map named_act acts) (map answered_line lines) place (named_act act) line names (subst AreOnce (sym are) (names_once (asked_in (map answered_line lines)))) (omega arith) (omega arith)
    (get_or-map named_act acts place act (named_act act) in_acts ∙ ap named_act (sym act_is)) (get_or-map answered_line lines place none line in_lines))

pub none_yet : (acts : List (Act (List ℕ))) (replies : List AnsweredLine) (names : List (List ℕ)) → map no_account names ≡ map (account_at acts replies 0) names
none_yet acts replies [] = refl
none_yet acts replies (name ∷ names) = ap (λ rest. no_account name ∷ rest) (none_yet acts replies names)

all_within : (acts : List (Act (List ℕ))) (replies : List AnsweredLine) (place : ℕ) (names : List (List ℕ)) → place < 2 ^ 64 - 1 → AreAccountsWithin (2 ^ 64 - 1) (map (account_at acts replies place) names)
all_within acts replies place [] low = tt
all_within acts replies place (name ∷ names) low = (counted_within name (told_of acts replies) place low, all_within acts replies place names low)

pub accounts_within : (acts : List (Act (List ℕ))) (replies : List AnsweredLine) (place : ℕ) (names : List (List ℕ)) (accounts : List NameAccount) → place < 2 ^ 64 - 1 → accounts ≡ map (account_at acts replies place) names → AreAccountsWithin (2 ^ 64 - 1) accounts
accounts_within acts replies place names accounts low is = subst (AreAccountsWithin (2 ^ 64 - 1)) (sym is) (all_within acts replies place names low)

pub all_added : (acts : List (Act (List ℕ))) (replies : List AnsweredLine) (place : ℕ) (names : List (List ℕ)) → min (length acts) (length replies) ≤ place → map (account_at acts replies place) names ≡ map (λ name. account_of name acts replies) names
all_added acts replies place names many = same_map (λ name. account_of name acts replies) (account_at acts replies place) names (λ name.
    let both : length (zip acts replies) ≡ min (length acts) (length replies) = length-zip acts replies in
    ap (λ u. make name u (files_in name (take place (zip acts replies)))) (all_told name acts replies place many)
    ∙ ap (λ ps. make name (usage_in name (told_of acts replies)) (files_in name ps)) (take_all place (zip acts replies) (omega arith)))

-- the account with a number is within the limit
pub within_at : (accounts : List Account) (number : ℕ) (none : Account) → number < length accounts → AreAccountsWithin (2 ^ 64 - 1) (map account_now accounts) → IsWithin (2 ^ 64 - 1) (get_or accounts number none).usage
within_at [] number none inside within = absurd (omega arith)
within_at (account ∷ accounts) zero none inside within = within.0
within_at (account ∷ accounts) (suc number) none inside within = within_at accounts number none (omega arith) within.1

pub is_updated : (names : List (List ℕ)) (accounts : List Account) (act : Act (List ℕ)) (reply own : List ℕ) (number : ℕ) (old new : Account) → number < length accounts → number ≡ number_of names own → name_in act ≡ Some own → old ≡ get_or accounts number old →
    account_now new ≡ account_after act reply (account_now old) → map account_now (set accounts number new) ≡ updated names act reply (map account_now accounts)
is_updated names accounts act reply own number old new inside numbered named at is =
    map-set account_now accounts number new
    ∙ ap (set (map account_now accounts) number) (is ∙ ap (account_after act reply) (ap account_now at ∙ sym (get_or-map account_now accounts number old (no_account []) inside)))
    ∙ ap (λ n. set (map account_now accounts) n (account_after act reply (get_or (map account_now accounts) n (no_account [])))) numbered
    ∙ sym (ap (update_named names act reply (map account_now accounts)) named)

-- one name more
pub one_more_name : (names : List (List ℕ)) (accounts : List Account) (number : ℕ) (name : List ℕ) (one : Account) → slice_get names number ≡ Some name → account_now one ≡ no_account name → map account_now accounts ≡ map no_account (take number names) →
    map account_now (accounts ++ one ∷ []) ≡ map no_account (take (number + 1) names)
one_more_name names accounts number name one at is so =
    let inside = slice_get_within names number name at in
    map-append account_now accounts (one ∷ []) ∙ ap (λ front. front ++ account_now one ∷ []) so ∙ ap (λ last. map no_account (take number names) ++ last ∷ []) is
    ∙ sym (map-append no_account (take number names) (name ∷ []))
    ∙ sym (ap (map no_account) (take_more names number name inside ∙ ap (λ n. take number names ++ n ∷ []) (get_or_from_slice_get names number name name at)))
