-- Lines that are answered one by one.
use Rattle.live_log.proofs.Prelude.{◌≡◌, ℕ, ◌+◌, ◌≤◌, ◌<◌, Bool, true, false, List, [], ◌∷◌, ◌++◌, length, replicate, suc, Result, Ok, Err, OnOk, refl, sym, ap, subst, ◌∙◌, arith, take, kept_of, AreAnswered, answered_append, ServesIf, lines_kept}

-- whatever answers the lines that are left leads to answers to all lines
pub record Leads {S : Type 0} (answers : S → ℕ → List ℕ → List ℕ → S → Type 0) (old : S) (first : ℕ) (all : List (List ℕ)) (now : S) (number : ℕ) (rest : List (List ℕ)) : Type 0 where
  pub leads : (text : List ℕ) (new : S) → AreAnswered answers now (number + 1) rest text new → (whole : List ℕ) × AreAnswered answers old first all whole new

pub leads_none : {S : Type 0} (answers : S → ℕ → List ℕ → List ℕ → S → Type 0) (old : S) (number : ℕ) (all : List (List ℕ)) → Leads answers old (number + 1) all old number all
leads_none answers old number all = record { leads = λ text new all_of. (text, all_of) }

pub leads_line : {S : Type 0} {answers : S → ℕ → List ℕ → List ℕ → S → Type 0} {old : S} {first : ℕ} {all : List (List ℕ)} (now next : S) (number : ℕ) (lines : List (List ℕ)) (line reply : List ℕ) (others : List (List ℕ)) →
    Leads answers old first all now number lines → lines ≡ line ∷ others → answers now (number + 1) (kept_of line) reply next → Leads answers old first all next (number + 1) others
leads_line {answers = answers} now next number lines line reply others l is one = record {
  leads = λ text new rest. l.leads (reply ++ text) new (subst (λ ls. AreAnswered answers now (number + 1) ls (reply ++ text) new) (sym is) (reply, next, text, one, rest, refl));
}

pub leads_all : {S : Type 0} {answers : S → ℕ → List ℕ → List ℕ → S → Type 0} {old : S} {first : ℕ} {all : List (List ℕ)} (now : S) (number : ℕ) (lines : List (List ℕ)) →
    Leads answers old first all now number lines → lines ≡ [] → (whole : List ℕ) × AreAnswered answers old first all whole now
leads_all {answers = answers} now number lines l none = l.leads [] now (subst (λ ls. AreAnswered answers now (number + 1) ls [] now) (sym none) (refl, refl))

pub leads_if : {S : Type 0} {answers : S → ℕ → List ℕ → List ℕ → S → Type 0} {old : S} {first : ℕ} {all : List (List ℕ)} (now new : S) (number next : ℕ) (kept : Bool) (marks others : List Bool) (line : List ℕ) (lines rest : List (List ℕ)) →
    Leads answers old first all now number (lines_kept marks lines) → marks ≡ kept ∷ others → lines ≡ line ∷ rest → ServesIf answers now number kept line new next → Leads answers old first all new next (lines_kept others rest)
leads_if {answers = answers} {old = old} {first = first} {all = all} now new number next true marks others line lines rest l begins is (counted, reply, one) =
    let P : ℕ → Type 0 = λ n. answers now n (kept_of line) reply new in
    subst (λ n. Leads answers old first all new n (lines_kept others rest)) (sym counted)
    (leads_line now new number (lines_kept marks lines) line reply (lines_kept others rest) l (ap (λ ms. lines_kept ms lines) begins ∙ ap (λ ls. lines_kept (true ∷ others) ls) is) (subst P counted one))
leads_if {answers = answers} {old = old} {first = first} {all = all} now new number next false marks others line lines rest l begins is (counted, stays) =
    subst (λ n. Leads answers old first all new n (lines_kept others rest)) (sym counted)
    (subst (λ s. Leads answers old first all s number (lines_kept others rest)) (sym stays)
    (subst (λ ls. Leads answers old first all now number ls) (ap (λ ms. lines_kept ms lines) begins ∙ ap (λ ls. lines_kept (false ∷ others) ls) is) l))

pub none_chosen : (marks : List Bool) → lines_kept marks [] ≡ []
none_chosen [] = refl
none_chosen (kept ∷ marks) = refl

-- nothing is left, so no line
pub none_left : {X : Type 0} (lines : List X → List (List ℕ)) → lines [] ≡ [] → (left : List X) → length left ≡ 0 → lines left ≡ []
none_left lines none [] empty = none
none_left lines none (x ∷ left) empty = absurd (omega arith)

pub few_if : {S : Type 0} (answers : S → ℕ → List ℕ → List ℕ → S → Type 0) (now new : S) (number next rest after log : ℕ) (kept : Bool) (line : List ℕ) →
    ServesIf answers now number kept line new next → number + rest ≤ log → after < rest → next + after ≤ log
few_if answers now new number next rest after log true line s few less = let e : next ≡ number + 1 = s.0 in omega arith
few_if answers now new number next rest after log false line s few less = let e : next ≡ number = s.0 in omega arith

-- the lines that are kept before and after a line
pub counted_if : {S : Type 0} (answers : S → ℕ → List ℕ → List ℕ → S → Type 0) (now new : S) (number next : ℕ) (kept : Bool) (marks others : List Bool) (line : List ℕ) (lines rest : List (List ℕ)) (all : ℕ) →
    ServesIf answers now number kept line new next → marks ≡ kept ∷ others → lines ≡ line ∷ rest → number + length (lines_kept marks lines) ≡ all → next + length (lines_kept others rest) ≡ all
counted_if answers now new number next true marks others line lines rest all s begins is counted =
    let e : next ≡ number + 1 = s.0 in
    let l : length (lines_kept marks lines) ≡ suc (length (lines_kept others rest)) = ap (λ ms. length (lines_kept ms lines)) begins ∙ ap (λ ls. length (lines_kept (true ∷ others) ls)) is in
    omega (arith, e, l, counted)
counted_if answers now new number next false marks others line lines rest all s begins is counted =
    let e : next ≡ number = s.0 in
    let l : length (lines_kept marks lines) ≡ length (lines_kept others rest) = ap (λ ms. length (lines_kept ms lines)) begins ∙ ap (λ ls. length (lines_kept (false ∷ others) ls)) is in
    omega (arith, e, l, counted)

-- all lines are kept
pub all_chosen : (lines : List (List ℕ)) (count : ℕ) → count ≡ length lines → lines_kept (replicate count true) lines ≡ lines
all_chosen lines count is = subst (λ n. lines_kept (replicate n true) lines ≡ lines) (sym is) (by_lines lines)
  where
    by_lines : (ls : List (List ℕ)) → lines_kept (replicate (length ls) true) ls ≡ ls
    by_lines [] = refl
    by_lines (l ∷ ls) = ap (λ t. l ∷ t) (by_lines ls)

-- what was served before, and what is served after it
pub then_served : {S T E : Type 0} (answers : S → ℕ → List ℕ → List ℕ → S → Type 0) (old mid new : S) (number : ℕ) (lines more : List (List ℕ)) (result : Result T E) →
    (text : List ℕ) × AreAnswered answers old 1 lines text mid → number ≡ length lines →
    OnOk result ((text : List ℕ) × AreAnswered answers mid (number + 1) more text new) → OnOk result ((text : List ℕ) × AreAnswered answers old 1 (lines ++ more) text new)
then_served answers old mid new number lines more (Ok x) (text, some) counted (reply, rest) =
    let next : number + 1 ≡ 1 + length lines = omega (arith, counted) in
    let P : ℕ → Type 0 = λ n. AreAnswered answers mid n more reply new in
    (text ++ reply, answered_append answers old mid new 1 lines more text reply some (subst P next rest))
then_served answers old mid new number lines more (Err e) some counted rest = tt

pub on_ok : {T E P : Type 0} (result : Result T E) → P → OnOk result P
on_ok (Ok x) p = p
on_ok (Err e) p = tt
