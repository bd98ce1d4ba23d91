-- Lines that are marked one by one, and kept as their marks say.
use Rattle.live_log.proofs.Prelude.{◌≡◌, ℕ, ◌+◌, Bool, true, false, List, [], ◌∷◌, ◌++◌, length, Option, Some, None, refl, sym, ap, subst, ◌∙◌, append-nil, append_assoc, suc, arith, Result, Ok, Err, IfOk, Vec, Global, ◌==◌, kept_of, AreChosen, FitFlags, FitsFlag, FitsMark, IsDecided, NotesLine, decided, Mark}

-- lines are answered one after another, and each has a mark that fits its reply
abbrev pub AreMarked : {S : Type 0} → (S → ℕ → List ℕ → List ℕ → S → Type 0) → S → ℕ → Bool → List (List ℕ) → List Mark → S → Type 0
AreMarked answers old number first [] [] new = new ≡ old
AreMarked answers old number first [] (mark ∷ marks) new = ⊥
AreMarked answers old number first (line ∷ lines) [] new = ⊥
AreMarked {S = S} answers old number first (line ∷ lines) (mark ∷ marks) new =
    (reply : List ℕ) × (mid : S) × answers old number (kept_of line) reply mid
    × FitsMark (decided first (kept_of line) reply) mark × AreMarked answers mid (number + 1) false lines marks new

-- whatever marks the lines that are left leads to marks of all lines
pub record LeadsMarks {S : Type 0} (answers : S → ℕ → List ℕ → List ℕ → S → Type 0) (old : S) (all : List (List ℕ)) (now : S) (number : ℕ) (marks : List Mark) (rest : List (List ℕ)) : Type 0 where
  pub leads : (more : List Mark) (new : S) → AreMarked answers now (number + 1) (length marks == 0) rest more new → AreMarked answers old 1 true all (marks ++ more) new

pub marks_none : {S : Type 0} (answers : S → ℕ → List ℕ → List ℕ → S → Type 0) (old : S) (all : List (List ℕ)) (marks : List Mark) → marks ≡ [] → LeadsMarks answers old all old 0 marks all
marks_none answers old all marks none = record {
  leads = λ more new are.
      let first : (length marks == 0) ≡ true = ap (λ ms. length ms == 0) none in
      subst (λ ms. AreMarked answers old 1 true all (ms ++ more) new) (sym none) (subst (λ f. AreMarked answers old 1 f all more new) first are);
}

not_first : (marks : List Mark) (mark : Mark) → (length (marks ++ mark ∷ []) == 0) ≡ false
not_first [] mark = refl
not_first (m ∷ marks) mark = grind arith

pub marks_line : {S : Type 0} {answers : S → ℕ → List ℕ → List ℕ → S → Type 0} {old : S} {all : List (List ℕ)} (now next : S) (number : ℕ) (marks marks_next : List Mark) (lines : List (List ℕ)) (line kept reply : List ℕ) (others : List (List ℕ)) →
    LeadsMarks answers old all now number marks lines → lines ≡ line ∷ others → kept ≡ kept_of line → answers now (number + 1) kept reply next → NotesLine marks kept reply marks_next → LeadsMarks answers old all next (number + 1) marks_next others
marks_line {answers = answers} {old = old} {all = all} now next number marks marks_next lines line kept reply others l is cut one n = record {
  leads = λ more new rest.
      let not_now : (length marks_next == 0) ≡ false = ap (λ ms. length ms == 0) n.added ∙ not_first marks n.mark in
      let later : AreMarked answers next (number + 1 + 1) false others more new = subst (λ f. AreMarked answers next (number + 1 + 1) f others more new) not_now rest in
      let answered : answers now (number + 1) (kept_of line) reply next = subst (λ k. answers now (number + 1) k reply next) cut one in
      let fits : FitsMark (decided (length marks == 0) (kept_of line) reply) n.mark = subst (λ k. FitsMark (decided (length marks == 0) k reply) n.mark) cut n.fits in
      let from_here : AreMarked answers now (number + 1) (length marks == 0) lines (n.mark ∷ more) new = subst (λ ls. AreMarked answers now (number + 1) (length marks == 0) ls (n.mark ∷ more) new) (sym is) (reply, next, answered, fits, later) in
      let together : marks ++ n.mark ∷ more ≡ marks_next ++ more = sym (append_assoc marks (n.mark ∷ []) more) ∙ ap (λ ms. ms ++ more) (sym n.added) in
      subst (λ ms. AreMarked answers old 1 true all ms new) together (l.leads (n.mark ∷ more) new from_here);
}

pub marks_all : {S : Type 0} {answers : S → ℕ → List ℕ → List ℕ → S → Type 0} {old : S} {all : List (List ℕ)} (now : S) (number : ℕ) (marks : List Mark) (lines : List (List ℕ)) →
    LeadsMarks answers old all now number marks lines → lines ≡ [] → AreMarked answers old 1 true all marks now
marks_all {answers = answers} {old = old} {all = all} now number marks lines l none =
    subst (λ ms. AreMarked answers old 1 true all ms now) (append-nil marks)
    (l.leads [] now (subst (λ ls. AreMarked answers now (number + 1) (length marks == 0) ls [] now) (sym none) refl))

by_flag : (choice : Option Bool) (mark : Mark) (kept : Bool) → FitsMark choice mark → FitsFlag mark kept → IsDecided choice kept
by_flag None mark kept fits flag = tt
by_flag (Some true) mark kept fits flag = flag.keeps fits
by_flag (Some false) mark kept fits flag = flag.drops fits

-- what the marks decide is done
pub marks_chosen : {S : Type 0} (answers : S → ℕ → List ℕ → List ℕ → S → Type 0) (old : S) (number : ℕ) (first : Bool) (lines : List (List ℕ)) (marks : List Mark) (flags : List Bool) (new : S) →
    AreMarked answers old number first lines marks new → FitFlags marks flags → AreChosen answers old number first lines flags new
marks_chosen answers old number first [] [] [] new stays fit = stays
marks_chosen answers old number first [] [] (kept ∷ flags) new stays fit = elim fit [ ]
marks_chosen answers old number first [] (mark ∷ marks) flags new are fit = elim are [ ]
marks_chosen answers old number first (line ∷ lines) [] flags new are fit = elim are [ ]
marks_chosen answers old number first (line ∷ lines) (mark ∷ marks) [] new are fit = elim fit [ ]
marks_chosen answers old number first (line ∷ lines) (mark ∷ marks) (kept ∷ flags) new (reply, mid, one, fits, rest) (flag, others) =
    (reply, mid, one, by_flag (decided first (kept_of line) reply) mark kept fits flag, marks_chosen answers mid (number + 1) false lines marks flags new rest others)

pub chosen_length : {S : Type 0} (answers : S → ℕ → List ℕ → List ℕ → S → Type 0) (old : S) (number : ℕ) (first : Bool) (lines : List (List ℕ)) (flags : List Bool) (new : S) →
    AreChosen answers old number first lines flags new → length flags ≡ length lines
chosen_length answers old number first [] [] new stays = refl
chosen_length answers old number first [] (kept ∷ flags) new are = elim are [ ]
chosen_length answers old number first (line ∷ lines) [] new are = elim are [ ]
chosen_length answers old number first (line ∷ lines) (kept ∷ flags) new (reply, mid, one, is, rest) = ap suc (chosen_length answers mid (number + 1) false lines flags new rest)

-- one more flag
pub fit_push : (marks : List Mark) (flags : List Bool) (mark : Mark) (kept : Bool) → FitFlags marks flags → FitsFlag mark kept → FitFlags (marks ++ mark ∷ []) (flags ++ kept ∷ [])
fit_push [] [] mark kept fit flag = (flag, tt)
fit_push [] (k ∷ flags) mark kept fit flag = elim fit [ ]
fit_push (m ∷ marks) [] mark kept fit flag = elim fit [ ]
fit_push (m ∷ marks) (k ∷ flags) mark kept (one, fit) flag = (one, fit_push marks flags mark kept fit flag)

pub chosen_ok : {S E : Type 0} (answers : S → ℕ → List ℕ → List ℕ → S → Type 0) (old : S) (lines : List (List ℕ)) (marks : List Mark) (new : S) (result : Result (Vec Bool Global) E) →
    AreMarked answers old 1 true lines marks new → IfOk result (λ kept. FitFlags marks kept.items) → IfOk result (λ kept. AreChosen answers old 1 true lines kept.items new)
chosen_ok answers old lines marks new (Ok kept) are fit = marks_chosen answers old 1 true lines marks kept.items new are fit
chosen_ok answers old lines marks new (Err e) are fit = tt
