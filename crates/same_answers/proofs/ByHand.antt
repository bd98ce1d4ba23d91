-- A script that can be read for threads has no line that takes, steps or puts a job by hand.
use Rattle.same_answers.proofs.Prelude.{◌≡◌, ℕ, ◌+◌, List, [], ◌∷◌, Bool, true, false, not, Option, Result, Ok, Err, refl, sym, ap, ◌∙◌, subst, arith, ⊤, if◌then◌else◌, after_first, before_first, option_map_or, is_blank, LineForm, ends_text, without_cr, Act, Operator, Session, OperatorLine, Acts, acts_from, begins_text, form_by, form_in, form_of, operator_form, session_form, with_act, with_line, without_blanks, Heard, Parts, Within, heard_so_far, hears_form, with_feed, is_by_hand, threaded_from, with_said, Head, Script, Upload}

abbrev pub IsNotByHand : Act (List ℕ) → Type 0
IsNotByHand (Operator line) = is_by_hand line ≡ false
IsNotByHand (Session name item) = ⊤

abbrev pub AreNotByHand : List (Act (List ℕ)) → Type 0
AreNotByHand [] = ⊤
AreNotByHand (act ∷ acts) = IsNotByHand act × AreNotByHand acts

-- whether the next line belongs to a text
abbrev pub in_text : Within → Bool
in_text Script = false
in_text Head = true
in_text (Upload name) = true

-- the same of the lines that are left
abbrev Later : ℕ → List (List ℕ) → Parts → Type 0
Later number lines new = (within : Within) (mid : Parts) → threaded_from (number + 1) (heard_so_far mid within) lines ≡ Ok new → (acts : List (Act (List ℕ))) → acts_from (number + 1) (in_text within) lines ≡ Ok acts → AreNotByHand acts

abbrev Hears : ℕ → Option Heard → List (List ℕ) → Result Parts ℕ
Hears number next lines = option_map_or (λ h. threaded_from (number + 1) h lines) next (Err number)

same_acts : (acts others : List (Act (List ℕ))) → ◌≡◌ {A = Acts} (Ok acts) (Ok others) → acts ≡ others
same_acts acts others is = cc

one_more : (act : Act (List ℕ)) (r : Acts) (acts : List (Act (List ℕ))) → IsNotByHand act → ((more : List (Act (List ℕ))) → r ≡ Ok more → AreNotByHand more) → with_act act r ≡ Ok acts → AreNotByHand acts
one_more act r acts one rest is = grind arith

by_tests : (number : ℕ) (line : List ℕ) (lines : List (List ℕ)) (old new : Parts) (acts : List (Act (List ℕ))) (other : List ℕ) → Later number lines new → (comment session named op : Bool) (form : LineForm) (asked : Option (OperatorLine (List ℕ))) →
    Hears number (hears_form old (if comment then form_by [] [] else if session then (if named then session_form other form else form_by (64 ∷ []) []) else if op then operator_form asked else form_by (64 ∷ []) []) line) lines ≡ Ok new →
    with_line number (if comment then form_by [] [] else if session then (if named then session_form other form else form_by (64 ∷ []) []) else if op then operator_form asked else form_by (64 ∷ []) []) lines (acts_from (number + 1) (begins_text (if comment then form_by [] [] else if session then (if named then session_form other form else form_by (64 ∷ []) []) else if op then operator_form asked else form_by (64 ∷ []) [])) lines) ≡ Ok acts →
    AreNotByHand acts
by_tests number line lines old new acts other later comment session named op form asked goes is = grind arith

by_first : (number : ℕ) (line : List ℕ) (lines : List (List ℕ)) (old new : Parts) (acts : List (Act (List ℕ))) → Later number lines new → (first rest : List ℕ) → Hears number (hears_form old (form_by first rest) line) lines ≡ Ok new →
    with_line number (form_by first rest) lines (acts_from (number + 1) (begins_text (form_by first rest)) lines) ≡ Ok acts → AreNotByHand acts
by_first number line lines old new acts later first rest goes is = grind arith

-- a line by its first word, and by what is after it
abbrev first_word : List ℕ → List ℕ
first_word line = before_first is_blank (without_blanks (without_cr line))

abbrev after_word : List ℕ → List ℕ
after_word line = after_first is_blank (without_blanks (without_cr line))

form_is : (line : List ℕ) → form_of line ≡ form_by (first_word line) (after_word line)
unfolding form_in
form_is line = refl

-- a line of a text
text_line : (number : ℕ) (lines : List (List ℕ)) (mid new : Parts) (within : Within) (acts : List (Act (List ℕ))) → in_text within ≡ true → Later number lines new → (b : Bool) → threaded_from (number + 1) (heard_so_far mid (if b then Script else within)) lines ≡ Ok new →
    acts_from (number + 1) (not b) lines ≡ Ok acts → AreNotByHand acts
text_line number lines mid new within acts text later b goes is = grind arith

pub not_by_hand : (number : ℕ) (within : Within) (old : Parts) (lines : List (List ℕ)) (new : Parts) → threaded_from number (heard_so_far old within) lines ≡ Ok new → (acts : List (Act (List ℕ))) → acts_from number (in_text within) lines ≡ Ok acts → AreNotByHand acts
not_by_hand number Script old [] new goes acts is = subst AreNotByHand (same_acts [] acts is) tt
not_by_hand number Head old [] new goes acts is = subst AreNotByHand (same_acts [] acts is) tt
not_by_hand number (Upload name) old [] new goes acts is = subst AreNotByHand (same_acts [] acts is) tt
not_by_hand number Script old (line ∷ lines) new goes acts is =
    by_first number line lines old new acts (λ within mid more others are. not_by_hand (number + 1) within mid lines new more others are) (first_word line) (after_word line)
    (ap (λ f. Hears number (hears_form old f line) lines) (sym (form_is line)) ∙ goes)
    (ap (λ f. with_line number f lines (acts_from (number + 1) (begins_text f) lines)) (sym (form_is line)) ∙ is)
not_by_hand number Head old (line ∷ lines) new goes acts is =
    text_line number lines old new Head acts refl (λ within mid more others are. not_by_hand (number + 1) within mid lines new more others are) (ends_text line) goes is
not_by_hand number (Upload name) old (line ∷ lines) new goes acts is =
    text_line number lines (with_said old name (with_feed line)) new (Upload name) acts refl (λ within mid more others are. not_by_hand (number + 1) within mid lines new more others are) (ends_text line) goes is
