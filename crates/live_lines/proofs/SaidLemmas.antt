-- The texts that names are in, kept by the names' numbers.
use Rattle.live_lines.proofs.Prelude.{◌≡◌, ℕ, suc, ◌<◌, ◌≤◌, List, [], ◌∷◌, ◌++◌, length, get_or, Bool, true, false, cond, if◌then◌else◌, Option, None, Result, refl, sym, ap, ◌∙◌, arith, bytes_eq, set, bytes_eq-Decides, number_of, with_name, number_of-first, number_of-later, with_name-later, IfOk, AllocError, SessionLine, GivesItem, TextSoFar, HearsLine, Texts, no_texts, text_in}

abbrev Text : Type 0
Text = Option TextSoFar

same_name : (name : List ℕ) → bytes_eq name name ≡ true
same_name name = (bytes_eq-Decides name name).1 refl

are_same : (a b : List ℕ) → bytes_eq a b ≡ true → a ≡ b
are_same a b e = (bytes_eq-Decides a b).0 e

-- a name that is first, and one that isn't
text_first : (n : List ℕ) (names : List (List ℕ)) (t : Text) (texts : List Text) (name : List ℕ) → bytes_eq name n ≡ true → text_in (n ∷ names) (t ∷ texts) name ≡ t
text_first n names t texts name e = rw e refl

text_later : (n : List ℕ) (names : List (List ℕ)) (t : Text) (texts : List Text) (name : List ℕ) → bytes_eq name n ≡ false → text_in (n ∷ names) (t ∷ texts) name ≡ text_in names texts name
text_later n names t texts name e = rw e refl

no_text : (b : Bool) → ◌≡◌ {A = Text} (cond b None None) None
no_text b = grind arith

-- a name that is new is in no text
pub text_in-more : (names : List (List ℕ)) (texts : List Text) (name other : List ℕ) → length texts ≡ length names → length texts ≤ number_of names name → text_in (with_name names name) (texts ++ None ∷ []) other ≡ text_in names texts other
text_in-more [] [] name other even past = no_text (bytes_eq other name)
text_in-more [] (t ∷ texts) name other even past = absurd (omega arith)
text_in-more (n ∷ names) [] name other even past = absurd (omega arith)
text_in-more (n ∷ names) (t ∷ texts) name other even past =
    elim (bytes_eq name n) as (λ b. bytes_eq name n ≡ b → text_in (with_name (n ∷ names) name) (t ∷ (texts ++ None ∷ [])) other ≡ text_in (n ∷ names) (t ∷ texts) other) [
      | true ↦ λ e. let first = number_of-first n names name e in absurd (omega (arith, past, first))
      | false ↦ λ e. let later = number_of-later n names name e in
          ap (λ ns. text_in ns (t ∷ (texts ++ None ∷ [])) other) (with_name-later n names name e)
          ∙ ap (λ r. if bytes_eq other n then t else r) (text_in-more names texts name other (omega arith) (omega (arith, past, later)))
    ] refl

-- the number of a name that was added
pub number_of-added : (names : List (List ℕ)) (name : List ℕ) → number_of (with_name names name) name ≡ number_of names name
number_of-added [] name = number_of-first name [] name (same_name name)
number_of-added (n ∷ names) name = grind (arith, number_of-added names name)

-- the text at a name's number is the name's
pub text_at : (names : List (List ℕ)) (texts : List Text) (name : List ℕ) (d : Text) → length texts ≡ length names → number_of names name < length texts → get_or texts (number_of names name) d ≡ text_in names texts name
text_at [] [] name d even within = absurd (omega arith)
text_at [] (t ∷ texts) name d even within = absurd (omega arith)
text_at (n ∷ names) [] name d even within = absurd (omega arith)
text_at (n ∷ names) (t ∷ texts) name d even within =
    elim (bytes_eq name n) as (λ b. bytes_eq name n ≡ b → get_or (t ∷ texts) (number_of (n ∷ names) name) d ≡ text_in (n ∷ names) (t ∷ texts) name) [
      | true ↦ λ e. ap (λ k. get_or (t ∷ texts) k d) (number_of-first n names name e) ∙ sym (text_first n names t texts name e)
      | false ↦ λ e. let later = number_of-later n names name e in
          let next : number_of (n ∷ names) name ≡ suc (number_of names name) = omega (arith, later) in
          ap (λ k. get_or (t ∷ texts) k d) next ∙ (text_at names texts name d (omega arith) (omega (arith, within, later)) ∙ sym (text_later n names t texts name e))
    ] refl

-- a name without a number is in none
pub text_past : (names : List (List ℕ)) (texts : List Text) (name : List ℕ) → length texts ≡ length names → length texts ≤ number_of names name → text_in names texts name ≡ None
text_past [] texts name even past = refl
text_past (n ∷ names) [] name even past = refl
text_past (n ∷ names) (t ∷ texts) name even past =
    elim (bytes_eq name n) as (λ b. bytes_eq name n ≡ b → text_in (n ∷ names) (t ∷ texts) name ≡ None) [
      | true ↦ λ e. let first = number_of-first n names name e in absurd (omega (arith, past, first))
      | false ↦ λ e. let later = number_of-later n names name e in
          text_later n names t texts name e ∙ text_past names texts name (omega arith) (omega (arith, past, later))
    ] refl

-- and once it was changed
pub text_set : (names : List (List ℕ)) (texts : List Text) (name : List ℕ) (v : Text) → length texts ≡ length names → number_of names name < length texts → text_in names (set texts (number_of names name) v) name ≡ v
text_set [] [] name v even within = absurd (omega arith)
text_set [] (t ∷ texts) name v even within = absurd (omega arith)
text_set (n ∷ names) [] name v even within = absurd (omega arith)
text_set (n ∷ names) (t ∷ texts) name v even within =
    elim (bytes_eq name n) as (λ b. bytes_eq name n ≡ b → text_in (n ∷ names) (set (t ∷ texts) (number_of (n ∷ names) name) v) name ≡ v) [
      | true ↦ λ e. ap (λ k. text_in (n ∷ names) (set (t ∷ texts) k v) name) (number_of-first n names name e) ∙ text_first n names v texts name e
      | false ↦ λ e. let later = number_of-later n names name e in
          let next : number_of (n ∷ names) name ≡ suc (number_of names name) = omega (arith, later) in
          ap (λ k. text_in (n ∷ names) (set (t ∷ texts) k v) name) next ∙ (text_later n names t (set texts (number_of names name) v) name e ∙ text_set names texts name v (omega arith) (omega (arith, within, later)))
    ] refl

other_than : (a b n : List ℕ) → bytes_eq a b ≡ false → bytes_eq b n ≡ true → bytes_eq a n ≡ false
other_than a b n apart at = sym (ap (λ x. bytes_eq a x) (are_same b n at)) ∙ apart

-- what the others are in stays
pub text_set-other : (names : List (List ℕ)) (texts : List Text) (name other : List ℕ) (v : Text) → length texts ≡ length names → number_of names name < length texts → bytes_eq other name ≡ false →
    text_in names (set texts (number_of names name) v) other ≡ text_in names texts other
text_set-other [] [] name other v even within apart = absurd (omega arith)
text_set-other [] (t ∷ texts) name other v even within apart = absurd (omega arith)
text_set-other (n ∷ names) [] name other v even within apart = absurd (omega arith)
text_set-other (n ∷ names) (t ∷ texts) name other v even within apart =
    elim (bytes_eq name n) as (λ b. bytes_eq name n ≡ b → text_in (n ∷ names) (set (t ∷ texts) (number_of (n ∷ names) name) v) other ≡ text_in (n ∷ names) (t ∷ texts) other) [
      | true ↦ λ e.
          let another = other_than other name n apart e in
          ap (λ k. text_in (n ∷ names) (set (t ∷ texts) k v) other) (number_of-first n names name e) ∙ (text_later n names v texts other another ∙ sym (text_later n names t texts other another))
      | false ↦ λ e. let later = number_of-later n names name e in
          let next : number_of (n ∷ names) name ≡ suc (number_of names name) = omega (arith, later) in
          ap (λ k. text_in (n ∷ names) (set (t ∷ texts) k v) other) next
          ∙ ap (λ r. if bytes_eq other n then t else r) (text_set-other names texts name other v (omega arith) (omega (arith, within, later)) apart)
    ] refl

-- what a line gives that a name's reader took
pub hears_by : (r : Result (Option SessionLine) AllocError) (old new : Texts) (name line : List ℕ) (t u : Text) → old name ≡ t → new name ≡ u → ((other : List ℕ) → bytes_eq other name ≡ false → new other ≡ old other) →
    IfOk r (λ item. GivesItem t line item u) → IfOk r (λ item. HearsLine old name line item new)
hears_by r old new name line t u was is others gives = grind arith

-- without names, no name is in a text
pub new_texts : (names : List (List ℕ)) (texts : List Text) → names ≡ [] → ◌≡◌ {A = Texts} (text_in names texts) no_texts
new_texts names texts none = ap (λ ns. text_in ns texts) none
