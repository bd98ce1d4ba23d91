-- The text of a name's section is what its session is answered.
use Rattle.same_answers.proofs.Prelude.{◌≡◌, ℕ, List, [], ◌∷◌, ◌++◌, Bool, true, false, refl, sym, append_assoc, append-nil, arith, if◌then◌else◌, bytes_eq, bytes_eq-Decides, Act, Section, Telling, sections_after, told_session, with_text, answer_for, answers_for, text_of}

same_name : (a b : List ℕ) → bytes_eq a b ≡ true → a ≡ b
same_name a b e = (bytes_eq-Decides a b).0 e

is_same : (a b : List ℕ) → a ≡ b → bytes_eq a b ≡ true
is_same a b e = (bytes_eq-Decides a b).1 e

not_both : (name other own : List ℕ) → bytes_eq other own ≡ false → bytes_eq name own ≡ true → (t : Bool) → bytes_eq name other ≡ t → t ≡ false
not_both name other own e f t g = grind (arith, is_same, same_name)

abbrev text_if : Bool → List ℕ → List ℕ
text_if true text = text
text_if false text = []

is_if : (t : Bool) (text : List ℕ) → (if t then text else []) ≡ text_if t text
is_if t text = grind arith

-- a text that is appended to a section
appended : (s : Section) (sections : List Section) (name other text : List ℕ) → text_of name (with_text sections other text) ≡ text_of name sections ++ text_if (bytes_eq name other) text → (mine found : Bool) → bytes_eq other s.name ≡ mine → bytes_eq name s.name ≡ found →
    text_of name (if mine then record s { text = s.text ++ text } ∷ sections else s ∷ with_text sections other text) ≡ (if found then s.text else text_of name sections) ++ text_if (bytes_eq name other) text
appended s sections name other text rest mine found e f = grind (arith, same_name, append-nil, not_both)

more_text : (sections : List Section) (name other text : List ℕ) → text_of name (with_text sections other text) ≡ text_of name sections ++ text_if (bytes_eq name other) text
more_text [] name other text = is_if (bytes_eq name other) text
more_text (s ∷ sections) name other text = appended s sections name other text (more_text sections name other text) (bytes_eq other s.name) (bytes_eq name s.name) refl refl

one_answer : (sections : List Section) (name : List ℕ) (act : Act (List ℕ)) (text : List ℕ) → text_of name (told_session sections act text) ≡ text_of name sections ++ answer_for name act text
one_answer sections name act text = grind (arith, append-nil, more_text)

all_answers : (sections : List Section) (name : List ℕ) (tellings : List Telling) → text_of name (sections_after sections tellings) ≡ text_of name sections ++ answers_for name tellings
all_answers sections name [] = sym (append-nil (text_of name sections))
all_answers sections name (t ∷ tellings) = grind (arith, one_answer, append_assoc, all_answers (told_session sections t.act t.text) name tellings)

pub section_is : (name : List ℕ) (tellings : List Telling) → text_of name (sections_after [] tellings) ≡ answers_for name tellings
section_is name tellings = all_answers [] name tellings
