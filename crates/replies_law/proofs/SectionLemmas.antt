-- What is written is what is printed for the replies.
use Rattle.replies_law.proofs.Prelude.{◌≡◌, ℕ, Bool, true, false, cond, ◌||◌, List, [], ◌∷◌, ◌++◌, map, fold, Some, None, refl, sym, ap, ◌∙◌, append_assoc, append-nil, subst, arith, ⊤, bytes_eq, false≢true, bytes_eq-Decides, with_name-first, with_name-later, Act, Operator, Session, asked_in, printed_for, section_of, told_to, AnsweredLine, AskedLine, heading, with_reply, with_speaker, asked_of, Section, section_text, Telling, sections_after, told_operator, told_session, with_text, replies_text, answered_line}
use Rattle.std.specs.Prelude.{flat_map}
use Rattle.line_text.specs.Names.{has_name, with_name}
use Rattle.printed_replies.specs.Replies.{names_of}

abbrev pub lines_of : List Telling → List AnsweredLine
lines_of tellings = map answered_line tellings

-- the operator's texts
operator_told : (tellings : List Telling) → told_to None (lines_of tellings) ≡ flat_map (λ t. told_operator t.act t.text) tellings
operator_told [] = refl
operator_told (t ∷ ts) = grind (arith, operator_told ts)

-- names, no two of them equal
abbrev pub Others : List ℕ → List (List ℕ) → Type 0
Others name [] = ⊤
Others name (other ∷ names) = (bytes_eq other name ≡ false) × Others name names

abbrev pub AreDistinct : List (List ℕ) → Type 0
AreDistinct [] = ⊤
AreDistinct (name ∷ names) = Others name names × AreDistinct names

abbrev pub sec : List ℕ → List ℕ → Section
sec name text = record { name = name; text = text }

abbrev more_for : List ℕ → List ℕ → List ℕ → List ℕ
more_for name text other = cond (bytes_eq other name) text []

map_same : {A B : Type 0} (f g : A → B) → ((a : A) → f a ≡ g a) → (xs : List A) → map f xs ≡ map g xs
map_same f g same [] = refl
map_same f g same (x ∷ xs) = ap (λ b. b ∷ map f xs) (same x) ∙ ap (λ bs. g x ∷ bs) (map_same f g same xs)

turned : (a b : List ℕ) → bytes_eq a b ≡ false → bytes_eq b a ≡ false
turned a b e = grind (arith, bytes_eq-Decides)

-- the texts of the others don't change
rest_same : (f : List ℕ → List ℕ) (name text : List ℕ) (names : List (List ℕ)) → Others name names → map (λ n. sec n (f n)) names ≡ map (λ n. sec n (f n ++ more_for name text n)) names
rest_same f name text [] others = refl
rest_same f name text (n ∷ names) others = grind (arith, append-nil, rest_same f name text names others.1)

-- a text goes to its name's section
one_told : (f : List ℕ → List ℕ) (name text : List ℕ) (names : List (List ℕ)) → AreDistinct names → (has_name names name ≡ false → f name ≡ []) →
    with_text (map (λ n. sec n (f n)) names) name text ≡ map (λ n. sec n (f n ++ more_for name text n)) (with_name names name)
one_told f name text [] distinct none = grind (arith, bytes_eq-Decides)
one_told f name text (n ∷ names) distinct none = by_test (bytes_eq name n) refl (λ e. one_told f name text names distinct.1 (λ never. none (ap (λ b. b || has_name names name) e ∙ never)))
  where
    by_test : (b : Bool) → bytes_eq name n ≡ b → (bytes_eq name n ≡ false → with_text (map (λ n. sec n (f n)) names) name text ≡ map (λ n. sec n (f n ++ more_for name text n)) (with_name names name)) →
        cond b (sec n (f n ++ text) ∷ map (λ n. sec n (f n)) names) (sec n (f n) ∷ with_text (map (λ n. sec n (f n)) names) name text) ≡ map (λ n. sec n (f n ++ more_for name text n)) (with_name (n ∷ names) name)
    by_test true e rest =
        let same : name ≡ n = (bytes_eq-Decides name n).0 e in
        let own : bytes_eq n name ≡ true = (bytes_eq-Decides n name).1 (sym same) in
        let P : List ℕ → Type 0 = λ m. Others m names in
        ap (λ t. sec n t ∷ map (λ n. sec n (f n)) names) (sym (ap (λ b. f n ++ cond b text []) own))
        ∙ ap (λ ss. sec n (f n ++ more_for name text n) ∷ ss) (rest_same f name text names (subst P (sym same) distinct.0))
        ∙ ap (map (λ n. sec n (f n ++ more_for name text n))) (sym (with_name-first n names name e))
    by_test false e rest =
        ap (λ t. sec n t ∷ with_text (map (λ n. sec n (f n)) names) name text) (sym (ap (λ b. f n ++ cond b text []) (turned name n e) ∙ append-nil (f n)))
        ∙ ap (λ ss. sec n (f n ++ more_for name text n) ∷ ss) (rest e)
        ∙ ap (map (λ n. sec n (f n ++ more_for name text n))) (sym (with_name-later n names name e))

-- one more name
others_more : (name new : List ℕ) (names : List (List ℕ)) → bytes_eq new name ≡ false → Others name names → Others name (with_name names new)
others_more name new [] differ others = (differ, tt)
others_more name new (n ∷ names) differ others = grind (arith, others_more name new names differ others.1)

distinct_more : (new : List ℕ) (names : List (List ℕ)) → AreDistinct names → AreDistinct (with_name names new)
distinct_more new [] distinct = (tt, tt)
distinct_more new (n ∷ names) distinct = grind (arith, others_more, distinct_more new names distinct.1)

-- a name that isn't in the list with one more name isn't in the list, and isn't that name
not_named : (names : List (List ℕ)) (new name : List ℕ) → has_name (with_name names new) name ≡ false → (has_name names name ≡ false) × (bytes_eq name new ≡ false)
not_named [] new name none = grind arith
not_named (n ∷ names) new name none = by_test (bytes_eq new n) refl (λ e. not_named names new name e)
  where
    parts : (a b : Bool) → (a || b) ≡ false → (a ≡ false) × (b ≡ false)
    parts true b e = absurd (false≢true (sym e))
    parts false b e = (refl, e)

    by_test : (b : Bool) → bytes_eq new n ≡ b → (has_name (with_name names new) name ≡ false → (has_name names name ≡ false) × (bytes_eq name new ≡ false)) →
        ((bytes_eq name n || has_name names name) ≡ false) × (bytes_eq name new ≡ false)
    by_test true e more =
        let still : (bytes_eq name n || has_name names name) ≡ false = ap (λ ns. has_name ns name) (sym (with_name-first n names new e)) ∙ none in
        (still, ap (bytes_eq name) ((bytes_eq-Decides new n).0 e) ∙ (parts (bytes_eq name n) (has_name names name) still).0)
    by_test false e more =
        let two = parts (bytes_eq name n) (has_name (with_name names new) name) (ap (λ ns. has_name ns name) (sym (with_name-later n names new e)) ∙ none) in
        let rest = more two.1 in
        (ap (λ b. b || has_name names name) two.0 ∙ rest.0, rest.1)

abbrev pub names_from : List (List ℕ) → List AskedLine → List (List ℕ)
names_from names asked = fold (λ names line. with_speaker names line.speaker) names asked

-- the sections after those replies
sections_told : (ts : List Telling) (names : List (List ℕ)) (f : List ℕ → List ℕ) → AreDistinct names → ((name : List ℕ) → has_name names name ≡ false → f name ≡ []) →
    sections_after (map (λ n. sec n (f n)) names) ts ≡ map (λ n. sec n (f n ++ told_to (Some n) (lines_of ts))) (names_from names (asked_in (lines_of ts)))
sections_told [] names f distinct none = map_same (λ n. sec n (f n)) (λ n. sec n (f n ++ [])) (λ n. ap (sec n) (sym (append-nil (f n)))) names
sections_told (t ∷ ts) names f distinct none = by_act t.act (sections_told ts names f distinct none) (λ name. sections_told ts (with_name names name) (λ n. f n ++ more_for name t.text n) (distinct_more name names distinct)
    (λ other e. let two = not_named names name other e in ap (λ b. f other ++ cond b t.text []) two.1 ∙ append-nil (f other) ∙ none other two.0))
  where
    by_act : (act : Act (List ℕ)) → sections_after (map (λ n. sec n (f n)) names) ts ≡ map (λ n. sec n (f n ++ told_to (Some n) (lines_of ts))) (names_from names (asked_in (lines_of ts))) →
        ((name : List ℕ) → sections_after (map (λ n. sec n (f n ++ more_for name t.text n)) (with_name names name)) ts ≡ map (λ n. sec n ((f n ++ more_for name t.text n) ++ told_to (Some n) (lines_of ts))) (names_from (with_name names name) (asked_in (lines_of ts)))) →
        sections_after (told_session (map (λ n. sec n (f n)) names) act t.text) ts
        ≡ map (λ n. sec n (f n ++ told_to (Some n) (with_reply (asked_of act) t.text ∷ lines_of ts))) (names_from names (asked_of act ∷ asked_in (lines_of ts)))
    by_act (Operator line) same more = same
    by_act (Session name line) same more =
        ap (λ ss. sections_after ss ts) (one_told f name t.text names distinct (none name)) ∙ more name
        ∙ map_same (λ n. sec n ((f n ++ more_for name t.text n) ++ told_to (Some n) (lines_of ts))) (λ n. sec n (f n ++ (more_for name t.text n ++ told_to (Some n) (lines_of ts))))
        (λ n. ap (sec n) (append_assoc (f n) (more_for name t.text n) (told_to (Some n) (lines_of ts)))) (names_from (with_name names name) (asked_in (lines_of ts)))

section_texts : (f : List ℕ → List ℕ) (names : List (List ℕ)) → flat_map section_text (map (λ n. sec n (f n)) names) ≡ flat_map (λ n. heading (Some n) ++ f n) names
section_texts f [] = refl
section_texts f (n ∷ names) = ap (λ t. (heading (Some n) ++ f n) ++ t) (section_texts f names)

pub printed_is_written : (tellings : List Telling) → printed_for (lines_of tellings) ≡ replies_text tellings
printed_is_written tellings =
    let lines = lines_of tellings in
    let names = names_of (asked_in lines) in
    let sections : sections_after [] tellings ≡ map (λ n. sec n (told_to (Some n) lines)) names = sections_told tellings [] (λ n. []) tt (λ name e. refl) in
    ap (λ o. (heading None ++ o) ++ flat_map (λ n. section_of (Some n) lines) names) (operator_told tellings)
    ∙ ap (λ s. (heading None ++ flat_map (λ t. told_operator t.act t.text) tellings) ++ s) (sym (ap (flat_map section_text) sections ∙ section_texts (λ n. told_to (Some n) lines) names))
