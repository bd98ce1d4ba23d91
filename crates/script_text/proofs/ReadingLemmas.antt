-- The acts of a script that is being read.
use Rattle.script_text.proofs.Prelude.{◌≡◌, ℕ, ◌+◌, List, [], ◌∷◌, ◌++◌, true, false, append_assoc, arith, map, Bor, map_push, physical_lines, SessionLine, TextKind, Act, Session, Form, Asks, Begins, with_acts, Acts, acts_from, form_in, named_act, named_form, with_act, text_ahead, text_item, without_cr}

with_acts-push : (acts : List (Act (List ℕ))) (act : Act (List ℕ)) (rest : Acts) → with_acts (acts ++ act ∷ []) rest ≡ with_acts acts (with_act act rest)
with_acts-push acts act rest = grind (arith, append_assoc)

-- one more act is appended
pushed : (acts all : List (Act (Bor (List ℕ)))) (act : Act (Bor (List ℕ))) (rest : Acts) → all ≡ acts ++ act ∷ [] → with_acts (map named_act acts) (with_act (named_act act) rest) ≡ with_acts (map named_act all) rest
pushed acts all act rest is = grind (arith, with_acts-push, map_push)

-- a line that is an act by itself
pub asks_step : (acts all : List (Act (Bor (List ℕ)))) (act : Act (Bor (List ℕ))) (number : ℕ) (line rest after : List ℕ) (form : Form (Bor (List ℕ))) →
    physical_lines rest ≡ line ∷ physical_lines after → named_form form ≡ form_in (without_cr line) → form ≡ Asks act → all ≡ acts ++ act ∷ [] →
    with_acts (map named_act acts) (acts_from number false (physical_lines rest)) ≡ with_acts (map named_act all) (acts_from (number + 1) false (physical_lines after))
asks_step acts all act number line rest after form lines named is taken = grind (arith, pushed)

-- a line that a text follows
pub begins_step : (acts all : List (Act (Bor (List ℕ)))) (name : Bor (List ℕ)) (kind : TextKind) (told : SessionLine) (number next : ℕ) (line rest after last : List ℕ) (form : Form (Bor (List ℕ))) →
    physical_lines rest ≡ line ∷ physical_lines after → named_form form ≡ form_in (without_cr line) → form ≡ Begins name kind → told ≡ text_item kind (text_ahead (physical_lines after)) →
    acts_from (number + 1) true (physical_lines after) ≡ acts_from next false (physical_lines last) → all ≡ acts ++ Session name told ∷ [] →
    with_acts (map named_act acts) (acts_from number false (physical_lines rest)) ≡ with_acts (map named_act all) (acts_from next false (physical_lines last))
begins_step acts all name kind told number next line rest after last form lines named is text goes_on taken = grind (arith, pushed acts all (Session name told) (acts_from next false (physical_lines last)) taken)
