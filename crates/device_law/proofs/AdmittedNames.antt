-- A script admits tenancies under names that are printable.
use Rattle.device_law.proofs.Prelude.{◌≡◌, ℕ, ◌+◌, Bool, true, false, not, cond, List, [], ◌∷◌, Result, Ok, Err, Option, Some, None, sym, ◌∙◌, subst, arith, ⊤, option_map, after_first, before_first, is_blank, ends_text, without_cr, LineForm, Act, Operator, OperatorLine, Admit, Evict, Move, Owners, Step, Take, Put, Acts, acts_from, begins_text, form_by, form_in, form_of, operator_form, operator_line, session_form, with_act, with_line, without_blanks, Arch, ArchFault, Architecture, checked_start, start_of, is_name as is_listed_name}
use Rattle.std.specs.Prelude.{◌&&◌}
use Rattle.script_text.specs.declared.operator_line.OperatorLine.TheVariants.{List as ListAll}
use Rattle.script_text.specs.Script.{is_name}
use Rattle.device_law.proofs.Each.{Each}

-- the name in an admission is one that `op list` can show
abbrev pub HasName : Act (List ℕ) → Type 0
HasName (Operator (Admit name width)) = is_listed_name name ≡ true
HasName act = ⊤

-- a line of the operator
abbrev LineHas : Option (OperatorLine (List ℕ)) → Type 0
LineHas None = ⊤
LineHas (Some line) = HasName (Operator line)

admit_has : (verb name : List ℕ) (number : Option ℕ) (b : Bool) → (b && is_name name) ≡ true → LineHas (option_map (Admit name) number)
admit_has verb name number b is = grind arith

move_has : (name : List ℕ) (number : Option ℕ) → LineHas (option_map (Move name) number)
move_has name number = grind arith

step_has : (name : List ℕ) (number : Option ℕ) → LineHas (option_map (Step name) number)
step_has name number = grind arith

put_has : (number : Option ℕ) → LineHas (option_map Put number)
put_has number = grind arith

one_word : (a b : Bool) → LineHas (cond a (Some ListAll) (cond b (Some Owners) None))
one_word a b = grind arith

two_words : (name : List ℕ) (number : Option ℕ) (a b c : Bool) → LineHas (cond a (Some (Evict name)) (cond b (Some (Take name)) (cond c (option_map Put number) None)))
two_words name number a b c = grind arith

three_words : (verb name : List ℕ) (number : Option ℕ) (w a b c : Bool) → (w && is_name name) ≡ a → LineHas (cond a (option_map (Admit name) number) (cond b (option_map (Move name) number) (cond c (option_map (Step name) number) None)))
three_words verb name number w a b c e = grind arith

operator_has : (words : List (List ℕ)) → LineHas (operator_line words)
operator_has words = grind (arith, two_words, three_words)

-- and a script
abbrev AllHave : Acts → Type 0
AllHave (Ok acts) = Each HasName acts
AllHave (Err fault) = ⊤

act_has : (act : Act (List ℕ)) (rest : Acts) → HasName act → AllHave rest → AllHave (with_act act rest)
act_has act rest one all = grind arith

-- a line before others; `form_by [] []` is skipped, and `operator_form None` is faulty
asks_has : (number : ℕ) (lines : List (List ℕ)) (rest : Acts) → AllHave rest → (o : Option (OperatorLine (List ℕ))) → LineHas o → AllHave (with_line number (operator_form o) lines rest)
asks_has number lines rest all o has = grind arith

session_has : (number : ℕ) (lines : List (List ℕ)) (rest : Acts) → AllHave rest → (name : List ℕ) (form : LineForm) → AllHave (with_line number (session_form name form) lines rest)
session_has number lines rest all name form = grind arith

by_has : (number : ℕ) (lines : List (List ℕ)) (more : Acts) → AllHave more → (word rest : List ℕ) → AllHave (with_line number (form_by word rest) lines more)
by_has number lines more all word rest = search (operator_has, arith)

line_has : (number : ℕ) (line : List ℕ) (lines : List (List ℕ)) (more : Acts) → AllHave more → AllHave (with_line number (form_of line) lines more)
unfolding form_in
line_has number line lines more all = by_has number lines more all (before_first is_blank (without_blanks (without_cr line))) (after_first is_blank (without_blanks (without_cr line)))

acts_have : (number : ℕ) (within : Bool) (lines : List (List ℕ)) → AllHave (acts_from number within lines)
acts_have number within [] = tt
acts_have number true (line ∷ lines) = acts_have (number + 1) (not (ends_text line)) lines
acts_have number false (line ∷ lines) = line_has number line lines (acts_from (number + 1) (begins_text (form_of line)) lines) (acts_have (number + 1) (begins_text (form_of line)) lines)

script_has : (number : ℕ) (within : Bool) (lines : List (List ℕ)) (acts : List (Act (List ℕ))) → acts_from number within lines ≡ Ok acts → Each HasName acts
script_has number within lines acts is = subst AllHave is (acts_have number within lines)

-- the acts of a script
checked_has : (r : Result Arch ArchFault) (within : Bool) (lines : List (List ℕ)) (said : Acts) → acts_from 1 within lines ≡ said → (arch : Arch) (acts : List (Act (List ℕ))) → checked_start r said ≡ Ok (arch, acts) → Each HasName acts
checked_has r within lines said is arch acts e = grind (arith, script_has)

pub start_has : (tracks : ℕ) (architecture : Architecture) (input : List ℕ) (arch : Arch) (acts : List (Act (List ℕ))) → start_of tracks architecture input ≡ Ok (arch, acts) → Each HasName acts
start_has tracks architecture input arch acts is = grind (arith, checked_has)
