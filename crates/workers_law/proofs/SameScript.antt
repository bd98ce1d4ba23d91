-- A script, line by line: read in order, and for threads.
use Rattle.workers_law.proofs.Prelude.{◌≡◌, ◌≢◌, ℕ, ◌+◌, List, [], ◌∷◌, ◌++◌, length, Bool, true, false, Option, Some, None, Ok, Err, refl, sym, ap, ◌∙◌, subst, append_assoc, append-nil, arith, ◌==◌, option_map, if◌then◌else◌, before_first, flat_map, list_all, option_map_or, bytes_eq, and_parts, bytes_eq-Decides, physical_lines, is_blank, LineForm, Asks as LineAsks, Begins as LineBegins, SessionLine, ends_text, items_from, text_ahead, without_cr, line_form, is_one_line, Act, Operator, Session, OperatorLine, Acts, acts_from, begins_text, form_by, form_in, form_of, operator_form, session_form, with_act, with_line, without_blanks, Heard, Parts, Said, Threaded, Within, after_first_word, with_feed, heard_so_far, hears_form, nothing_said, threaded_from, with_input, with_operator, with_said, Head, Script, Upload, IsReadTheSame, IsSameScript, input_of, items_by, lines_ahead, operator_lines}
use Rattle.workers_law.proofs.Endings.{are_lines, behind_cr, one_behind, put_together}

-- a line by its first word, and by what is after it
abbrev first_word : List ℕ → List ℕ
first_word line = before_first is_blank (without_blanks (without_cr line))

abbrev after_word : List ℕ → List ℕ
after_word line = without_cr (after_first_word line)

form_is : (line : List ℕ) → form_of line ≡ form_by (first_word line) (after_word line)
unfolding form_in
form_is line = ap (form_by (first_word line)) (behind_cr line)

-- the lines that a script adds to a name's input
abbrev added : Bool → List ℕ → List (List ℕ) → List (List ℕ)
added true line more = line ∷ more
added false line more = more

abbrev next_of : List ℕ → LineForm → Within
next_of name (LineAsks item) = Script
next_of name (LineBegins kind) = Upload name

abbrev said_if : Bool → Bool → LineForm → List ℕ → List ℕ → List ℕ → (Within → List (List ℕ)) → List (List ℕ)
said_if comment session form name other line more = if comment then more Script else if session then added (bytes_eq name other) (after_first_word line) (more (next_of other form)) else more Script

abbrev said_first : List ℕ → List ℕ → List ℕ → (Within → List (List ℕ)) → List (List ℕ)
said_first [] name line more = more Script
said_first (b ∷ other) name line more = said_if (b == 35) (b == 64) (line_form (after_word line)) name other line more

abbrev within_text : Bool → Within → Within
within_text true within = Script
within_text false within = within

abbrev said_lines : List ℕ → Within → List (List ℕ) → List (List ℕ)
said_lines name within [] = []
said_lines name Script (line ∷ lines) = said_first (first_word line) name line (λ next. said_lines name next lines)
said_lines name Head (line ∷ lines) = said_lines name (within_text (ends_text line) Head) lines
said_lines name (Upload other) (line ∷ lines) = added (bytes_eq name other) line (said_lines name (within_text (ends_text line) (Upload other)) lines)

-- whether a line within it belongs to a text, and to one of that name
abbrev is_text : Within → Bool
is_text Script = false
is_text Head = true
is_text (Upload other) = true

abbrev is_text_of : List ℕ → Within → Bool
is_text_of name Script = false
is_text_of name Head = false
is_text_of name (Upload other) = bytes_eq name other

-- an input with more bytes
abbrev bytes_if : Bool → List ℕ → List ℕ
bytes_if true bytes = bytes
bytes_if false bytes = []

same_name : (a b : List ℕ) → bytes_eq a b ≡ true → a ≡ b
same_name a b e = (bytes_eq-Decides a b).0 e

symmetric : (a b : List ℕ) → a ≡ b → bytes_eq a b ≡ true
symmetric a b e = (bytes_eq-Decides a b).1 e

not_both : (name other own : List ℕ) → bytes_eq other own ≡ false → bytes_eq name own ≡ true → (t : Bool) → bytes_eq name other ≡ t → t ≡ false
not_both name other own e f t g = grind (arith, symmetric, same_name)

alone_input : (t : Bool) (bytes : List ℕ) → (if t then bytes else []) ≡ bytes_if t bytes
alone_input t bytes = grind arith

input_if : (s : Said) (said : List Said) (name other bytes : List ℕ) → input_of name (with_input said other bytes) ≡ input_of name said ++ bytes_if (bytes_eq name other) bytes → (mine found : Bool) → bytes_eq other s.name ≡ mine → bytes_eq name s.name ≡ found →
    input_of name (if mine then record s { input = s.input ++ bytes } ∷ said else s ∷ with_input said other bytes) ≡ (if found then s.input else input_of name said) ++ bytes_if (bytes_eq name other) bytes
input_if s said name other bytes rest mine found e f = grind (arith, same_name, append-nil, not_both)

more_input : (said : List Said) (name other bytes : List ℕ) → input_of name (with_input said other bytes) ≡ input_of name said ++ bytes_if (bytes_eq name other) bytes
more_input [] name other bytes = alone_input (bytes_eq name other) bytes
more_input (s ∷ said) name other bytes = grind (arith, input_if, more_input said name other bytes)

abbrev is_empty : List Said → Bool
is_empty said = length said == 0

never_empty : (said : List Said) (name bytes : List ℕ) → is_empty (with_input said name bytes) ≡ false
never_empty [] name bytes = refl
never_empty (s ∷ said) name bytes = grind arith

-- the operator's lines that still come before a session's
abbrev ahead_if : Bool → List (Act (List ℕ)) → List (OperatorLine (List ℕ))
ahead_if true acts = lines_ahead acts
ahead_if false acts = []

-- the lines that are left, from what was read so far
record Reads (number : ℕ) (within : Within) (old : Parts) (lines : List (List ℕ)) (new : Parts) : Type 0 where
  acts : List (Act (List ℕ))
  are : acts_from number (is_text within) lines ≡ Ok acts
  ahead : new.ahead ≡ old.ahead ++ ahead_if (is_empty old.sessions) acts
  rest : new.ahead ++ new.rest ≡ (old.ahead ++ old.rest) ++ operator_lines acts
  inputs : (name : List ℕ) → input_of name new.sessions ≡ input_of name old.sessions ++ flat_map with_feed (said_lines name within lines)
  items : (name : List ℕ) → items_by name acts ≡ items_from (is_text_of name within) (said_lines name within lines)

abbrev NoRest : Parts → Type 0
NoRest parts = is_empty parts.sessions ≡ true → parts.rest ≡ []

-- bytes that belong to a name
ended_if : (t : Bool) (line : List ℕ) (more : List (List ℕ)) → flat_map with_feed (added t line more) ≡ bytes_if t (with_feed line) ++ flat_map with_feed more
ended_if true line more = refl
ended_if false line more = refl

said_inputs : (old : List Said) (name other line : List ℕ) (more : List (List ℕ)) (input : List ℕ) → input ≡ input_of name (with_input old other (with_feed line)) ++ flat_map with_feed more →
    input ≡ input_of name old ++ flat_map with_feed (added (bytes_eq name other) line more)
said_inputs old name other line more input is = grind (arith, more_input, append_assoc)

-- the text of a name is the same among its own lines
text_if : (name other line : List ℕ) (lines : List (List ℕ)) (t : Bool) → text_ahead (said_lines name (Upload other) lines) ≡ text_ahead lines →
    (if t then Some [] else option_map (λ text. without_cr line ++ 10 ∷ text) (text_ahead (said_lines name (within_text t (Upload other)) lines))) ≡ (if t then Some [] else option_map (λ text. without_cr line ++ 10 ∷ text) (text_ahead lines))
text_if name other line lines t rest = grind arith

same_text : (name other : List ℕ) → bytes_eq name other ≡ true → (lines : List (List ℕ)) → text_ahead (said_lines name (Upload other) lines) ≡ text_ahead lines
same_text name other own [] = refl
same_text name other own (line ∷ lines) = grind (arith, same_text name other own lines)

abbrev after_end : Bool → Bool → Bool
after_end true of_name = false
after_end false of_name = of_name

text_items : (of_name ends : Bool) (line : List ℕ) (more : List (List ℕ)) (items : List SessionLine) → ends_text line ≡ ends → items ≡ items_from (after_end ends of_name) more → items ≡ items_from of_name (added of_name line more)
text_items of_name ends line more items e rest = grind arith

text_of : (name : List ℕ) (ends : Bool) (within : Within) → is_text_of name (within_text ends within) ≡ after_end ends (is_text_of name within)
text_of name ends within = grind arith

-- what holds of the parts so far
abbrev IsFine : Within → Parts → Type 0
IsFine Script parts = NoRest parts
IsFine Head parts = NoRest parts
IsFine (Upload other) parts = is_empty parts.sessions ≡ false

none_ahead : (t : Bool) (name : List ℕ) (item : SessionLine) (acts : List (Act (List ℕ))) → ahead_if t (Session name item ∷ acts) ≡ []
none_ahead t name item acts = grind arith

empty_ahead : (t : Bool) → ahead_if t [] ≡ []
empty_ahead t = grind arith

abbrev Hears : ℕ → Option Heard → List (List ℕ) → Threaded
Hears number next lines = option_map_or (λ h. threaded_from (number + 1) h lines) next (Err number)

-- one line of the script itself
record Step (old new : Parts) (read : Acts) (said : List ℕ → List (List ℕ)) : Type 0 where
  acts : List (Act (List ℕ))
  are : read ≡ Ok acts
  ahead : new.ahead ≡ old.ahead ++ ahead_if (is_empty old.sessions) acts
  rest : new.ahead ++ new.rest ≡ (old.ahead ++ old.rest) ++ operator_lines acts
  inputs : (name : List ℕ) → input_of name new.sessions ≡ input_of name old.sessions ++ flat_map with_feed (said name)
  items : (name : List ℕ) → items_by name acts ≡ items_from false (said name)

abbrev Later : ℕ → List (List ℕ) → Parts → Type 0
Later number lines new = (within : Within) (mid : Parts) → IsFine within mid → threaded_from (number + 1) (heard_so_far mid within) lines ≡ Ok new → Reads (number + 1) within mid lines new

skipped : (number : ℕ) (old : Parts) (lines : List (List ℕ)) (new : Parts) → NoRest old → Later number lines new → threaded_from (number + 1) (heard_so_far old Script) lines ≡ Ok new → Step old new (acts_from (number + 1) false lines) (λ name. said_lines name Script lines)
skipped number old lines new fine later goes = grind arith

operator_step : (number : ℕ) (old : Parts) (lines : List (List ℕ)) (new : Parts) (asked : OperatorLine (List ℕ)) → NoRest old → Later number lines new → (t : Bool) → is_empty old.sessions ≡ t →
    threaded_from (number + 1) (heard_so_far (if t then record old { ahead = old.ahead ++ asked ∷ [] } else record old { rest = old.rest ++ asked ∷ [] }) Script) lines ≡ Ok new → Step old new (with_act (Operator asked) (acts_from (number + 1) false lines)) (λ name. said_lines name Script lines)
operator_step number old lines new asked fine later t none goes = grind (arith, append_assoc)

hand_step : (number : ℕ) (old : Parts) (lines : List (List ℕ)) (new : Parts) (asked : OperatorLine (List ℕ)) → NoRest old → Later number lines new → (t : Bool) → Hears number (if t then None else Some (heard_so_far (with_operator old asked) Script)) lines ≡ Ok new →
    Step old new (with_act (Operator asked) (acts_from (number + 1) false lines)) (λ name. said_lines name Script lines)
hand_step number old lines new asked fine later t never = grind (arith, operator_step)

session_step : (number : ℕ) (old : Parts) (line : List ℕ) (lines : List (List ℕ)) (new : Parts) (other : List ℕ) → NoRest old → Later number lines new → (form : LineForm) → line_form (after_word line) ≡ form →
    Hears number (hears_form old (session_form other form) line) lines ≡ Ok new → Step old new (with_line number (session_form other form) lines (acts_from (number + 1) (begins_text (session_form other form)) lines)) (λ name. added (bytes_eq name other) (after_first_word line) (said_lines name (next_of other form) lines))
session_step number old line lines new other fine later (LineAsks item) e goes = grind (arith, never_empty, said_inputs)
session_step number old line lines new other fine later (LineBegins kind) e goes = grind (arith, never_empty, said_inputs, same_text)

asked_step : (number : ℕ) (old : Parts) (line : List ℕ) (lines : List (List ℕ)) (new : Parts) → NoRest old → Later number lines new → (asked : Option (OperatorLine (List ℕ))) → Hears number (hears_form old (operator_form asked) line) lines ≡ Ok new →
    Step old new (with_line number (operator_form asked) lines (acts_from (number + 1) (begins_text (operator_form asked)) lines)) (λ name. said_lines name Script lines)
asked_step number old line lines new fine later asked never = grind (arith, hand_step)

by_tests : (number : ℕ) (old : Parts) (line : List ℕ) (lines : List (List ℕ)) (new : Parts) (other : List ℕ) → NoRest old → Later number lines new → (comment session named op : Bool) (form : LineForm) (asked : Option (OperatorLine (List ℕ))) → line_form (after_word line) ≡ form →
    Hears number (hears_form old (if comment then form_by [] [] else if session then (if named then session_form other form else form_by (64 ∷ []) []) else if op then operator_form asked else form_by (64 ∷ []) []) line) lines ≡ Ok new →
    Step old new (with_line number (if comment then form_by [] [] else if session then (if named then session_form other form else form_by (64 ∷ []) []) else if op then operator_form asked else form_by (64 ∷ []) []) lines (acts_from (number + 1) (begins_text (if comment then form_by [] [] else if session then (if named then session_form other form else form_by (64 ∷ []) []) else if op then operator_form asked else form_by (64 ∷ []) [])) lines)) (λ name. said_if comment session form name other line (λ next. said_lines name next lines))
by_tests number old line lines new other fine later true session named op form asked e goes = skipped number old lines new fine later goes
by_tests number old line lines new other fine later false true true op form asked e goes = session_step number old line lines new other fine later form e goes
by_tests number old line lines new other fine later false true false op form asked e never = cc
by_tests number old line lines new other fine later false false named true form asked e goes = asked_step number old line lines new fine later asked goes
by_tests number old line lines new other fine later false false named false form asked e never = cc

by_first : (number : ℕ) (old : Parts) (line : List ℕ) (lines : List (List ℕ)) (new : Parts) → NoRest old → Later number lines new → (first : List ℕ) → Hears number (hears_form old (form_by first (after_word line)) line) lines ≡ Ok new →
    Step old new (with_line number (form_by first (after_word line)) lines (acts_from (number + 1) (begins_text (form_by first (after_word line))) lines)) (λ name. said_first first name line (λ next. said_lines name next lines))
by_first number old line lines new fine later [] goes = skipped number old lines new fine later goes
by_first number old line lines new fine later (b ∷ other) goes = search (by_tests, arith)

head_line : (number : ℕ) (old : Parts) (line : List ℕ) (lines : List (List ℕ)) (new : Parts) (t : Bool) → ends_text line ≡ t → ((within : Within) → IsFine within old × (threaded_from (number + 1) (heard_so_far old within) lines ≡ Ok new) → Reads (number + 1) within old lines new) → NoRest old →
    threaded_from (number + 1) (heard_so_far old (if ends_text line then Script else Head)) lines ≡ Ok new → Reads number Head old (line ∷ lines) new
head_line number old line lines new t e later fine goes = grind arith

is_read : (number : ℕ) (other line : List ℕ) (lines : List (List ℕ)) (t : Bool) → ends_text line ≡ t → acts_from (number + 1) (is_text (within_text t (Upload other))) lines ≡ acts_from number true (line ∷ lines)
is_read number other line lines t e = grind arith

from_mid : (number : ℕ) (other : List ℕ) (old : Parts) (line : List ℕ) (lines : List (List ℕ)) (new : Parts) → is_empty old.sessions ≡ false → (t : Bool) → ends_text line ≡ t → Reads (number + 1) (within_text t (Upload other)) (with_said old other (with_feed line)) lines new →
    Reads number (Upload other) old (line ∷ lines) new
from_mid number other old line lines new fine t e r = grind (arith, never_empty, said_inputs)

text_line : (number : ℕ) (other : List ℕ) (old : Parts) (line : List ℕ) (lines : List (List ℕ)) (new : Parts) → is_empty old.sessions ≡ false → (t : Bool) → ends_text line ≡ t →
    ((within : Within) → IsFine within (with_said old other (with_feed line)) → threaded_from (number + 1) (heard_so_far (with_said old other (with_feed line)) within) lines ≡ Ok new → Reads (number + 1) within (with_said old other (with_feed line)) lines new) →
    threaded_from (number + 1) (heard_so_far (with_said old other (with_feed line)) (if ends_text line then Script else Upload other)) lines ≡ Ok new → Reads number (Upload other) old (line ∷ lines) new
text_line number other old line lines new fine t e later goes = grind (arith, from_mid, never_empty)

reads : (number : ℕ) (within : Within) (old : Parts) (lines : List (List ℕ)) (new : Parts) → IsFine within old → threaded_from number (heard_so_far old within) lines ≡ Ok new → Reads number within old lines new
reads number within old [] new fine is = let same : old ≡ new = cc in subst (Reads number within old []) same (record {
  acts = [];
  are = refl;
  ahead = sym (append-nil old.ahead) ∙ ap (λ x. old.ahead ++ x) (sym (empty_ahead (is_empty old.sessions)));
  rest = sym (append-nil (old.ahead ++ old.rest));
  inputs = λ name. sym (append-nil (input_of name old.sessions));
  items = λ name. refl;
})
reads number Head old (line ∷ lines) new fine is = head_line number old line lines new (ends_text line) refl (λ within goes. reads (number + 1) within old lines new goes.0 goes.1) fine is
reads number (Upload other) old (line ∷ lines) new fine is = text_line number other old line lines new fine (ends_text line) refl (λ within well goes. reads (number + 1) within (with_said old other (with_feed line)) lines new well goes) is
reads number Script old (line ∷ lines) new fine is =
    let goes : Hears number (hears_form old (form_by (first_word line) (after_word line)) line) lines ≡ Ok new = ap (λ f. Hears number (hears_form old f line) lines) (sym (form_is line)) ∙ is in
    let step = by_first number old line lines new fine (λ within mid well more. reads (number + 1) within mid lines new well more) (first_word line) goes in
    record {
      acts = step.acts;
      are = ap (λ f. with_line number f lines (acts_from (number + 1) (begins_text f) lines)) (form_is line) ∙ step.are;
      ahead = step.ahead;
      rest = step.rest;
      inputs = step.inputs;
      items = step.items;
    }

-- a name's lines are lines
added_one : (t : Bool) (line : List ℕ) (more : List (List ℕ)) → is_one_line line ≡ true → list_all is_one_line more ≡ true → list_all is_one_line (added t line more) ≡ true
added_one t line more one rest = grind arith

if_one : (comment session : Bool) (form : LineForm) (name other line : List ℕ) (more : Within → List (List ℕ)) → is_one_line line ≡ true → ((next : Within) → list_all is_one_line (more next) ≡ true) → list_all is_one_line (said_if comment session form name other line more) ≡ true
if_one comment session form name other line more one rest = grind (arith, one_behind)

first_one : (first name line : List ℕ) (more : Within → List (List ℕ)) → is_one_line line ≡ true → ((next : Within) → list_all is_one_line (more next) ≡ true) → list_all is_one_line (said_first first name line more) ≡ true
first_one first name line more one rest = grind (arith, if_one)

said_one : (name : List ℕ) (within : Within) (lines : List (List ℕ)) → list_all is_one_line lines ≡ true → list_all is_one_line (said_lines name within lines) ≡ true
said_one name within [] all = refl
said_one name Script (line ∷ lines) all =
    let parts = and_parts (is_one_line line) (list_all is_one_line lines) all in
    first_one (first_word line) name line (λ next. said_lines name next lines) parts.0 (λ next. said_one name next lines parts.1)
said_one name Head (line ∷ lines) all = said_one name (within_text (ends_text line) Head) lines (and_parts (is_one_line line) (list_all is_one_line lines) all).1
said_one name (Upload other) (line ∷ lines) all =
    let parts = and_parts (is_one_line line) (list_all is_one_line lines) all in
    added_one (bytes_eq name other) line (said_lines name (within_text (ends_text line) (Upload other)) lines) parts.0 (said_one name (within_text (ends_text line) (Upload other)) lines parts.1)

-- the whole script
script_same : (number : ℕ) (text : List ℕ) (within : Within) (parts : Parts) → ((name : List ℕ) → is_text_of name within ≡ false) → Reads number within nothing_said (physical_lines text) parts →
    (acts : List (Act (List ℕ))) × (acts_from number (is_text within) (physical_lines text) ≡ Ok acts) × IsSameScript parts acts
script_same number text within parts outside r = grind (arith, said_one, are_lines, put_together)

pub read_the_same : IsReadTheSame
read_the_same number text true parts is = script_same number text Head parts (λ name. refl) (reads number Head nothing_said (physical_lines text) parts (λ none. refl) is)
read_the_same number text false parts is = script_same number text Script parts (λ name. refl) (reads number Script nothing_said (physical_lines text) parts (λ none. refl) is)
