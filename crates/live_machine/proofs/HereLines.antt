-- Lines and their replies, whatever workers have.
use Rattle.live_machine.proofs.Prelude.{◌≡◌, ℕ, List, [], ◌∷◌, Bool, true, false, ◌&&◌, cond, Option, Some, None, refl, ap, subst, arith, ⊤, Act, Operator, Session, OperatorLine, Call, LineForm, SessionLine, Wait, TextKind, begins_text, items_from, text_item, with_form, without_cr, GivesItem, TextSoFar, line_form, last_id, Stage, Tagged, rest_of, IsAnswered, Telling, Asked, LiveState, TakesAsked, TellsItem, asked_by, asked_of, Echoes, Figures, NoForm, Nothing, Operates, Says, AnswersLine, form_of, is_wait, is_by_hand, is_outside, IsHome, NeedNotWait, without_workers}
use Rattle.live_machine.proofs.HereHome.{IsAtHome, idle_home}
use Rattle.live_machine.proofs.HereServed.{figures_here, served_here, stage_here}
use Rattle.live_machine.proofs.HereWaits.{session_here}

-- what a line of a name says
abbrev IsSaidOf : List ℕ → Asked → Type 0
IsSaidOf rest (Says name said) = said ≡ rest
IsSaidOf rest asked = ⊤

either_said : (rest : List ℕ) (b : Bool) (x y : Asked) → IsSaidOf rest x → IsSaidOf rest y → IsSaidOf rest (cond b x y)
either_said rest b x y first second = grind arith

said_by_tag : (owner line rest : List ℕ) → IsSaidOf rest (asked_by owner line rest)
said_by_tag owner line rest = search arith

said_of_line : (line : List ℕ) → IsSaidOf (rest_of line) (asked_of line)
said_of_line line = grind (arith, either_said, said_by_tag)

-- a line whose item is a `wait` is one, outside of texts
text_no_wait : (kind : TextKind) (text : Option (List ℕ)) (items more : List SessionLine) → text_item kind text ∷ items ≡ Wait ∷ more → ⊥
text_no_wait kind text items more is = grind arith

form_waits : (form : LineForm) (more : List SessionLine) → with_form form [] (items_from (begins_text form) []) ≡ Wait ∷ more → is_wait form ≡ true
form_waits form more is = grind arith

item_waits : (old : Option TextSoFar) (said : List ℕ) (new : Option TextSoFar) → GivesItem old said (Some Wait) new → (is_outside old && is_wait (line_form (without_cr said))) ≡ true
item_waits None said new gives = form_waits (line_form (without_cr said)) _ (gives [])
item_waits (Some text) said new gives = absurd (text_no_wait text.kind _ _ _ (gives []))

waits_in : (old new : LiveState) (name said line : List ℕ) → said ≡ rest_of line → GivesItem (old.texts name) said (Some Wait) (new.texts name) → (is_outside (old.texts name) && is_wait (form_of line)) ≡ true
waits_in old new name said line is gives = grind (arith, item_waits (old.texts name) said (new.texts name) gives)

-- if a name says `wait`, its job is at home
abbrev WaitsAtHome : LiveState → Asked → List ℕ → Type 0
WaitsAtHome live (Says name said) line = (is_outside (live.texts name) && is_wait (form_of line)) ≡ true → IsHome live name
WaitsAtHome live asked line = ⊤

idle_waits : (live : LiveState) (asked : Asked) (line : List ℕ) → NeedNotWait (without_workers live) asked line → WaitsAtHome live asked line
idle_waits live asked line need = search (idle_home, arith)

-- what a line asks
abbrev answered_here : Stage → Act (List ℕ) → List Call → List ℕ → Stage → Type 0
answered_here old act calls text new = IsAnswered (stage_here old) act calls text (stage_here new)

operator_here : (old : Stage) (act : Act (List ℕ)) (line : OperatorLine (List ℕ)) (calls : List Call) (text : List ℕ) (new : Stage) → act ≡ Operator line → is_by_hand (Operates line) ≡ false → IsAnswered old act calls text new → answered_here old act calls text new
operator_here old act line calls text new is hand answered = grind (arith, served_here)

item_here : (old : Stage) (tag name : List ℕ) (item : Option SessionLine) (tellings : List Telling) (told : List Tagged) (new : Stage) → (item ≡ Some Wait → IsAtHome old.service (last_id old.names name)) → TellsItem old tag name item tellings told new → (again : List Telling) × TellsItem (stage_here old) tag name item again told (stage_here new)
item_here old tag name None tellings told new home (none, nothing, same) = (tellings, (none, nothing, ap stage_here same))
item_here old tag name (Some item) tellings told new home (t, act, answered, one, is) =
    let P : Act (List ℕ) → Type 0 = λ a. IsAnswered old a t.calls t.text new in
    let (calls, again) = session_here old name item t.calls t.text new (λ waits. home (ap Some waits)) (subst P act answered) in
    let s : Telling = record { act = Session name item; calls = calls; text = t.text } in
    (s ∷ [], (s, refl, again, refl, is))

-- what a line asks is told, by these calls in the place of others
abbrev AsksHere : LiveState → ℕ → List ℕ → Asked → List Tagged → LiveState → Type 0
AsksHere old number tag asked told new = (tellings : List Telling) × TakesAsked (without_workers old) number tag asked tellings told (without_workers new)

asked_here : (old new : LiveState) (number : ℕ) (tag line : List ℕ) (asked : Asked) (tellings : List Telling) (told : List Tagged) → IsSaidOf (rest_of line) asked → is_by_hand asked ≡ false → WaitsAtHome old asked line → TakesAsked old number tag asked tellings told new → AsksHere old number tag asked told new
asked_here old new number tag line Nothing tellings told said hand home (none, nothing, same) = (tellings, (none, nothing, ap without_workers same))
asked_here old new number tag line NoForm tellings told said hand home (none, nothing, same) = (tellings, (none, nothing, ap without_workers same))
asked_here old new number tag line (Echoes words) tellings told said hand home (none, nothing, same) = (tellings, (none, nothing, ap without_workers same))
asked_here old new number tag line Figures tellings told said hand home (text, are, none, nothing, same) = (tellings, (text, figures_here old.stage.service number old.stage.names text are, none, nothing, ap without_workers same))
asked_here old new number tag line (Operates operates) tellings told said hand home (t, act, answered, one, is, stay) = (tellings, (t, act, operator_here old.stage t.act operates t.calls t.text new.stage act hand answered, one, is, stay))
asked_here old new number tag line (Says name rest) tellings told said hand home (item, hears, tells) =
    let waits : item ≡ Some Wait → IsHome old name =
    λ is. let P : Option SessionLine → Type 0 = λ i. GivesItem (old.texts name) rest i (new.texts name) in home (waits_in old new name rest line said (subst P is hears.gives)) in
    let (again, retells) = item_here old.stage tag name item tellings told new.stage waits tells in
    (again, (item, hears, retells))

answers_here : (old new : LiveState) (number : ℕ) (line reply : List ℕ) → is_by_hand (asked_of line) ≡ false → WaitsAtHome old (asked_of line) line → AnswersLine old number line reply new → AnswersLine (without_workers old) number line reply (without_workers new)
answers_here old new number line reply hand home answers = grind (arith, asked_here, said_of_line)

-- each reply but those to steps by hand
pub line_here : (old new : LiveState) (number : ℕ) (line reply : List ℕ) → is_by_hand (asked_of line) ≡ false → NeedNotWait (without_workers old) (asked_of line) line → AnswersLine old number line reply new → AnswersLine (without_workers old) number line reply (without_workers new)
line_here old new number line reply hand need answers = answers_here old new number line reply hand (idle_waits old (asked_of line) line need) answers

-- each reply to a name whose job is at home
pub said_here : (old new : LiveState) (number : ℕ) (line reply name said : List ℕ) → asked_of line ≡ Says name said → IsHome old name → AnswersLine old number line reply new → AnswersLine (without_workers old) number line reply (without_workers new)
said_here old new number line reply name said asks home answers = grind (arith, answers_here)
