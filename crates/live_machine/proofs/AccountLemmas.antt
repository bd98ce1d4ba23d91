-- The account of all calls.
use Rattle.live_machine.proofs.Prelude.{◌≡◌, ℕ, List, [], ◌∷◌, ◌++◌, Bool, true, false, Option, Some, None, refl, sym, ap, subst, ◌∙◌, append_assoc, append-nil, arith, flat_map, flat_map-append, is_name, OperatorLine, Admit, Evict, Move, Owners, Step, Take, Put, LineForm, ends_text, TextSoFar, rest_of, said_by, Asked, LiveState, asked_of, Echoes, Figures, NoForm, Nothing, Operates, Says, AreAnswered, AnswersLine, IsAccount, IsSaid, is_nobodys, line_in, lines_in, log_drained, told_drained, Held, HeldItem, HearsForm, HearsIn, calls_off, held_of, with_held, OpenText, NoText, EndsHold, FreesIf, GivesUp, HearsAfter, HearsAsked, HearsFree, HearsName, MachineState, ServesFirst, WaitsAfter, begins_with, is_by_hand, must_wait, Drain, GiveUp, Line, PutStep, ServeHeld, Turn, log_of, replies_of, served_lines, told_of}
use Rattle.script_text.specs.declared.operator_line.OperatorLine.TheVariants.{List as ListAll}
use Rattle.live_machine.specs.Machine.{Call, Happens, Run}
use Rattle.live_machine.proofs.Books.{Books, books_nobody, books_worked}
use Rattle.live_machine.proofs.FollowLemmas.{Follows, IsOf}
use Rattle.live_machine.proofs.TakeLemmas.{rests_flat}
use Rattle.live_machine.proofs.HeldLemmas.{changed_own, freed_own, name_of_held}
use Rattle.live_machine.proofs.ItemBooks.{IsOn, books_ended, books_freed, books_item, item_lost}
use Rattle.live_machine.proofs.LineLemmas.{must_wait_so, said_of}
use Rattle.live_machine.proofs.NameBooks.{books_heard, books_holds, books_own}
use Rattle.live_machine.proofs.TurnLemmas.{log_both, told_both, turns_answered}

-- a line that comes while a name is held changes what is held of that name
form_name : (form : LineForm) (h new : Held) (line : List ℕ) → HearsForm form h line new → new.name ≡ h.name
form_name form h new line same = grind arith

pub heard_name : (text : OpenText) (ends : Bool) (h new : Held) (line : List ℕ) → HearsIn text ends h line new → new.name ≡ h.name
heard_name text ends h new line hears = grind arith

-- a name that calls off its `wait` is held no longer
pub called_off : (text : OpenText) (line : List ℕ) → calls_off text line ≡ true → text ≡ NoText
called_off text line is = grind arith

pub ended_none : (h : Held) (old new : MachineState) (text : OpenText) → h.text ≡ text → text ≡ NoText → EndsHold (Some h) old new → held_of new.held h.name ≡ None
ended_none h old new text is none h3 = grind (arith, freed_own)

-- the calls so far
pub record Accounts (begun : LiveState) (first : ℕ) (calls : List Call) (now : MachineState) : Type 0 where
  pub taken : List Turn
  pub books : Books begun first (lines_in calls) taken now
  pub log_taken : flat_map log_drained calls ≡ log_of taken
  pub told_taken : flat_map told_drained calls ≡ told_of taken

-- one more call, which takes nothing
accounts_more : (begun : LiveState) (first : ℕ) (calls : List Call) (old new : MachineState) (call : Call) (a : Accounts begun first calls old) → log_drained call ≡ [] → told_drained call ≡ [] → Books begun first (lines_in calls ++ line_in call) a.taken new → Accounts begun first (calls ++ call ∷ []) new
accounts_more begun first calls old new call a no_log nothing_told books = grind (arith, append-nil, flat_map-append)

silent : (begun : LiveState) (first : ℕ) (lines : List (List ℕ)) (taken : List Turn) (now : MachineState) → Books begun first lines taken now → Books begun first (lines ++ []) taken now
silent begun first lines taken now b = let P : List (List ℕ) → Type 0 = λ x. Books begun first x taken now in subst P (sym (append-nil lines)) b

-- a name that waits for nothing is served at once
waits_after : (begun : LiveState) (first : ℕ) (lines : List (List ℕ)) (taken : List Turn) (old new : MachineState) (items : List HeldItem) (after : Held) → Books begun first lines taken old → held_of old.held after.name ≡ Some after → WaitsAfter items after old new → Books begun first lines taken new
waits_after begun first lines taken old new [] after b is ends = books_ended begun first lines taken old new after.name (Some after) b is ends
waits_after begun first lines taken old new (item ∷ items) after b is same = let P : MachineState → Type 0 = λ m. Books begun first lines taken m in subst P (sym same) b

frees_if : (begun : LiveState) (first : ℕ) (lines : List (List ℕ)) (taken : List Turn) (old new : MachineState) (items : List HeldItem) (h : Held) → IsOn begun first lines taken old h → h.items ≡ items → FreesIf items h old new → Books begun first lines taken new
frees_if begun first lines taken old new items h on none frees = grind (arith, books_freed)

-- a line of a name
after_name : (begun : LiveState) (first : ℕ) (lines : List (List ℕ)) (taken : List Turn) (old new : MachineState) (name line : List ℕ) (h : Held) (off : Bool) → Books begun first lines taken old → is_name name ≡ true → IsOf name line → held_of old.held name ≡ Some h → calls_off h.text line ≡ off → HearsAfter off h name line old new →
    Books begun first (lines ++ line ∷ []) taken new
after_name begun first lines taken old new name line h true b ok of is off (mid, ends, serves) =
    let ended = books_ended begun first lines taken old mid name (Some h) b is ends in
    let P : List ℕ → Type 0 = λ n. held_of mid.held n ≡ None in
    let gone = subst P (name_of_held old.held name h is) (ended_none h old mid h.text refl (called_off h.text line off) ends) in
    books_own begun first lines taken mid new line name (must_wait mid.live name line) ended ok of gone refl serves
after_name begun first lines taken old new name line h false b ok of is off (after, hears, waits) =
    let named : after.name ≡ name = heard_name h.text (ends_text (rest_of line)) h after line hears ∙ name_of_held old.held name h is in
    let mid : MachineState = record old { held = with_held old.held after } in
    let P : List ℕ → Type 0 = λ n. held_of old.held n ≡ Some h in
    let own = changed_own old.held h after (subst P (sym named) is) in
    waits_after begun first (lines ++ line ∷ []) taken mid new h.items after (books_heard begun first lines taken old mid line name h after b ok of is named hears refl) own waits

free_name : (begun : LiveState) (first : ℕ) (lines : List (List ℕ)) (taken : List Turn) (old new : MachineState) (name line : List ℕ) (waits : Bool) → Books begun first lines taken old → is_name name ≡ true → IsOf name line → held_of old.held name ≡ None → must_wait old.live name line ≡ waits → HearsFree waits name line old new →
    Books begun first (lines ++ line ∷ []) taken new
free_name begun first lines taken old new name line true b ok of free waits holds = search (must_wait_so, books_holds, arith)
free_name begun first lines taken old new name line false b ok of free waits serves = books_own begun first lines taken old new line name false b ok of free waits serves

heard : (begun : LiveState) (first : ℕ) (lines : List (List ℕ)) (taken : List Turn) (old new : MachineState) (name line : List ℕ) (held : Option Held) → Books begun first lines taken old → is_name name ≡ true → IsOf name line → held_of old.held name ≡ held → HearsName held name line old new →
    Books begun first (lines ++ line ∷ []) taken new
heard begun first lines taken old new name line (Some h) b ok of is hears = after_name begun first lines taken old new name line h (calls_off h.text line) b ok of is refl hears
heard begun first lines taken old new name line None b ok of is hears = free_name begun first lines taken old new name line (must_wait old.live name line) b ok of is refl hears

-- a line of the input
heard_operator : (begun : LiveState) (first : ℕ) (lines : List (List ℕ)) (taken : List Turn) (old new : MachineState) (line : List ℕ) (asked : OperatorLine (List ℕ)) → Books begun first lines taken old → asked_of line ≡ Operates asked → HearsAsked (Operates asked) line old new → Books begun first (lines ++ line ∷ []) taken new
heard_operator begun first lines taken old new line (Evict name) b is (mid, serves, ends) = grind (arith, books_ended, books_nobody begun first lines taken old mid line false b (ap is_nobodys is) (ap is_by_hand is) serves)
heard_operator begun first lines taken old new line (Step name count) b is serves = books_nobody begun first lines taken old new line true b (ap is_nobodys is) (ap is_by_hand is) serves
heard_operator begun first lines taken old new line (Take name) b is serves = books_nobody begun first lines taken old new line true b (ap is_nobodys is) (ap is_by_hand is) serves
heard_operator begun first lines taken old new line (Put number) b is serves = books_nobody begun first lines taken old new line true b (ap is_nobodys is) (ap is_by_hand is) serves
heard_operator begun first lines taken old new line (Admit name width) b is serves = books_nobody begun first lines taken old new line false b (ap is_nobodys is) (ap is_by_hand is) serves
heard_operator begun first lines taken old new line (Move name offset) b is serves = books_nobody begun first lines taken old new line false b (ap is_nobodys is) (ap is_by_hand is) serves
heard_operator begun first lines taken old new line ListAll b is serves = books_nobody begun first lines taken old new line false b (ap is_nobodys is) (ap is_by_hand is) serves
heard_operator begun first lines taken old new line Owners b is serves = books_nobody begun first lines taken old new line false b (ap is_nobodys is) (ap is_by_hand is) serves

heard_line : (begun : LiveState) (first : ℕ) (lines : List (List ℕ)) (taken : List Turn) (old new : MachineState) (line : List ℕ) (asked : Asked) → Books begun first lines taken old → asked_of line ≡ asked → HearsAsked asked line old new → Books begun first (lines ++ line ∷ []) taken new
heard_line begun first lines taken old new line Nothing b is serves = books_nobody begun first lines taken old new line false b (ap is_nobodys is) (ap is_by_hand is) serves
heard_line begun first lines taken old new line NoForm b is serves = books_nobody begun first lines taken old new line false b (ap is_nobodys is) (ap is_by_hand is) serves
heard_line begun first lines taken old new line (Echoes words) b is serves = books_nobody begun first lines taken old new line false b (ap is_nobodys is) (ap is_by_hand is) serves
heard_line begun first lines taken old new line Figures b is serves = books_nobody begun first lines taken old new line false b (ap is_nobodys is) (ap is_by_hand is) serves
heard_line begun first lines taken old new line (Operates asked) b is hears = heard_operator begun first lines taken old new line asked b is hears
heard_line begun first lines taken old new line (Says name said) b is hears = grind (arith, heard, said_of name said line is)

-- a name that is held has its turn
first_served : (begun : LiveState) (first : ℕ) (lines : List (List ℕ)) (taken : List Turn) (old new : MachineState) (h : Held) (items : List HeldItem) → Books begun first lines taken old → held_of old.held h.name ≡ Some h → h.items ≡ items → ServesFirst items h old new → Books begun first lines taken new
first_served begun first lines taken old new h [] b is none serves = absurd serves
first_served begun first lines taken old new h (item ∷ items) b is first_is (mid, free, serves, frees) = grind (arith, frees_if begun first lines taken mid new items (record h { items = items }) (books_item begun first lines taken old mid h item items b is first_is serves) refl frees)

given_up : (begun : LiveState) (first : ℕ) (lines : List (List ℕ)) (taken : List Turn) (old new : MachineState) (h : Held) (items : List HeldItem) → Books begun first lines taken old → held_of old.held h.name ≡ Some h → h.items ≡ items → GivesUp items h old new → Books begun first lines taken new
given_up begun first lines taken old new h [] b is none gives = absurd gives
given_up begun first lines taken old new h (None ∷ items) b is first_is gives = absurd gives
given_up begun first lines taken old new h (Some item ∷ items) b is first_is (mid, waits, lost, frees) = grind (arith, frees_if begun first lines taken mid new items (record h { items = items }) (item_lost begun first lines taken old mid h (Some item) items b is first_is lost) refl frees)

-- each call
pub happened : (begun : LiveState) (first : ℕ) (calls : List Call) (old new : MachineState) (call : Call) → Accounts begun first calls old → Happens old call new → Accounts begun first (calls ++ call ∷ []) new
happened begun first calls old new (Line line) a hears = grind (arith, accounts_more, heard_line, accounts_more begun first calls old new (Line line) a refl refl (heard_line begun first (lines_in calls) a.taken old new line (asked_of line) a.books refl hears), heard_line begun first (lines_in calls) a.taken old new line (asked_of line) a.books refl hears)
happened begun first calls old new (ServeHeld name) a (h, is, serves) =
    let P : List ℕ → Type 0 = λ n. held_of old.held n ≡ Some h in
    accounts_more begun first calls old new (ServeHeld name) a refl refl
    (silent begun first (lines_in calls) a.taken new (first_served begun first (lines_in calls) a.taken old new h h.items a.books (subst P (sym (name_of_held old.held name h is)) is) refl serves))
happened begun first calls old new (GiveUp name) a (h, is, gives) =
    let P : List ℕ → Type 0 = λ n. held_of old.held n ≡ Some h in
    accounts_more begun first calls old new (GiveUp name) a refl refl
    (silent begun first (lines_in calls) a.taken new (given_up begun first (lines_in calls) a.taken old new h h.items a.books (subst P (sym (name_of_held old.held name h is)) is) refl gives))
happened begun first calls old new (PutStep name) a (made, asks, works) =
    accounts_more begun first calls old new (PutStep name) a refl refl
    (silent begun first (lines_in calls) a.taken new (books_worked begun first (lines_in calls) a.taken old new made name a.books asks works))
happened begun first calls old new (Drain log told) a (log_is, told_is, drained) =
    let b = a.books in
    let P : MachineState → Type 0 = λ m. Books begun first (lines_in (calls ++ Drain log told ∷ [])) b.turns m in
    let Q : List (List ℕ) → Type 0 = λ x. Books begun first x b.turns (record old { log = []; told = [] }) in
    let lines : lines_in calls ≡ lines_in (calls ++ Drain log told ∷ []) = sym (append-nil (lines_in calls)) ∙ sym (flat_map-append line_in calls (Drain log told ∷ [])) in
    record {
      taken = b.turns;
      books = subst P (sym drained) (subst Q lines (record { turns = b.turns; rest = []; all = sym (append-nil b.turns); day = b.day; log = refl; told = refl; served = b.served; said = b.said; nobodys = b.nobodys; named = b.named }));
      log_taken =
          flat_map-append log_drained calls (Drain log told ∷ [])
          ∙ (ap (λ x. flat_map log_drained calls ++ x) (append-nil log)
          ∙ (ap (λ x. flat_map log_drained calls ++ x) (log_is ∙ b.log)
          ∙ (ap (λ x. x ++ log_of b.rest) a.log_taken
          ∙ (sym (log_both a.taken b.rest) ∙ ap log_of (sym b.all)))));
      told_taken =
          flat_map-append told_drained calls (Drain log told ∷ [])
          ∙ (ap (λ x. flat_map told_drained calls ++ x) (append-nil told)
          ∙ (ap (λ x. flat_map told_drained calls ++ x) (told_is ∙ b.told)
          ∙ (ap (λ x. x ++ told_of b.rest) a.told_taken
          ∙ (sym (told_both a.taken b.rest) ∙ ap told_of (sym b.all)))));
    }

all_happened : (begun : LiveState) (first : ℕ) (before calls : List Call) (old new : MachineState) → Accounts begun first before old → Run old calls new → Accounts begun first (before ++ calls) new
all_happened begun first before [] old new a same = grind (arith, append-nil)
all_happened begun first before (call ∷ calls) old new a (mid, one, rest) = grind (arith, append_assoc, all_happened begun first (before ++ call ∷ []) calls mid new (happened begun first before old mid call a one) rest)

-- what a name said, in the account's words
said_so : (name : List ℕ) (begun : Option TextSoFar) (lines heard : List (List ℕ)) (held : Option Held) (now : Option TextSoFar) → Follows name begun (said_by name lines) (said_by name heard) held now → IsSaid begun name lines heard held
said_so name begun lines heard None now f = grind (arith, append-nil, heard, append-nil (said_by name lines))
said_so name begun lines heard (Some h) now f = grind (arith, heard, rests_flat, append-nil (said_by name lines), rests_flat f.items f.text)

account_of : (begun : LiveState) (first : ℕ) (calls : List Call) (now : MachineState) → Accounts begun first calls now → IsAccount begun first calls now
account_of begun first calls now a = grind (arith, said_so)

pub starts : (begun : LiveState) (first : ℕ) → Accounts begun first [] (begins_with begun first)
starts begun first = grind arith

pub account : (begun : LiveState) (first : ℕ) (calls : List Call) (now : MachineState) → Run (begins_with begun first) calls now → IsAccount begun first calls now
account begun first calls now run = account_of begun first calls now (all_happened begun first [] calls (begins_with begun first) now (starts begun first) run)

pub answered : (begun : LiveState) (first : ℕ) (calls : List Call) (now : MachineState) (a : IsAccount begun first calls now) → AreAnswered AnswersLine begun first (served_lines (a.taken ++ a.rest)) (replies_of (a.taken ++ a.rest)) now.live
answered begun first calls now a = turns_answered (a.taken ++ a.rest) begun now.live first now.next a.served a.day
