-- What a script's run without workers answers to one session, as that session's turns.
use Rattle.same_answers.proofs.Prelude.{◌≡◌, ◌≢◌, ℕ, List, [], ◌∷◌, ◌++◌, Bool, true, false, Option, None, Result, inl, inr, refl, sym, ap, ◌∙◌, subst, arith, if◌then◌else◌, bytes_eq, bytes_eq-Decides, start, OpRefusal, History, Call, Happens, Run, ServiceState, live_of, strip_on, run_device, history_of-zero, SessionLine, Blank, Command, Wait, Refused, Answer, own_graph, with_item, Asks, LeavesNone, answer_text, Turn, Item, Meanwhile, text_of_turns, Act, Operator, Session, OperatorLine, Admit, Evict, Move, Owners, Step, Take, Put, job_at, last_id, names_after, HasOwnGraph, IsAdmission, IsServed, Stage, served_runs, steady_asks, items_by, IsReply, waits_for_each, waited_text, AreReplied, HasSameText, OwnTurns, items_in, IsAnswered, Telling, Tells, AreLeftAlone, AreRepliedTo, HasTextInOrder, IsLeftAlone, IsRepliedTo, acts_of, answer_for, answers_for}
use Rattle.script_text.specs.declared.operator_line.OperatorLine.TheVariants.{List as ListAll}
use Rattle.same_answers.proofs.Elsewhere.{AreElsewhere, Elsewhere, elsewhere_sparing, holding, line_elsewhere, of_others, older_id, other_id, putting, to_elsewhere, tried_steps}
use Rattle.same_answers.proofs.Widths.{HasWidth, after_calls, steady_sparing}

-- the turns of a session of that tenancy, with these items and this text
pub record IsSession (id : ℕ) (old : ServiceState) (items : List SessionLine) (text : List ℕ) : Type 0 where
  pub turns : List Turn
  pub new : ServiceState
  pub are : OwnTurns id old turns new
  pub items_are : items_in turns ≡ items
  pub text_is : text_of_turns turns ≡ text
  pub replied : AreReplied id turns

nothing_more : (id : ℕ) (old : ServiceState) → IsSession id old [] []
nothing_more id old = record { turns = []; new = old; are = refl; items_are = refl; text_is = refl; replied = tt }

-- a call of others comes before them
one_call : (id : ℕ) (old mid : ServiceState) (call : Call) (items : List SessionLine) (text : List ℕ) → Happens old call mid → Elsewhere id call → IsSession id mid items text → IsSession id old items text
one_call id old mid call items text happens is s =
    let others = of_others id call is in
    record {
      turns = Meanwhile call ∷ s.turns;
      new = s.new;
      are = (mid, others.0, happens, s.are);
      items_are = s.items_are;
      text_is = s.text_is;
      replied = (others.1, s.replied);
    }

from : (id : ℕ) (old mid : ServiceState) (items : List SessionLine) (text : List ℕ) → mid ≡ old → IsSession id mid items text → IsSession id old items text
from id old mid items text same s = let P : ServiceState → Type 0 = λ x. IsSession id x items text in subst P same s

other_calls : (id : ℕ) (old : ServiceState) (calls : List Call) (mid : ServiceState) (items : List SessionLine) (text : List ℕ) → Run old calls mid → AreElsewhere id calls → IsSession id mid items text → IsSession id old items text
other_calls id old [] mid items text run are s = from id old mid items text run s
other_calls id old (call ∷ calls) mid items text run are s = one_call id old run.0 call items text run.1 are.0 (other_calls id run.0 calls mid items text run.2 are.1 s)

-- an item of its own
one_item : (id : ℕ) (old mid : ServiceState) (line : SessionLine) (calls : List Call) (answer : Answer) (text more : List ℕ) (items : List SessionLine) → Asks id line calls answer → Run old calls mid → LeavesNone id line calls answer mid →
    text ≡ answer_text answer → IsReply text → IsSession id mid items more → IsSession id old (line ∷ items) (text ++ more)
one_item id old mid line calls answer text more items asks run leaves told reply s = record {
  turns = Item line calls answer ∷ s.turns;
  new = s.new;
  are = (mid, asks, run, leaves, s.are);
  items_are = ap (λ xs. line ∷ xs) s.items_are;
  text_is = ap (λ t. t ++ text_of_turns s.turns) (sym told) ∙ ap (λ t. text ++ t) s.text_is;
  replied = (subst IsReply told reply, s.replied);
}

own_line : (id : ℕ) (old mid : ServiceState) (line : SessionLine) (calls : List Call) (answer : Answer) (text more : List ℕ) (items : List SessionLine) → Asks id line calls answer → Run old calls mid → LeavesNone id line calls answer mid →
    text ≡ answer_text answer → IsReply text → IsSession id mid items more → IsSession id old (with_item line items) (text ++ more)
own_line id old mid Blank calls answer text more items asks run leaves told reply s = grind arith
own_line id old mid (Refused refusal) calls answer text more items asks run leaves told reply s = one_item id old mid (Refused refusal) calls answer text more items asks run leaves told reply s
own_line id old mid (Command command) calls answer text more items asks run leaves told reply s = one_item id old mid (Command command) calls answer text more items asks run leaves told reply s
own_line id old mid Wait calls answer text more items asks run leaves told reply s = one_item id old mid Wait calls answer text more items asks run leaves told reply s

-- the name's tenancy, live, in a stage
pub record IsOn (id width : ℕ) (name : List ℕ) (stage : Stage) : Type 0 where
  pub id_is : last_id stage.names name ≡ id
  pub width_is : HasWidth id width stage.service
  pub graph : HasOwnGraph stage

-- an id with a tenancy isn't 0
never_zero : (id width : ℕ) (state : ServiceState) → HasWidth id width state → id ≢ 0
never_zero id width state has is = grind (arith, history_of-zero)

-- calls after which it is still there
record Serves (id : ℕ) (name : List ℕ) (old mid : Stage) (calls : List Call) : Type 0 where
  are : AreElsewhere id calls
  names : last_id mid.names name ≡ last_id old.names name
  graph : mid.graph ≡ old.graph

same_names : (name : List ℕ) (old mid : Stage) → mid.names ≡ old.names → last_id mid.names name ≡ last_id old.names name
same_names name old mid same = ap (λ names. last_id names name) same

newer_names : (name other : List ℕ) (names : List (List ℕ)) (answer : Result (ℕ × ℕ) OpRefusal) → bytes_eq name other ≡ false → last_id (names_after names other answer) name ≡ last_id names name
newer_names name other names answer differ = grind (arith, older_id)

other_admitted : (id : ℕ) (name other : List ℕ) (o : Option History) (old mid : Stage) (width : ℕ) (calls : List Call) (text : List ℕ) → bytes_eq name other ≡ false → IsAdmission o old other width calls text mid → Serves id name old mid calls
other_admitted id name other o old mid width calls text differ is = grind (arith, newer_names)

-- a name that is in use isn't admitted
own_admitted : (id : ℕ) (name other : List ℕ) (o : Option History) (old mid : Stage) (width : ℕ) (calls : List Call) (text : List ℕ) → (o ≡ None → ⊥) → IsAdmission o old other width calls text mid → Serves id name old mid calls
own_admitted id name other o old mid width calls text some is = grind arith

is_there : (id width : ℕ) (state : ServiceState) → HasWidth id width state → live_of state.histories id ≡ None → ⊥
is_there id width state has none = grind arith

served_line : (id width : ℕ) (name : List ℕ) (old : Stage) (line : OperatorLine (List ℕ)) (calls : List Call) (text : List ℕ) (mid : Stage) → IsOn id width name old → IsLeftAlone name (Operator line) → IsServed old line calls text mid → Serves id name old mid calls
served_line id width name old (Admit other w) calls text mid on left is = grind (arith, bytes_eq-Decides, own_admitted, is_there, other_admitted)
served_line id width name old (Evict other) calls text mid on left is = search (other_id, never_zero, to_elsewhere, same_names, arith)
served_line id width name old (Move other offset) calls text mid on left is = record { are = to_elsewhere id calls _ is.4 (tt, tt); names = same_names name old mid is.2; graph = is.6 }
served_line id width name old (Step other count) calls text mid on left is =
    let apart = other_id old.names name other id on.id_is (never_zero id width old.service on.width_is) left in
    record { are = to_elsewhere id calls _ is.6 (tried_steps id (last_id old.names other) is.0 apart is.2); names = same_names name old mid is.4; graph = is.8 }
served_line id width name old (Take other) calls text mid on left is =
    let apart = other_id old.names name other id on.id_is (never_zero id width old.service on.width_is) left in
    record { are = holding id (last_id old.names other) is.0 calls apart is.1; names = same_names name old mid is.3; graph = is.6 }
served_line id width name old (Put number) calls text mid on left is = record { are = putting id (job_at old.jobs number) calls is.0 is.1; names = same_names name old mid is.3; graph = is.6 }
served_line id width name old ListAll calls text mid on left is = record { are = to_elsewhere id calls [] is.0 tt; names = same_names name old mid (ap (λ (s : Stage). s.names) is.2); graph = ap (λ (s : Stage). s.graph) is.2 }
served_line id width name old Owners calls text mid on left is = record { are = to_elsewhere id calls _ is.2 (tt, tt); names = same_names name old mid (ap (λ (s : Stage). s.names) is.4); graph = ap (λ (s : Stage). s.graph) is.4 }

-- the device's own graph stays
own_graph_after : (old mid : Stage) (calls : List Call) → Run old.service calls mid.service → mid.graph ≡ old.graph → HasOwnGraph old → HasOwnGraph mid
own_graph_after old mid calls run same own = same ∙ (own ∙ ap own_graph (sym (run_device old.service calls mid.service run)))

-- the stage after an act, and what the act adds to the session
record After (id width : ℕ) (name : List ℕ) (old mid : Stage) (act : Act (List ℕ)) (text : List ℕ) : Type 0 where
  on : IsOn id width name mid
  adds : (acts : List (Act (List ℕ))) (more : List ℕ) → IsSession id mid.service (items_by name acts) more → IsSession id old.service (items_by name (act ∷ acts)) (answer_for name act text ++ more)

after_act : (id width : ℕ) (name : List ℕ) (old mid : Stage) (act : Act (List ℕ)) (calls : List Call) (text : List ℕ) → IsOn id width name old → IsLeftAlone name act → IsRepliedTo name act text → IsAnswered old act calls text mid → After id width name old mid act text
after_act id width name old mid (Operator line) calls text on left reply is =
    let run : Run old.service calls mid.service = served_runs old line calls text mid is in
    let s = served_line id width name old line calls text mid on left is in
    record {
      on = record {
        id_is = s.names ∙ on.id_is;
        width_is = after_calls id width old.service calls mid.service (elsewhere_sparing id calls s.are) run on.width_is;
        graph = own_graph_after old mid calls run s.graph on.graph;
      };
      adds = λ acts more rest. other_calls id old.service calls mid.service (items_by name acts) more run s.are rest;
    }
after_act id width name old mid (Session other line) calls text on left reply is =
    record {
      on = record {
        id_is = same_names name old mid is.3 ∙ on.id_is;
        width_is = after_calls id width old.service calls mid.service (steady_sparing id calls (steady_asks (last_id old.names other) line calls is.0 is.1)) is.2 on.width_is;
        graph = own_graph_after old mid calls is.2 is.6 on.graph;
      };
      adds = λ acts more rest. by_test acts more rest (bytes_eq name other) refl;
    }
  where
    by_test : (acts : List (Act (List ℕ))) (more : List ℕ) → IsSession id mid.service (items_by name acts) more → (b : Bool) → bytes_eq name other ≡ b → IsSession id old.service (if b then with_item line (items_by name acts) else items_by name acts) ((if b then text else []) ++ more)
    by_test acts more rest true e =
        let one : name ≡ other = (bytes_eq-Decides name other).0 e in
        let own : last_id old.names other ≡ id = ap (last_id old.names) (sym one) ∙ on.id_is in
        let asks : Asks id line calls is.0 = (let P : ℕ → Type 0 = λ i. Asks i line calls is.0 in subst P own is.1) in
        let leaves : LeavesNone id line calls is.0 mid.service = (let P : ℕ → Type 0 = λ i. LeavesNone i line calls is.0 mid.service in subst P own (is.7 on.graph)) in
        own_line id old.service mid.service line calls is.0 text more (items_by name acts) asks is.2 leaves is.5 (reply e) rest
    by_test acts more rest false e =
        let apart = other_id old.names name other id on.id_is (never_zero id width old.service on.width_is) e in
        other_calls id old.service calls mid.service (items_by name acts) more is.2 (line_elsewhere id (last_id old.names other) line calls is.0 apart is.1) rest

-- a session without items is answered nothing
no_answer : (name : List ℕ) (old mid : Stage) (act : Act (List ℕ)) (calls : List Call) (text : List ℕ) (acts : List (Act (List ℕ))) → IsAnswered old act calls text mid → items_by name (act ∷ acts) ≡ [] → (answer_for name act text ≡ []) × (items_by name acts ≡ [])
no_answer name old mid act calls text acts is none = grind arith

no_answers : (name : List ℕ) (old : Stage) (tellings : List Telling) (new : Stage) → Tells old tellings new → items_by name (acts_of tellings) ≡ [] → answers_for name tellings ≡ []
no_answers name old [] new tells none = refl
no_answers name old (t ∷ tellings) new tells none =
    let one = no_answer name old tells.0 t.act t.calls t.text (acts_of tellings) tells.1 none in
    ap (λ text. text ++ answers_for name tellings) one.0 ∙ no_answers name tells.0 tellings new tells.2 one.1

-- the whole session
pub session : (id width : ℕ) (name : List ℕ) (old : Stage) (tellings : List Telling) (new : Stage) → Tells old tellings new → IsOn id width name old → AreLeftAlone name (acts_of tellings) → AreRepliedTo name tellings → IsSession id old.service (items_by name (acts_of tellings)) (answers_for name tellings)
session id width name old [] new tells on left replied = nothing_more id old.service
session id width name old (t ∷ tellings) new tells on (inl none) replied =
    let both : IsSession id old.service (items_by name (acts_of (t ∷ tellings))) [] = (let P : List SessionLine → Type 0 = λ items. IsSession id old.service items [] in subst P (sym none) (nothing_more id old.service)) in
    subst (IsSession id old.service (items_by name (acts_of (t ∷ tellings)))) (sym (no_answers name old (t ∷ tellings) new tells none)) both
session id width name old (t ∷ tellings) new tells on (inr left) replied =
    let after = after_act id width name old tells.0 t.act t.calls t.text on left.0 replied.0 tells.1 in
    after.adds (acts_of tellings) (answers_for name tellings) (session id width name tells.0 tellings new tells.2 after.on left.1 replied.1)

pub text_in_order : HasSameText → HasTextInOrder
text_in_order same_text device before old new name width tellings first own nothing live tells waits left replied =
    let id : ℕ = last_id old.names name in
    let s = session id width name old tellings new tells (record { id_is = refl; width_is = live; graph = own }) left replied in
    let their : waits_for_each false (items_in s.turns) ≡ true = ap (waits_for_each false) s.items_are ∙ waits in
    sym s.text_is ∙ (same_text device before old.service s.new id width s.turns first nothing live s.are their s.replied ∙ ap (waited_text (start device.arch (strip_on device width))) s.items_are)
