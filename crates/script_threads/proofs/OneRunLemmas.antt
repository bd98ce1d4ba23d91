-- A script on threads is one run of the core.
use Rattle.script_threads.proofs.Prelude.{◌≡◌, ℕ, List, [], ◌∷◌, ◌++◌, Option, Some, None, ap, sym, ◌∙◌, subst, arith, All, IfSome, All-weaker, Basis, Device, Call, Run, ServiceState, empty_service, each_alone, is_book, own_journals, Kept, run_device, run_keeps, IsService-empty, one_owner, are_parted, own_graph, Run-append, Follows, Stays, own_receipts, Stands, own_stand, ItemAnswer, Stage, OperatorLine, Parts as Script, AreServed, Serves, with_give_backs, IsOneRun, calls_of, IsEnded, Section, Conversation, IsAnswered, IsServedFrom, receipts_told}
use Rattle.script_threads.proofs.TurnLemmas.{IsFullFrom, IsTurn, full_from, served_told, turns_go_on, without_refused}

lines_run : (old : Stage) (lines : List (OperatorLine (List ℕ))) (calls : List Call) (text : List ℕ) (new : Stage) → AreServed old lines calls text new → Run old.service calls new.service
lines_run old [] calls text new is = grind arith
lines_run old (line ∷ lines) calls text new is = grind (arith, Run-append, lines_run is.2 lines is.3 is.4 new is.6)

pub serves_run : (graph : Basis) (names : List (List ℕ)) (service : ServiceState) (lines : List (OperatorLine (List ℕ))) (text : List ℕ) (new_names : List (List ℕ)) (new : ServiceState) →
    (is : Serves graph names service lines text new_names new) → Run service (with_give_backs is.calls is.last) new
serves_run graph names service lines text new_names new is = grind (arith, Run-append, lines_run)

pub is_one_run : (device : Device) (script : Script) (sections : List Section) (text : List ℕ) (is : IsServedFrom (own_graph device) (empty_service device) script sections text) → IsOneRun device (calls_of is) is.last
is_one_run device script sections text is =
    let ahead : List Call = with_give_backs is.ahead.calls is.ahead.last in
    let threads : List Call = is.ran.calls in
    let rest : List Call = with_give_backs is.rest.calls is.rest.last in
    let left : List Call = is.left.calls in
    let later : Run is.rested rest is.last = serves_run _ _ _ _ _ _ _ is.rest in
    let ended : Run is.settled (left ++ rest) is.last = Run-append is.settled left is.rested rest is.last is.left.run later in
    let ran : Run is.service (threads ++ (left ++ rest)) is.last = Run-append is.service threads is.settled (left ++ rest) is.last is.ran.run ended in
    let run : Run (empty_service device) (calls_of is) is.last = Run-append (empty_service device) ahead is.service (threads ++ (left ++ rest)) is.last (serves_run _ _ _ _ _ _ _ is.ahead) ran in
    let parted = are_parted device (calls_of is) is.last run in
    record {
      run = run;
      alone = each_alone device (calls_of is) is.last run;
      journals = own_journals device (calls_of is) is.last run;
      parted = parted;
      book = is_book device (calls_of is) is.last run;
      exact = one_owner is.last parted.parted parted.of_live;
    }

pub goes_on : (graph : Basis) (start : ServiceState) (script : Script) (sections : List Section) (text : List ℕ) (is : IsServedFrom graph start script sections text) → Follows is.service is.settled × Stays is.service is.settled
goes_on graph start script sections text is = turns_go_on is.service is.ran.calls is.settled is.ran.kinds is.ran.run

abbrev Confirmed : ServiceState → ℕ → Option (List (Option ItemAnswer)) → Type 0
Confirmed s id told = IfSome told (λ answers. All (Stands s id) (receipts_told answers))

one_stands : (calls : List Call) (s : ServiceState) (c : Conversation) (told : Option (List (Option ItemAnswer))) → All (Stands s c.id) (own_receipts c.id calls) → IfSome told (IsAnswered calls c) → Confirmed s c.id told
one_stands calls s c None own is = tt
one_stands calls s c (Some answers) own is = subst (All (Stands s c.id)) (served_told calls c answers is) own

pub stand : (graph : Basis) (start : ServiceState) (script : Script) (sections : List Section) (text : List ℕ) (is : IsServedFrom graph start script sections text) → All (λ (c : Conversation). Confirmed is.settled c.id c.told) is.ran.conversations
stand graph start script sections text is =
    let serving = without_refused is.service is.ran.calls is.settled is.ran.kinds is.ran.run in
    let own : (id : ℕ) → All (Stands is.settled id) (own_receipts id is.ran.calls) = λ id. subst (All (Stands is.settled id)) (serving.receipts id) (own_stand is.service serving.served is.settled id serving.kinds serving.run) in
    All-weaker (λ (c : Conversation). IfSome c.told (IsAnswered is.ran.calls c)) (λ (c : Conversation). Confirmed is.settled c.id c.told) (λ c answered. one_stands is.ran.calls is.settled c c.told (own c.id) answered) is.ran.conversations is.ran.answered

-- each command that is refused
abbrev AreFullFrom : ServiceState → Conversation → Type 0
AreFullFrom service c = IfSome c.told (IsFullFrom service c.id)

one_full : (begun : ServiceState) (calls : List Call) (service : ServiceState) (c : Conversation) (told : Option (List (Option ItemAnswer))) → Kept begun → All IsTurn calls → Run begun calls service → IfSome told (IsAnswered calls c) → IfSome told (IsFullFrom service c.id)
one_full begun calls service c None kept kinds run is = tt
one_full begun calls service c (Some told) kept kinds run is = full_from begun calls service c told kept kinds run is

pub all_full : (device : Device) (script : Script) (sections : List Section) (text : List ℕ) (is : IsServedFrom (own_graph device) (empty_service device) script sections text) → All (AreFullFrom is.settled) is.ran.conversations
all_full device script sections text is =
    let kept : Kept is.service = run_keeps (empty_service device) (with_give_backs is.ahead.calls is.ahead.last) is.service (serves_run _ _ _ _ _ _ _ is.ahead) (IsService-empty device) in
    All-weaker (λ (c : Conversation). IfSome c.told (IsAnswered is.ran.calls c)) (AreFullFrom is.settled) (λ c answered. one_full is.service is.ran.calls is.settled c c.told kept is.ran.kinds is.ran.run answered) is.ran.conversations is.ran.answered

pub none_left : (device : Device) (script : Script) (sections : List Section) (text : List ℕ) (is : IsServedFrom (own_graph device) (empty_service device) script sections text) (id : ℕ) → IsEnded is.rested is.left.calls id
none_left device script sections text is id =
    let ahead : is.service.device ≡ device = run_device (empty_service device) (with_give_backs is.ahead.calls is.ahead.last) is.service (serves_run _ _ _ _ _ _ _ is.ahead) in
    let same : is.settled.device ≡ device = (goes_on _ _ script sections text is).0.device ∙ ahead in
    is.left.ended (ap own_graph (sym same)) id
