-- A name's seat: its last tenancy, if that is live, without its id; how the name's own lines change
-- it, and what they are answered.
use Rattle.replies_law.proofs.Prelude.{◌≡◌, ℕ, zero, suc, ◌+◌, eqb, Bool, true, false, List, [], ◌∷◌, ◌++◌, map, cond, Option, Some, None, Ok, Err, refl, sym, ap, ◌∙◌, subst, arith, ⊤, option_map, false≢true, Command as TenantCommand, Status, Event, Advance as Stepped, start, step, SlotState, after_event, is_takeable, Device, History, state_of, live_of, strip_on, Call, SessionLine, Blank, Wait, Refused, Evicted, Nothing, told_text, session_refusal_text, Act, Operator, Session, OperatorLine, Evict, Move, Owners, Step, Take, Put, evicted_text, outcome_text, Telling, Admit as AdmitCall, fits, own_answer}
use Rattle.std.specs.Prelude.{◌⊎◌}
use Rattle.tenant_slot.specs.declared.event.Event.TheVariants.{Command as Asked}
use Rattle.sessions.specs.declared.line.SessionLine.TheVariants.{Command}
use Rattle.service_core.specs.declared.op_refusal.OpRefusal.TheVariants.{NoSuchTenancy}
use Rattle.script_text.specs.declared.operator_line.OperatorLine.TheVariants.{Admit, List as ListAll}

-- which admissions were granted, by their calls
abbrev pub is_admission : Call → Bool
is_admission (AdmitCall width (Ok given)) = true
is_admission call = false

abbrev pub admits : List Call → Bool
admits [] = false
admits (call ∷ calls) = is_admission call

abbrev pub given_to : Act (List ℕ) → List Call → Bool
given_to (Operator (Admit name width)) calls = admits calls
given_to act calls = false

abbrev pub IsGiven : ℕ → Act (List ℕ) → List Call → Type 0
IsGiven columns (Operator (Admit name width)) calls = (calls ≡ []) ⊎ (admits calls ≡ fits columns width)
IsGiven columns act calls = ⊤

abbrev pub AreGiven : ℕ → List Telling → Type 0
AreGiven columns [] = ⊤
AreGiven columns (t ∷ ts) = IsGiven columns t.act t.calls × AreGiven columns ts

abbrev pub Seat : Type 0
Seat = Option SlotState

abbrev pub seat_of : History → SlotState
seat_of h = record { id = 0; state = state_of h; here = h.here }

abbrev pub seat_in : Option History → Seat
seat_in o = option_map seat_of o

abbrev pub seat : List History → ℕ → Seat
seat hs id = seat_in (live_of hs id)

-- an event, which a full journal doesn't take
abbrev pub happened : SlotState → Event → SlotState
happened s event = cond (eqb s.state.entries 65536) s (after_event s event)

-- the answer to a command
abbrev pub asked_text : Seat → TenantCommand → List ℕ
asked_text None command = session_refusal_text Evicted
asked_text (Some s) command = told_text (step s.state (Asked command)).1

abbrev pub asked_after : Seat → TenantCommand → Seat
asked_after None command = None
asked_after (Some s) command = Some (happened s (Asked command))

-- a step of the running job
abbrev pub takeable : Seat → Bool
takeable None = false
takeable (Some s) = is_takeable s

abbrev pub next_event : SlotState → Event
next_event s = Stepped (record { generation = s.state.generation; number = s.state.steps + 1; foreign = false })

abbrev pub stepped : Seat → Seat
stepped None = None
stepped (Some s) = Some (after_event (record s { here = None }) (next_event s))

abbrev pub tried : Seat → Seat
tried o = cond (takeable o) (stepped o) o

abbrev pub tries : ℕ → Seat → Seat
tries zero o = o
tries (suc n) o = tries n (tried o)

-- the answers to steps, a line each
abbrev pub stepped_text : Seat → List ℕ
stepped_text None = []
stepped_text (Some s) = told_text (step s.state (next_event s)).1

abbrev pub tried_text : Seat → List ℕ
tried_text o = cond (takeable o) (stepped_text o) (outcome_text Nothing)

abbrev pub tries_text : ℕ → Seat → List ℕ
tries_text zero o = []
tries_text (suc n) o = tried_text o ++ tries_text n (tried o)

-- the answer to an eviction
abbrev pub eviction_text : Seat → List ℕ
eviction_text None = evicted_text (Err NoSuchTenancy)
eviction_text (Some s) = evicted_text (Ok (record {}))

-- this number of steps, each of which there was to take
abbrev pub Goes : ℕ → Seat → Seat → Type 0
Goes zero old new = new ≡ old
Goes (suc n) old new = (takeable old ≡ true) × Goes n (stepped old) new

-- a wait makes steps until there is no step to take, and then does as `status`
pub record Waited (old : Seat) (text : List ℕ) (new : Seat) : Type 0 where
  pub count : ℕ
  pub mid : Seat
  pub goes : Goes count old mid
  pub ends : takeable mid ≡ false
  pub told : text ≡ asked_text mid Status
  pub after : new ≡ asked_after mid Status

-- a session's line changes the seat so, and has this answer
abbrev pub Says : Seat → SessionLine → List ℕ → Seat → Type 0
Says old Blank text new = (text ≡ []) × (new ≡ old)
Says old (Refused refusal) text new = (text ≡ session_refusal_text refusal) × (new ≡ old)
Says old (Command command) text new = (text ≡ asked_text old command) × (new ≡ asked_after old command)
Says old Wait text new = Waited old text new

-- an admission: the seat of a tenancy as it is admitted
abbrev pub fresh : Device → ℕ → SlotState
fresh device width = record { id = 0; state = start device.arch (strip_on device width); here = Some false }

abbrev pub Admits : Device → Seat → ℕ → Bool → Seat → Type 0
Admits device old width true new = new ≡ Some (fresh device width)
Admits device old width false new = new ≡ old

-- a line of the operator about the name
abbrev pub Serves : Device → Seat → OperatorLine (List ℕ) → Bool → List ℕ → Seat → Type 0
Serves device old (Admit name width) granted text new = Admits device old width granted new
Serves device old (Evict name) granted text new = (text ≡ eviction_text old) × (new ≡ None)
Serves device old (Step name count) granted text new = (text ≡ tries_text count old) × (new ≡ tries count old)
Serves device old (Move name offset) granted text new = new ≡ old
Serves device old (Take name) granted text new = new ≡ old
Serves device old (Put number) granted text new = new ≡ old
Serves device old ListAll granted text new = new ≡ old
Serves device old Owners granted text new = new ≡ old

abbrev pub Sits : Device → Seat → Act (List ℕ) → Bool → List ℕ → Seat → Type 0
Sits device old (Operator line) granted text new = Serves device old line granted text new
Sits device old (Session name line) granted text new = Says old line text new

-- an admission makes a call exactly if the seat is free
abbrev pub UsesSeat : Seat → List Call → Type 0
UsesSeat None calls = calls ≡ [] → ⊥
UsesSeat (Some s) calls = calls ≡ []

abbrev pub UsesBy : Seat → OperatorLine (List ℕ) → List Call → Type 0
UsesBy old (Admit name width) calls = UsesSeat old calls
UsesBy old (Evict name) calls = ⊤
UsesBy old (Step name count) calls = ⊤
UsesBy old (Move name offset) calls = ⊤
UsesBy old (Take name) calls = ⊤
UsesBy old (Put number) calls = ⊤
UsesBy old ListAll calls = ⊤
UsesBy old Owners calls = ⊤

abbrev pub Uses : Seat → Act (List ℕ) → List Call → Type 0
Uses old (Operator line) calls = UsesBy old line calls
Uses old (Session name line) calls = ⊤

-- acts one after another
abbrev pub SitThrough : Device → Seat → List Telling → Type 0
SitThrough device old [] = ⊤
SitThrough device old (t ∷ ts) = (mid : Seat) × Sits device old t.act (given_to t.act t.calls) t.text mid × Uses old t.act t.calls × SitThrough device mid ts

-- the answer to a name's own act
abbrev pub heard_of : Act (List ℕ) → List ℕ → List ℕ
heard_of (Operator line) text = []
heard_of (Session name line) text = text

-- two waits from one seat end in one seat
same_end : (n m : ℕ) (old a b : Seat) → Goes n old a → Goes m old b → takeable a ≡ false → takeable b ≡ false → a ≡ b
same_end zero zero old a b first other ends stops = first ∙ sym other
same_end zero (suc m) old a b first other ends stops = absurd (false≢true (sym ends ∙ (ap takeable first ∙ other.0)))
same_end (suc n) zero old a b first other ends stops = absurd (false≢true (sym stops ∙ (ap takeable other ∙ first.0)))
same_end (suc n) (suc m) old a b first other ends stops = same_end n m (stepped old) a b first.1 other.1 ends stops

same_said : (old : Seat) (line : SessionLine) (text other_text : List ℕ) (new other : Seat) → Says old line text new → Says old line other_text other → (text ≡ other_text) × (new ≡ other)
same_said old line text other_text new other a b = grind (arith, same_end)

same_sat : (device other_device : Device) (old : Seat) (act : Act (List ℕ)) (granted : Bool) (text other_text : List ℕ) (new other : Seat) → device.arch ≡ other_device.arch → device.rows ≡ other_device.rows →
    Sits device old act granted text new → Sits other_device old act granted other_text other → (own_answer act text ≡ own_answer act other_text) × (new ≡ other)
same_sat device other_device old act granted text other_text new other arch rows a b = grind (arith, same_said)

abbrev pub heard : Telling → List ℕ
heard t = heard_of t.act t.text

abbrev pub own_answer_in : Telling → List ℕ
own_answer_in t = own_answer t.act t.text

same_heard : (act : Act (List ℕ)) (text other_text : List ℕ) → own_answer act text ≡ own_answer act other_text → heard_of act text ≡ heard_of act other_text
same_heard act text other_text same = grind arith

asked_alike : (device : Device) (old : Seat) (act other : Act (List ℕ)) (given other_given : Bool) (text : List ℕ) (new : Seat) → act ≡ other → given ≡ other_given → Sits device old other other_given text new → Sits device old act given text new
asked_alike device old act other given other_given text new same grant sits = grind arith

-- two names that ask the same, and have the same admissions granted, have the same answers
pub hear_the_same : (device other_device : Device) (ts us : List Telling) (old : Seat) → device.arch ≡ other_device.arch → device.rows ≡ other_device.rows → SitThrough device old ts → SitThrough other_device old us →
    map (λ t. t.act) ts ≡ map (λ t. t.act) us → map (λ t. given_to t.act t.calls) ts ≡ map (λ t. given_to t.act t.calls) us → (map heard ts ≡ map heard us) × (map own_answer_in ts ≡ map own_answer_in us)
hear_the_same device other_device [] [] old arch rows a b acts grants = (refl, refl)
hear_the_same device other_device [] (u ∷ us) old arch rows a b acts grants = cc
hear_the_same device other_device (t ∷ ts) [] old arch rows a b acts grants = cc
hear_the_same device other_device (t ∷ ts) (u ∷ us) old arch rows a b acts grants =
    let act : t.act ≡ u.act = cc in
    let rest : map (λ (t : Telling). t.act) ts ≡ map (λ (t : Telling). t.act) us = cc in
    let grant : given_to t.act t.calls ≡ given_to u.act u.calls = cc in
    let more : map (λ (t : Telling). given_to t.act t.calls) ts ≡ map (λ (t : Telling). given_to t.act t.calls) us = cc in
    let other : Sits other_device old t.act (given_to t.act t.calls) u.text b.0 = asked_alike other_device old t.act u.act (given_to t.act t.calls) (given_to u.act u.calls) u.text b.0 act grant b.1 in
    let same = same_sat device other_device old t.act (given_to t.act t.calls) t.text u.text a.0 b.0 arch rows a.1 other in
    let R : Seat → Type 0 = λ s. SitThrough other_device s us in
    let first : heard t ≡ heard u = same_heard t.act t.text u.text same.0 ∙ ap (λ act. heard_of act u.text) act in
    let answer : own_answer_in t ≡ own_answer_in u = same.0 ∙ ap (λ act. own_answer act u.text) act in
    let others = hear_the_same device other_device ts us a.0 arch rows a.3 (subst R (sym same.1) b.3) rest more in
    (ap (λ x. x ∷ map heard ts) first ∙ ap (λ xs. heard u ∷ xs) others.0, ap (λ x. x ∷ map own_answer_in ts) answer ∙ ap (λ xs. own_answer_in u ∷ xs) others.1)

act_grant : (columns : ℕ) (old : Seat) (act : Act (List ℕ)) (calls others : List Call) → Uses old act calls → Uses old act others → IsGiven columns act calls → IsGiven columns act others → given_to act calls ≡ given_to act others
act_grant columns old act calls others uses other_uses is other_is = grind arith

pub grant_the_same : (columns : ℕ) (device other_device : Device) (ts us : List Telling) (old : Seat) → device.arch ≡ other_device.arch → device.rows ≡ other_device.rows → SitThrough device old ts → SitThrough other_device old us →
    map (λ t. t.act) ts ≡ map (λ t. t.act) us → AreGiven columns ts → AreGiven columns us → map (λ t. given_to t.act t.calls) ts ≡ map (λ t. given_to t.act t.calls) us
grant_the_same columns device other_device [] [] old arch rows a b acts is other_is = refl
grant_the_same columns device other_device [] (u ∷ us) old arch rows a b acts is other_is = cc
grant_the_same columns device other_device (t ∷ ts) [] old arch rows a b acts is other_is = cc
grant_the_same columns device other_device (t ∷ ts) (u ∷ us) old arch rows a b acts is other_is =
    let act : t.act ≡ u.act = cc in
    let rest : map (λ (t : Telling). t.act) ts ≡ map (λ (t : Telling). t.act) us = cc in
    let U : Act (List ℕ) → Type 0 = λ act. Uses old act u.calls in
    let G : Act (List ℕ) → Type 0 = λ act. IsGiven columns act u.calls in
    let mine : given_to t.act t.calls ≡ given_to t.act u.calls = act_grant columns old t.act t.calls u.calls a.2 (subst U (sym act) b.2) is.0 (subst G (sym act) other_is.0) in
    let grant : given_to t.act t.calls ≡ given_to u.act u.calls = mine ∙ ap (λ act. given_to act u.calls) act in
    let other : Sits other_device old t.act (given_to t.act t.calls) u.text b.0 = asked_alike other_device old t.act u.act (given_to t.act t.calls) (given_to u.act u.calls) u.text b.0 act grant b.1 in
    let same = same_sat device other_device old t.act (given_to t.act t.calls) t.text u.text a.0 b.0 arch rows a.1 other in
    let R : Seat → Type 0 = λ s. SitThrough other_device s us in
    let more = grant_the_same columns device other_device ts us a.0 arch rows a.3 (subst R (sym same.1) b.3) rest is.1 other_is.1 in
    ap (λ g. g ∷ map (λ (t : Telling). given_to t.act t.calls) ts) grant ∙ ap (λ gs. given_to u.act u.calls ∷ gs) more
