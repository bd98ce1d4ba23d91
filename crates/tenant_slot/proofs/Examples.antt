-- The definitions on small cases, computed by the checker.
use Rattle.tenant_slot.proofs.Prelude.{◌≡◌, ℕ, List, [], ◌∷◌, Ok, Err, Some, None, true, false, refl, Arch, Circuit, TooWide, Strip, packing_sources, placing_sources, Packing, Routing, Upload, Change, Route, Cancel, Net, Status, Withdraw, PlaceFile, RouteFile, Advance, Stale, Accepted, Refused, Step, WrongState, BadBlif, CannotPack, DoesNotFit, BadEffort, Blocks, GaveUp, State, pack_unless, place, place_unless, routed_unless, run, start, step, after_event, is_takeable, next_job, Loaded}
use Rattle.tenant_slot.specs.declared.reply.StateName.TheVariants.{Placing}
use Rattle.tenant_slot.specs.declared.reply.StateName.TheVariants.{Empty, Packed, Placed, Unrouted}
use Rattle.tenant_slot.specs.declared.event.Event.TheVariants.{Command as Asked, Advance as Stepped}
use Rattle.tenant_slot.specs.declared.reply.Reply.TheVariants.{Status as InState}
use Rattle.tenant_slot.proofs.Leading.{load}

-- a tenancy whose packing has made two steps, in its fourth generation
abbrev packing : Arch → Strip → List ℕ → State
packing arch strip text = record (start arch strip) { name = Packing; text = text; generation = 4; steps = 2; entries = 9 }

-- in the state Empty, commands that aren't lawful are refused, and `status` replies with the state;
-- each is one entry
empty_refuses : (arch : Arch) (strip : Strip) →
    (run arch strip (Asked Withdraw ∷ Asked (Change []) ∷ Asked Cancel ∷ Asked Status ∷ []))
    ≡ (record (start arch strip) { entries = 4 }, Some (Refused (WrongState Empty)) ∷ Some (Refused (WrongState Empty)) ∷ Some (Refused (WrongState Empty)) ∷ Some (InState (record { state = Empty; steps = 0; ending = None })) ∷ [])
empty_refuses arch strip = refl

-- a second upload is refused, and a withdrawal begins a new generation
second_upload : (arch : Arch) (strip : Strip) (text other : List ℕ) →
    (step (step (record (start arch strip) { name = Loaded; text = text; entries = 1 }) (Asked (Upload other))).0 (Asked Withdraw))
    ≡ (record (start arch strip) { generation = 1; entries = 3 }, Some (Accepted Empty))
second_upload arch strip text other = refl

-- a netlist with a fault changes nothing, and the reply has the fault
too_wide : (state : State) (text : List ℕ) → load state text (Err (record { line = 4; kind = TooWide })) ≡ (None, Refused (BadBlif (record { line = 4; kind = TooWide })))
too_wide state text = refl

-- a netlist without a fault is kept
circuit_loaded : (arch : Arch) (strip : Strip) (text : List ℕ) (circuit : Circuit) → load (start arch strip) text (Ok circuit) ≡ (Some (record (start arch strip) { name = Loaded; text = text }), Accepted Loaded)
circuit_loaded arch strip text circuit = refl

-- a journal that has all its entries takes no more, not even `withdraw`
full_journal : (arch : Arch) (strip : Strip) → step (record (start arch strip) { entries = 65536 }) (Asked Withdraw) ≡ (record (start arch strip) { entries = 65536 }, None)
full_journal arch strip = refl

-- a packing begins with a new generation and no steps, or the reply has the element that fits into
-- no cluster
packing_begins : (arch : Arch) (strip : Strip) (text : List ℕ) → pack_unless (record (start arch strip) { name = Loaded; text = text; generation = 2 }) None ≡ (Some (record (start arch strip) { name = Packing; text = text; generation = 3 }), Accepted Packing)
packing_begins arch strip text = refl

cannot_pack : (state : State) → pack_unless state (Some 0) ≡ (None, Refused (CannotPack 0))
cannot_pack state = refl

-- if the packing is given up, the netlist stays
cancelled : (arch : Arch) (strip : Strip) (text : List ℕ) → step (packing arch strip text) (Asked Cancel) ≡ (record (start arch strip) { name = Loaded; text = text; generation = 5; entries = 10 }, Some (Accepted Loaded))
cancelled arch strip text = refl

nothing_to_cancel : (arch : Arch) (strip : Strip) (text : List ℕ) → (step (record (packing arch strip text) { name = Packed }) (Asked Cancel)).1 ≡ Some (Refused (WrongState Packed))
nothing_to_cancel arch strip text = refl

-- while it runs, `status` has its steps, and there is no file yet
steps_told : (arch : Arch) (strip : Strip) (text : List ℕ) → (step (packing arch strip text) (Asked Status)).1 ≡ Some (InState (record { state = Packing; steps = 2; ending = None }))
steps_told arch strip text = refl

no_file : (arch : Arch) (strip : Strip) (text : List ℕ) → (step (packing arch strip text) (Asked Net)).1 ≡ Some (Refused (WrongState Packing))
no_file arch strip text = refl

-- a step that comes when no job runs is an entry that changes nothing else
late_step : (arch : Arch) (strip : Strip) (made : Advance) → step (record (start arch strip) { name = Loaded; entries = 5 }) (Stepped made) ≡ (record (start arch strip) { name = Loaded; entries = 6 }, Some (Step Stale))
late_step arch strip made = refl

-- so is a step of another generation, of another number, or of other sources
other_generation : (arch : Arch) (strip : Strip) (text : List ℕ) → (step (packing arch strip text) (Stepped (record { generation = 3; number = 3; foreign = false }))).1 ≡ Some (Step Stale)
other_generation arch strip text = refl

other_number : (arch : Arch) (strip : Strip) (text : List ℕ) → (step (packing arch strip text) (Stepped (record { generation = 4; number = 2; foreign = false }))).1 ≡ Some (Step Stale)
other_number arch strip text = refl

other_sources : (arch : Arch) (strip : Strip) (text : List ℕ) → (step (packing arch strip text) (Stepped (record { generation = 4; number = 3; foreign = true }))).1 ≡ Some (Step Stale)
other_sources arch strip text = refl

-- the running job's next step follows the steps made so far, and can be taken while it is here
third_step : (arch : Arch) (strip : Strip) (text : List ℕ) →
    (next_job (record { id = 7; state = packing arch strip text; here = Some false })) ≡ Some (record { id = 7; generation = 4; number = 3; sources = packing_sources arch strip text })
third_step arch strip text = refl

takeable : (arch : Arch) (strip : Strip) (text : List ℕ) → is_takeable (record { id = 7; state = packing arch strip text; here = Some false }) ≡ true
takeable arch strip text = refl

taken : (arch : Arch) (strip : Strip) (text : List ℕ) → is_takeable (record { id = 7; state = packing arch strip text; here = None }) ≡ false
taken arch strip text = refl

-- a job that is given up is no longer out; one whose `status` is asked still is
given_up : (arch : Arch) (strip : Strip) (text : List ℕ) → (after_event (record { id = 7; state = packing arch strip text; here = None }) (Asked Cancel)).here ≡ Some false
given_up arch strip text = refl

still_out : (arch : Arch) (strip : Strip) (text : List ℕ) → (after_event (record { id = 7; state = packing arch strip text; here = None }) (Asked Status)).here ≡ None
still_out arch strip text = refl

-- a tenancy whose netlist is placed
abbrev placed : Arch → Strip → List ℕ → State
placed arch strip text = record (start arch strip) { name = Placed; text = text; seed = 7; effort = 1; generation = 4; entries = 9 }

-- an effort above 100 is refused before the places are counted; after that, too few places are
bad_effort : (state : State) (circuit : Circuit) → place state 1 101 circuit ≡ (None, Refused BadEffort)
bad_effort state circuit = refl

does_not_fit : (state : State) → place_unless state 1 0 (Some (Blocks 2 3)) ≡ (None, Refused (DoesNotFit (Blocks 2 3)))
does_not_fit state = refl

-- a placing records its seed and its effort, and gives up what was placed before
placed_again : (arch : Arch) (strip : Strip) (text : List ℕ) → place_unless (placed arch strip text) 5 100 None ≡ (Some (record (placed arch strip text) { name = Placing; seed = 5; effort = 100; generation = 5 }), Accepted Placing)
placed_again arch strip text = refl

-- if the placing is given up, the packing stays
placing_cancelled : (arch : Arch) (strip : Strip) (text : List ℕ) → step (record (placed arch strip text) { name = Placing; steps = 3 }) (Asked Cancel) ≡ (record (placed arch strip text) { name = Packed; generation = 5; entries = 10 }, Some (Accepted Packed))
placing_cancelled arch strip text = refl

-- while it runs there is a packing, and no places
no_places : (arch : Arch) (strip : Strip) (text : List ℕ) → (step (record (placed arch strip text) { name = Placing }) (Asked PlaceFile)).1 ≡ Some (Refused (WrongState Placing))
no_places arch strip text = refl

-- its next step has its seed and its effort
placing_step : (arch : Arch) (strip : Strip) (text : List ℕ) →
    (next_job (record { id = 7; state = record (placed arch strip text) { name = Placing; steps = 3 }; here = Some false })) ≡ Some (record { id = 7; generation = 4; number = 4; sources = placing_sources arch strip text [] 7 1 })
placing_step arch strip text = refl

-- a routing begins when the netlist is placed, and if it is given up the places stay
routing_begins : (arch : Arch) (strip : Strip) (text : List ℕ) → step (placed arch strip text) (Asked Route) ≡ (record (placed arch strip text) { name = Routing; generation = 5; entries = 10 }, Some (Accepted Routing))
routing_begins arch strip text = refl

routing_cancelled : (arch : Arch) (strip : Strip) (text : List ℕ) → step (record (placed arch strip text) { name = Routing; steps = 2 }) (Asked Cancel) ≡ (record (placed arch strip text) { generation = 5; entries = 10 }, Some (Accepted Placed))
routing_cancelled arch strip text = refl

-- it ends with routes, or with how it ended, and then it has no file
gave_up : (arch : Arch) (strip : Strip) (text : List ℕ) → routed_unless (record (placed arch strip text) { name = Routing; steps = 29 }) (Some GaveUp) ≡ record (placed arch strip text) { name = Unrouted; ending = Some GaveUp }
gave_up arch strip text = refl

no_routes : (arch : Arch) (strip : Strip) (text : List ℕ) → (step (record (placed arch strip text) { name = Unrouted; ending = Some GaveUp }) (Asked RouteFile)).1 ≡ Some (Refused (WrongState Unrouted))
no_routes arch strip text = refl
