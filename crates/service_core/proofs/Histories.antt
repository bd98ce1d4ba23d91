-- A history with one more entry.
use Rattle.service_core.proofs.Prelude.{◌≡◌, ℕ, ◌≤◌, List, [], ◌∷◌, ◌++◌, Option, Some, sym, ap, ◌∙◌, arith, length-append, map-append, Arch, Strip, Reply, State, start, step, state_after, replies_to, SlotState, state_after-append, replies_to-append, Entry, IsReplayed, events_of, IsHistory, CountAs}

pub state_after-push : (first : State) (es : List Entry) (e : Entry) → state_after first (events_of (es ++ e ∷ [])) ≡ (step (state_after first (events_of es)) e.event).0
state_after-push first es e = grind (arith, map-append, state_after-append)

replies_to-push : (first : State) (es : List Entry) (e : Entry) → replies_to first (events_of (es ++ e ∷ [])) ≡ replies_to first (events_of es) ++ (step (state_after first (events_of es)) e.event).1 ∷ []
replies_to-push first es e = grind (arith, map-append, replies_to-append)

-- the journal is extended by a step
pub IsReplayed-push : (arch : Arch) (strip : Strip) (es : List Entry) (e : Entry) → IsReplayed arch strip es → (step (state_after (start arch strip) (events_of es)) e.event).1 ≡ Some e.reply → IsReplayed arch strip (es ++ e ∷ [])
IsReplayed-push arch strip es e was told = grind (arith, replies_to-push, map-append, state_after-push, length-append)

pub IsHistory-push : (id : ℕ) (arch : Arch) (strip : Strip) (es : List Entry) (e : Entry) (here : State) (new : SlotState) (held limit : ℕ) → CountAs held (es ++ e ∷ []) → held ≤ limit → IsReplayed arch strip es → here ≡ state_after (start arch strip) (events_of es) → step here e.event ≡ (new.state, Some e.reply) → new.id ≡ id → IsHistory id arch strip (Some new) (es ++ e ∷ []) held limit
IsHistory-push id arch strip es e here new held limit in_held in_limit was is steps its_id =
    let same : step (state_after (start arch strip) (events_of es)) e.event ≡ (new.state, Some e.reply) = rw (← is) steps in
    record {
      replayed = IsReplayed-push arch strip es e was (ap (λ (p : State × Option Reply). p.1) same);
      same_id = its_id;
      state = sym (state_after-push (start arch strip) es e ∙ ap (λ (p : State × Option Reply). p.0) same);
      counted = in_held;
      within = in_limit;
    }
