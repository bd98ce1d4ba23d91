-- A tenancy's strip keeps its size.
use Rattle.workers_law.proofs.Prelude.{◌≡◌, ℕ, List, [], ◌∷◌, ◌++◌, Option, arith, IsSomeAnd, option_map, Strip, History, Call, Run, ServiceState, history_of, with_changed, Effect, effect, history_of-modified, history_of-past, history_of-push}

-- there was that tenancy, in a strip of that size
abbrev HasStrip : Strip → Option History → Type 0
HasStrip strip o = IsSomeAnd o (λ h. h.strip ≡ strip)

abbrev pub IsSized : Strip → ServiceState → ℕ → Type 0
IsSized strip s id = HasStrip strip (history_of s.histories id)

changed : (strip : Strip) (change : History → History) → ((h : History) → (change h).strip ≡ h.strip) → (o : Option History) → HasStrip strip o → HasStrip strip (option_map change o)
changed strip change keeps o is = grind arith

modified_sized : (strip : Strip) (hs : List History) (t id : ℕ) (change : History → History) → ((h : History) → (change h).strip ≡ h.strip) → HasStrip strip (history_of hs id) → HasStrip strip (history_of (with_changed hs t change) id)
modified_sized strip hs t id change keeps is = grind (arith, history_of-modified)

pushed_sized : (strip : Strip) (hs : List History) (h : History) (id : ℕ) → HasStrip strip (history_of hs id) → HasStrip strip (history_of (hs ++ h ∷ []) id)
pushed_sized strip hs h id is = grind (arith, history_of-push, history_of-past)

sized : (strip : Strip) (old new : ServiceState) (id : ℕ) → Effect old new → IsSized strip old id → IsSized strip new id
sized strip old new id h1 is = grind (arith, pushed_sized, modified_sized)

pub run_sized : (strip : Strip) (old : ServiceState) (calls : List Call) (new : ServiceState) (id : ℕ) → Run old calls new → IsSized strip old id → IsSized strip new id
run_sized strip old [] new id run is = rw run is
run_sized strip old (call ∷ calls) new id run is = run_sized strip run.0 calls new id run.2 (sized strip old run.0 id (effect old call run.0 run.1) is)
