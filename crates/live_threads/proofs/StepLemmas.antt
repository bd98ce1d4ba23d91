-- What puts of steps and turns of names are to who keeps and tells: nothing.
use Rattle.live_threads.proofs.Prelude.{◌≡◌, ℕ, List, [], ◌∷◌, Bool, true, false, Option, Some, None, refl, sym, subst, AllByRecursion, View, StepEnd, Again, Dropped, GivenUp, Made, lines_in, Call, MachineState, GiveUp, PutStep, EndsPut, HasTurns, IsGivenUp, IsTurnOf, PutsStep, TakesTurn, IsServed, events_of}
use Rattle.live_threads.proofs.ServedLemmas.{served_calls, served_none, served_then}

no_lines : (name : List ℕ) (calls : List Call) → AllByRecursion (IsTurnOf name) calls → lines_in calls ≡ []
no_lines name [] all = refl
no_lines name (call ∷ calls) (is, all) = let P : Call → Type 0 = λ c. lines_in (c ∷ calls) ≡ [] in subst P (sym is) (no_lines name calls all)

no_events : (name : List ℕ) (calls : List Call) → AllByRecursion (IsTurnOf name) calls → events_of calls ≡ []
no_events name [] all = refl
no_events name (call ∷ calls) (is, all) = let P : Call → Type 0 = λ c. events_of (c ∷ calls) ≡ [] in subst P (sym is) (no_events name calls all)

turns_served : (name : List ℕ) (old new : MachineState) (view : View) → HasTurns name old new → IsServed old view [] new view
turns_served name old new view t = served_calls old new view t.calls t.run (no_lines name t.calls t.turns) (no_events name t.calls t.turns)

given_served : (went : Bool) (name : List ℕ) (old new : MachineState) (view : View) → IsGivenUp went name old new → IsServed old view [] new view
given_served true name old new view one = served_calls old new view (GiveUp name ∷ []) (new, one, refl) refl refl
given_served false name old new view same = let P : MachineState → Type 0 = λ m. IsServed old view [] m view in subst P (sym same) (served_none old view)

end_served : (end : StepEnd) (name : List ℕ) (old new : MachineState) (view : View) → EndsPut end name old new → IsServed old view [] new view
end_served Made name old new view (mid, one, turns) = served_then old mid new view view view [] [] (served_calls old mid view (PutStep name ∷ []) (mid, one, refl) refl refl) (turns_served name mid new view turns)
end_served Dropped name old new view turns = turns_served name old new view turns
end_served (Again tries) name old new view same = let P : MachineState → Type 0 = λ m. IsServed old view [] m view in subst P (sym same) (served_none old view)
end_served GivenUp name old new view (went, mid, given, turns) = served_then old mid new view view view [] [] (given_served went name old mid view given) (turns_served name mid new view turns)

pub put_served : (end : StepEnd) (name : Option (List ℕ)) (old new : MachineState) (view : View) → PutsStep end name old new → IsServed old view [] new view
put_served end (Some name) old new view ends = end_served end name old new view ends
put_served end None old new view (is, same) = let P : MachineState → Type 0 = λ m. IsServed old view [] m view in subst P (sym same) (served_none old view)

pub turn_served : (went : Bool) (old new : MachineState) (view : View) → TakesTurn went old new → IsServed old view [] new view
turn_served true old new view (name, turns) = turns_served name old new view turns
turn_served false old new view same = let P : MachineState → Type 0 = λ m. IsServed old view [] m view in subst P (sym same) (served_none old view)
