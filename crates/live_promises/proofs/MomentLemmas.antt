-- What was kept and told when a service with workers is ended.
use Rattle.live_promises.proofs.Prelude.{◌≡◌, ℕ, zero, suc, ◌+◌, List, [], ◌∷◌, ◌++◌, ◌⊎◌, inl, inr, take, drop, refl, sym, ap, subst, ◌∙◌, append-nil, append_assoc, arith, ⊤, AllByRecursion, flat_map, flat_map-append, take-append-drop, take-nil, Event, bytes_kept, bytes_told, kept_in, told_in, Kept, Told, LiveState, IsAccount, log_drained, told_drained, Call, Happens, MachineState, Run, begins_with, Drain, GiveUp, Line, PutStep, ServeHeld, IsDay, Turn, Answers, Loses, Works, EndsIn, IsCut, IsPart, events_in, events_of, IsBackedByTurns}

-- the first events of those, the last of them perhaps in part
abbrev Cut : List Event → List Event → Type 0
Cut whole [] = ⊤
Cut [] (event ∷ events) = ⊥
Cut (one ∷ whole) (event ∷ events) = ((event ≡ one) × Cut whole events) ⊎ (IsPart one event × (events ≡ []))

cut_in : (done more events : List Event) → EndsIn done more events → Cut (done ++ more) events
cut_in [] [] events same = let P : List Event → Type 0 = λ es. Cut [] es in subst P (sym same) tt
cut_in [] (one ∷ more) events (inl same) = let P : List Event → Type 0 = λ es. Cut (one ∷ more) es in subst P (sym same) tt
cut_in [] (one ∷ more) events (inr (part, is, same)) = let P : List Event → Type 0 = λ es. Cut (one ∷ more) es in subst P (sym same) (inr (is, refl))
cut_in (d ∷ done) [] events same = let P : List Event → Type 0 = λ es. Cut (d ∷ (done ++ [])) es in subst P (sym same) (inl (refl, cut_in done [] done refl))
cut_in (d ∷ done) (one ∷ more) events (inl same) = let P : List Event → Type 0 = λ es. Cut (d ∷ (done ++ one ∷ more)) es in subst P (sym same) (inl (refl, cut_in done (one ∷ more) done (inl refl)))
cut_in (d ∷ done) (one ∷ more) events (inr (part, is, same)) = grind (arith, cut_in done (one ∷ more) (done ++ part ∷ []) (inr (part, is, refl)))

cut_of : (whole events : List Event) → IsCut whole events → Cut whole events
cut_of whole events is = let P : List Event → Type 0 = λ es. Cut es events in subst P (sym is.whole_is) (cut_in is.done is.more events is.ends)

-- the first events of those are a cut too
cut_take : (n : ℕ) (whole events : List Event) → Cut whole events → Cut whole (take n events)
cut_take zero whole events cut = tt
cut_take (suc n) whole [] cut = tt
cut_take (suc n) [] (event ∷ events) cut = cut
cut_take (suc n) (one ∷ whole) (event ∷ events) (inl (same, cut)) = inl (same, cut_take n whole events cut)
cut_take (suc n) (one ∷ whole) (event ∷ events) (inr (is, none)) = inr (is, ap (take n) none ∙ take-nil n)

-- all that was drained is kept and told
kept_drained : (calls : List Call) → kept_in (events_of calls) ≡ flat_map log_drained calls
kept_drained [] = refl
kept_drained (Line line ∷ calls) = kept_drained calls
kept_drained (ServeHeld name ∷ calls) = kept_drained calls
kept_drained (GiveUp name ∷ calls) = kept_drained calls
kept_drained (PutStep name ∷ calls) = kept_drained calls
kept_drained (Drain log told ∷ calls) = ap (λ l. log ++ l) (kept_drained calls)

drained_told : (calls : List Call) → flat_map told_drained calls ≡ told_in (events_of calls)
drained_told [] = refl
drained_told (Line line ∷ calls) = drained_told calls
drained_told (ServeHeld name ∷ calls) = drained_told calls
drained_told (GiveUp name ∷ calls) = drained_told calls
drained_told (PutStep name ∷ calls) = drained_told calls
drained_told (Drain log told ∷ calls) = ap (λ l. told ++ l) (drained_told calls)

-- the first turns of a day are a day
day_first : (first more : List Turn) (old new : LiveState) (number next : ℕ) → IsDay old number (first ++ more) new next → (mid : LiveState) × (middle : ℕ) × IsDay old number first mid middle
day_first [] more old new number next day = (old, number, (refl, refl))
day_first (Answers heard line reply ∷ first) more old new number next (mid, one, rest) = let r = day_first first more mid new (number + 1) next rest in (r.0, r.1, (mid, one, r.2))
day_first (Works line reply ∷ first) more old new number next (mid, one, rest) = let r = day_first first more mid new (number + 1) next rest in (r.0, r.1, (mid, one, r.2))
day_first (Loses name lines ∷ first) more old new number next day = day_first first more old new number next day

first_all : (P : Turn → Type 0) (first more : List Turn) → AllByRecursion P (first ++ more) → AllByRecursion P first
first_all P [] more all = tt
first_all P (turn ∷ first) more (one, all) = (one, first_all P first more all)

-- at least what those calls drained was kept, and no more than it was told
backed : (begun : LiveState) (first : ℕ) (calls : List Call) (now : MachineState) (events : List Event) (more unsaid : List ℕ) → IsAccount begun first calls now → kept_in events ≡ flat_map log_drained calls ++ more → flat_map told_drained calls ≡ told_in events ++ unsaid → IsBackedByTurns begun first events
backed begun first calls now events more unsaid a kept told = grind (arith, day_first, first_all)

-- the calls were made, and then nothing was told
backed_kept : (begun : LiveState) (first : ℕ) (calls : List Call) (now : MachineState) (events : List Event) → IsAccount begun first calls now → told_in events ≡ [] → IsBackedByTurns begun first (events_of calls ++ events)
backed_kept begun first calls now events a none = backed begun first calls now (events_of calls ++ events) (kept_in events) [] a
    (flat_map-append bytes_kept (events_of calls) events ∙ ap (λ l. l ++ kept_in events) (kept_drained calls))
    (drained_told calls ∙ sym (append-nil (told_in (events_of calls ++ events)) ∙ (flat_map-append bytes_told (events_of calls) events ∙ (ap (λ l. told_in (events_of calls) ++ l) none ∙ append-nil (told_in (events_of calls))))))

-- what was drained was kept, and not all of it was told
backed_told : (begun : LiveState) (first : ℕ) (calls : List Call) (now : MachineState) (log told : List ℕ) (count : ℕ) → IsAccount begun first (calls ++ Drain log told ∷ []) now → IsBackedByTurns begun first (events_of calls ++ Kept log ∷ Told (take count told) ∷ [])
backed_told begun first calls now log told count a =
    let last : List Event = Kept log ∷ Told (take count told) ∷ [] in
    let one : List Call = Drain log told ∷ [] in
    let before : List ℕ = told_in (events_of calls) in
    let parts : (take count told ++ []) ++ drop count told ≡ told ++ [] = ap (λ l. l ++ drop count told) (append-nil (take count told)) ∙ (take-append-drop count told ∙ sym (append-nil told)) in
    backed begun first (calls ++ one) now (events_of calls ++ last) [] (drop count told) a
    (flat_map-append bytes_kept (events_of calls) last ∙ (ap (λ l. l ++ (log ++ [])) (kept_drained calls) ∙ sym (append-nil (flat_map log_drained (calls ++ one)) ∙ flat_map-append log_drained calls one)))
    (flat_map-append told_drained calls one
    ∙ (ap (λ l. l ++ (told ++ [])) (drained_told calls)
    ∙ sym (ap (λ l. l ++ drop count told) (flat_map-append bytes_told (events_of calls) last) ∙ (append_assoc before (take count told ++ []) (drop count told) ∙ ap (λ l. before ++ l) parts))))

-- all calls have an account
abbrev Accounts : LiveState → ℕ → Type 0
Accounts begun first = (calls : List Call) (now : MachineState) → Run (begins_with begun first) calls now → IsAccount begun first calls now

abbrev IsBackedAfter : LiveState → ℕ → List Call → List Event → Type 0
IsBackedAfter begun first calls events = IsBackedByTurns begun first (events_of calls ++ events)

-- one more call was made
runs_more : (a b c : MachineState) (calls : List Call) (call : Call) → Run a calls b → Happens b call c → Run a (calls ++ call ∷ []) c
runs_more a b c [] call same one = let P : MachineState → Type 0 = λ m. Happens m call c in (c, subst P same one, refl)
runs_more a b c (first ∷ calls) call (mid, happened, rest) one = (mid, happened, runs_more mid b c calls call rest one)

-- events after one more call are events after those before it
call_before : (begun : LiveState) (first : ℕ) (calls : List Call) (call : Call) (events : List Event) → IsBackedAfter begun first (calls ++ call ∷ []) events → IsBackedAfter begun first calls (events_in call ++ events)
call_before begun first calls call events is = grind (arith, flat_map-append, append_assoc)

backed_after : (begun : LiveState) (first : ℕ) (law : Accounts begun first) (calls more : List Call) (mid now : MachineState) (events : List Event) → Run (begins_with begun first) calls mid → Run mid more now → Cut (events_of more) events → IsBackedAfter begun first calls events
backed_after begun first law calls more mid now [] run rest cut = backed_kept begun first calls mid [] (law calls mid run) refl
backed_after begun first law calls [] mid now (event ∷ events) run rest cut = elim cut [ ]
backed_after begun first law calls (Line line ∷ more) mid now (event ∷ events) run (next, one, rest) cut = search (call_before, runs_more, backed_after begun first law (calls ++ Line line ∷ []) more next now (event ∷ events) (runs_more (begins_with begun first) mid next calls (Line line) run one) rest cut, arith)
backed_after begun first law calls (ServeHeld name ∷ more) mid now (event ∷ events) run (next, one, rest) cut =
    call_before begun first calls (ServeHeld name) (event ∷ events) (backed_after begun first law (calls ++ ServeHeld name ∷ []) more next now (event ∷ events) (runs_more (begins_with begun first) mid next calls (ServeHeld name) run one) rest cut)
backed_after begun first law calls (GiveUp name ∷ more) mid now (event ∷ events) run (next, one, rest) cut =
    call_before begun first calls (GiveUp name) (event ∷ events) (backed_after begun first law (calls ++ GiveUp name ∷ []) more next now (event ∷ events) (runs_more (begins_with begun first) mid next calls (GiveUp name) run one) rest cut)
backed_after begun first law calls (PutStep name ∷ more) mid now (event ∷ events) run (next, one, rest) cut =
    call_before begun first calls (PutStep name) (event ∷ events) (backed_after begun first law (calls ++ PutStep name ∷ []) more next now (event ∷ events) (runs_more (begins_with begun first) mid next calls (PutStep name) run one) rest cut)
backed_after begun first law calls (Drain log told ∷ more) mid now (event ∷ events) run (next, one, rest) (inr ((count, is), none)) = grind (arith, backed_kept)
backed_after begun first law calls (Drain log told ∷ more) mid now (event ∷ []) run (next, one, rest) (inl (same, cut)) = grind (arith, backed_kept)
backed_after begun first law calls (Drain log told ∷ more) mid now (event ∷ then ∷ events) run (next, one, rest) (inl (same, inr ((count, is), none))) =
    let P : List Event → Type 0 = λ es. IsBackedAfter begun first calls es in
    let a : IsAccount begun first (calls ++ Drain log told ∷ []) next = law (calls ++ Drain log told ∷ []) next (runs_more (begins_with begun first) mid next calls (Drain log told) run one) in
    subst P (sym (ap (λ e. e ∷ then ∷ events) same ∙ (ap (λ e. Kept log ∷ e ∷ events) is ∙ ap (λ es. Kept log ∷ Told (take count told) ∷ es) none))) (backed_told begun first calls next log told count a)
backed_after begun first law calls (Drain log told ∷ more) mid now (event ∷ then ∷ events) run (next, one, rest) (inl (same, inl (so, cut))) =
    let P : List Event → Type 0 = λ es. IsBackedAfter begun first calls es in
    let later : IsBackedAfter begun first (calls ++ Drain log told ∷ []) events = backed_after begun first law (calls ++ Drain log told ∷ []) more next now events (runs_more (begins_with begun first) mid next calls (Drain log told) run one) rest cut in
    subst P (sym (ap (λ e. e ∷ then ∷ events) same ∙ ap (λ e. Kept log ∷ e ∷ events) so)) (call_before begun first calls (Drain log told) events later)

pub backed_at : (begun : LiveState) (first : ℕ) (law : Accounts begun first) (calls : List Call) (now : MachineState) (events : List Event) (n : ℕ) → Run (begins_with begun first) calls now → IsCut (events_of calls) events → IsBackedByTurns begun first (take n events)
backed_at begun first law calls now events n run cut = grind (arith, backed_after begun first law [] calls (begins_with begun first) now (take n events) refl run (cut_take n (events_of calls) events (cut_of (events_of calls) events cut)))
