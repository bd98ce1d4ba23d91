-- How a service with workers ends.
use Rattle.live_threads.proofs.Prelude.{◌≡◌, ◌≢◌, ◌⊎◌, inl, inr, ℕ, List, [], ◌∷◌, ◌++◌, Bool, Option, Some, None, refl, sym, ap, subst, ◌∙◌, append-nil, append_assoc, arith, length, take_all, flat_map, flat_map-append, Fails, Happens, View, Kept, Told, FailedDevice, Input, Basis, ServiceState, Machine, MachineState, begins_with, EndsMachine, machine_of, LiveState, Outcome, ArchRefused, ArchUnreadable, Done, LogDiffers, LogIsStream, LogInUse, LogUnreadable, NoMemory, Stopped, TooManyLines, without_workers, begins_on, kept_lines, IfErr, IfOk, Result, Vec, received, sent, Consumer, Producer, InputEnd, AreFirst, AreReadLines, PutsLines, IsResumed, IsWhole, PutsSome, Resumes, RunsInput, RunsService, ServesInput, StopsResuming, empty_on, ArePuts, Replays, StopsReplay, put_line, HasStopped, IsServed, ClosesAs, ClosesTexts, CutsClosing, EndsServing, StopsClosing, StopsServing, TakesLines, cut_lines, lines_of}
use Rattle.live_threads.specs.declared.letters.InputEnd.TheVariants.{Done as InputDone}
use Rattle.live_threads.proofs.ServedLemmas.{served_stops, served_then}

closed_cut : (last : MachineState) (before after : View) → ClosesTexts last before after → CutsClosing last before after
closed_cut last before after c = record {
  live = c.live;
  same = c.same;
  reply = c.reply;
  ends = c.ends;
  events = Told c.reply ∷ [];
  cut = record { done = Told c.reply ∷ []; more = []; whole_is = refl; ends = refl };
  happens = c.happens;
}

closes_stops : (has_log : Bool) (last : MachineState) (before after : View) → ClosesAs has_log last before after → StopsClosing last before after
closes_stops has_log last before after same = grind (arith, closed_cut)

-- the output failed as texts were refused
pub cut_closing : (live : LiveState) (last : MachineState) (before after : View) (reply : List ℕ) (fault : FailedDevice) → without_workers live ≡ last.live → EndsMachine live last.held reply → Fails before after fault Told reply → CutsClosing last before after
cut_closing live last before after reply fault same ends fails = grind arith

-- however a service ends, its end is one of a service that stops
pub stops_of : (a : MachineState) (u v : View) (lines : List (List ℕ)) (outcome : Outcome) → EndsServing a u lines v outcome → StopsServing a u lines v
stops_of a u v lines outcome e = search (closes_stops, arith)

-- and that of a service that did not end well
pub ends_of : (a : MachineState) (u v : View) (lines : List (List ℕ)) (outcome : Outcome) → outcome ≢ Done → StopsServing a u lines v → EndsServing a u lines v outcome
ends_of a u v lines outcome bad s = grind arith

-- a service of which more lines were read is one that stopped
pub service_stopped : (told : Option ℕ) (log : Option (Option (List ℕ))) (empty : LiveState) (before after : View) (lines : List (List ℕ)) (outcome : Outcome) → RunsService told log empty before lines after outcome → RunsService told log empty before lines after (Stopped Input)
service_stopped told log empty before after lines outcome h1 = grind (arith, stops_of)

-- what was served before
pub ends_later : (a b : MachineState) (u v w : View) (lines : List (List ℕ)) (outcome : Outcome) → IsServed a u lines b v → EndsServing b v [] w outcome → EndsServing a u lines w outcome
ends_later a b u v w lines outcome first e = later outcome e
  where
    whole : (l : List (List ℕ)) → l ≡ lines ++ [] → l ≡ lines
    whole l is = is ∙ append-nil lines

    stops_later : StopsServing b v [] w → StopsServing a u lines w
    stops_later (inl s) = let P : List (List ℕ) → Type 0 = λ l. HasStopped a u l w in inl (subst P (append-nil lines) (served_stops a b u v w lines [] first s))
    stops_later (inr (last, mid, served, closing)) = let P : List (List ℕ) → Type 0 = λ l. IsServed a u l last mid in inr (last, mid, subst P (append-nil lines) (served_then a b last u v mid lines [] first served), closing)

    later : (o : Outcome) → EndsServing b v [] w o → EndsServing a u lines w o
    later Done e = let P : List (List ℕ) → Type 0 = λ l. IsServed a u l e.last e.mid in record { last = e.last; mid = e.mid; served = subst P (append-nil lines) (served_then a b e.last u v e.mid lines [] first e.served); rests = e.rests; drained = e.drained; closes = e.closes }
    later ArchUnreadable e = stops_later e
    later (ArchRefused fault) e = stops_later e
    later LogUnreadable e = stops_later e
    later (LogDiffers difference) e = stops_later e
    later LogIsStream e = stops_later e
    later LogInUse e = stops_later e
    later (Stopped device) e = stops_later e
    later TooManyLines e = stops_later e
    later NoMemory e = stops_later e

-- lines that put jobs were kept, and then the service stopped
pub resumed_stops : (put : List ℕ) (before mid : View) → ArePuts put → IsResumed put before mid → PutsSome before mid
resumed_stops [] before mid puts same = inl same
resumed_stops (byte ∷ put) before mid (jobs, is) happens =
    let all : List ℕ = flat_map put_line jobs in
    let P : List ℕ → Type 0 = λ bytes. Happens before mid (Kept bytes ∷ []) in
    inr (jobs, length all, subst P (is ∙ sym (take_all (length all) all (omega arith))) happens)

-- a log was served, and then the service stopped
pub log_stops : (told : Option ℕ) (empty : LiveState) (log : Option (List ℕ)) (before mid after : View) → StopsReplay told empty log before mid → PutsSome mid after → StopsResuming told (Some log) empty before after
log_stops told empty log before mid after stops puts = (mid, stops, puts)

-- of an error two things hold
pub err_and : {T E : Type 0} (result : Result T E) (A : E → Type 0) (B : Type 0) → IfErr result A → B → IfErr result (λ e. A e × B)
err_and result A B a b = grind arith

-- a machine over a live service that has served no line
pub resumes_none : (told : Option ℕ) (empty : LiveState) (machine : MachineState) (view : View) → machine ≡ begins_with empty 1 → Resumes told None empty machine view view
resumes_none told empty machine view is = record { begun = empty; first = 1; put = []; retold = view; begins = (refl, refl, refl, refl); machine_is = is; resumed = refl }

-- and one that goes on from a log
pub resumes_log : (told : Option ℕ) (log : Option (List ℕ)) (empty begun : LiveState) (next first : ℕ) (put : List ℕ) (new machine : MachineState) (before retold mid : View) → Replays told empty log before begun next put retold → IsResumed put retold mid → first ≡ next → new ≡ begins_with begun first → machine ≡ new → Resumes told (Some log) empty machine before mid
resumes_log told log empty begun next first put new machine before retold mid replays resumed same is made = record { begun = begun; first = next; put = put; retold = retold; begins = replays; machine_is = made ∙ (is ∙ ap (begins_with begun) same); resumed = resumed }

-- what holds of a machine that was made
pub ok_resumes : (told : Option ℕ) (log : Option (Option (List ℕ))) (empty : LiveState) (before mid : View) (result : Result Machine Outcome) (new : MachineState) → IfOk result (λ m. machine_of m ≡ new) → ((machine : MachineState) → machine ≡ new → Resumes told log empty machine before mid) → IfOk result (λ m. Resumes told log empty (machine_of m) before mid)
ok_resumes told log empty before mid result new is makes = grind arith

-- over a core that has admitted no tenancy
pub runs_on : (told : Option ℕ) (log : Option (Option (List ℕ))) (service : ServiceState) (graph : Basis) (live : LiveState) (before : View) (lines : List (List ℕ)) (after : View) (outcome : Outcome) → live ≡ begins_on service graph → RunsService told log (without_workers live) before lines after outcome → RunsService told log (empty_on service graph) before lines after outcome
runs_on told log service graph live before lines after outcome is runs = let P : LiveState → Type 0 = λ l. RunsService told log (without_workers l) before lines after outcome in subst P is runs

-- a service that goes on from there
pub runs_service : (told : Option ℕ) (log : Option (Option (List ℕ))) (empty : LiveState) (machine : MachineState) (before mid after : View) (lines : List (List ℕ)) (outcome : Outcome) → Resumes told log empty machine before mid → EndsServing machine mid lines after outcome → RunsService told log empty before lines after outcome
runs_service told log empty machine before mid after lines outcome r ends = grind arith

-- what was handed over is the beginning of the input
all_first : (bytes : List ℕ) (end : Option InputEnd) (lines : List (List ℕ)) → AreReadLines (Some bytes) end lines → AreFirst (kept_lines bytes) lines
all_first bytes end lines is = grind (arith, append-nil)

-- and so is what was taken of it
first_of_first : (all lines : List (List ℕ)) (taken : List (List ℕ)) → AreFirst all lines → AreFirst lines taken → AreFirst all taken
first_of_first all lines taken (more, is) (left, has) = (left ++ more, is ∙ (ap (λ l. l ++ more) has ∙ append_assoc taken left more))

taken_lines : {A : Type 0} (put taken : List (Vec ℕ A)) → AreFirst put taken → AreFirst (lines_of put) (lines_of taken)
taken_lines put taken (left, is) = (lines_of left, ap lines_of is ∙ flat_map-append (λ b. cut_lines b.items) taken left)

-- with `Done` all lines of the input are served
serves_first : (input : Option (List ℕ)) (end : Option InputEnd) (put taken : List (List ℕ)) (outcome : Outcome) → AreReadLines input end put → AreFirst put taken → (outcome ≡ Done → (end ≡ Some InputDone) × (taken ≡ put)) → ServesInput input taken outcome
serves_first None end put taken outcome read first all = tt
serves_first (Some bytes) end put taken Done read first all = grind arith
serves_first (Some bytes) end put taken ArchUnreadable read first all = first_of_first _ put taken (all_first bytes end put read) first
serves_first (Some bytes) end put taken (ArchRefused fault) read first all = first_of_first _ put taken (all_first bytes end put read) first
serves_first (Some bytes) end put taken LogUnreadable read first all = first_of_first _ put taken (all_first bytes end put read) first
serves_first (Some bytes) end put taken (LogDiffers difference) read first all = first_of_first _ put taken (all_first bytes end put read) first
serves_first (Some bytes) end put taken LogIsStream read first all = first_of_first _ put taken (all_first bytes end put read) first
serves_first (Some bytes) end put taken LogInUse read first all = first_of_first _ put taken (all_first bytes end put read) first
serves_first (Some bytes) end put taken (Stopped device) read first all = first_of_first _ put taken (all_first bytes end put read) first
serves_first (Some bytes) end put taken TooManyLines read first all = first_of_first _ put taken (all_first bytes end put read) first
serves_first (Some bytes) end put taken NoMemory read first all = first_of_first _ put taken (all_first bytes end put read) first

other_outcome : (told : Option ℕ) (log : Option (Option (List ℕ))) (empty : LiveState) (before after : View) (lines : List (List ℕ)) (outcome result : Outcome) → (result ≡ outcome) ⊎ (result ≡ Stopped Input) → RunsService told log empty before lines after outcome → RunsService told log empty before lines after result
other_outcome told log empty before after lines outcome result h1 runs = search (service_stopped, arith)

-- what was put into a ring and what was taken from it are the lines of one input
pub runs_input : {A G M : Type 0} (told : Option ℕ) (log : Option (Option (List ℕ))) (empty : LiveState) (before after : View) (input : Option (List ℕ)) (end : Option InputEnd) (outcome result : Outcome) (p q : Producer (Vec ℕ A) G M) (c d : Consumer (Vec ℕ A) G M) →
    sent p ≡ [] → received c ≡ [] →
    PutsLines p q (λ fed. AreReadLines input end fed) → TakesLines c d (λ heard. RunsService told log empty before heard after outcome) →
    AreFirst (sent q) (received d) → (result ≡ Done → IsWhole (sent q) (received d) end outcome) → (result ≡ outcome) ⊎ (result ≡ Stopped Input) →
    RunsInput told log empty before input after result
runs_input told log empty before after input end outcome result p q c d none nothing puts takes first done other = record {
  lines = lines_of takes.batches;
  all = serves_first input end (lines_of puts.batches) (lines_of takes.batches) result puts.held (taken_lines puts.batches takes.batches own_first) (λ is.
      let w = done is in
      (w.1, ap lines_of (own w.0)));
  runs = other_outcome told log empty before after (lines_of takes.batches) outcome result other takes.held;
}
  where
    taken_is : received d ≡ takes.batches
    taken_is = takes.taken ∙ ap (λ b. b ++ takes.batches) nothing

    put_is : sent q ≡ puts.batches
    put_is = puts.put ∙ ap (λ b. b ++ puts.batches) none

    own : received d ≡ sent q → takes.batches ≡ puts.batches
    own same = sym taken_is ∙ (same ∙ put_is)

    own_first : AreFirst puts.batches takes.batches
    own_first = (first.0, sym put_is ∙ (first.1 ∙ ap (λ b. b ++ first.0) taken_is))
