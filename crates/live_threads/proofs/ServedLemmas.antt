-- What was served, one after another.
use Rattle.live_threads.proofs.Prelude.{◌≡◌, ℕ, List, [], ◌∷◌, ◌++◌, inl, inr, Option, refl, sym, ap, subst, ◌∙◌, append-nil, append_assoc, take, arith, OnErr, OnOk, Result, Appends-nil, Appends-trans, flat_map-append, Event, Fails, Follows, Happens, View, Kept, Told, FailedDevice, line_in, lines_in, Call, MachineState, Run, Drain, Line, EndsIn, HasStopped, IsServed, ServesSome, events_in, events_of}
use Rattle.live_machine.specs.Machine.{Happens as HappensTo}

follows_none : (a : Option (List Event)) → Follows a a []
follows_none a = grind (arith, append-nil)

follows_then : (a b c : Option (List Event)) (events more : List Event) → Follows a b events → Follows b c more → Follows a c (events ++ more)
follows_then a b c events more p q = grind (arith, append_assoc)

pub nothing_happens : (view : View) → Happens view view []
nothing_happens view = record { kept = Appends-nil view.log; told = Appends-nil view.output; in_order = follows_none view.history }

pub happens_then : (a b c : View) (events more : List Event) → Happens a b events → Happens b c more → Happens a c (events ++ more)
happens_then a b c events more first second = grind (arith, flat_map-append, Appends-trans, follows_then)

pub runs_then : (a b c : MachineState) (calls more : List Call) → Run a calls b → Run b more c → Run a (calls ++ more) c
runs_then a b c [] more same run = let P : MachineState → Type 0 = λ m. Run m more c in subst P same run
runs_then a b c (call ∷ calls) more (mid, one, rest) run = (mid, one, runs_then mid b c calls more rest run)

-- nothing was served
pub served_none : (state : MachineState) (view : View) → IsServed state view [] state view
served_none state view = record { calls = []; run = refl; heard = refl; happens = nothing_happens view }

-- one after the other
pub served_then : (a b c : MachineState) (u v w : View) (lines more : List (List ℕ)) → IsServed a u lines b v → IsServed b v more c w → IsServed a u (lines ++ more) c w
served_then a b c u v w lines more first second = grind (arith, flat_map-append, happens_then, runs_then a b c first.calls second.calls first.run second.run, flat_map-append line_in first.calls second.calls, flat_map-append events_in first.calls second.calls, happens_then u v w (events_of first.calls) (events_of second.calls) first.happens second.happens)

-- calls that take no line and drain nothing
pub served_calls : (old new : MachineState) (view : View) (calls : List Call) → Run old calls new → lines_in calls ≡ [] → events_of calls ≡ [] → IsServed old view [] new view
served_calls old new view calls run none quiet = grind (arith, nothing_happens view)

-- a line
pub served_line : (old new : MachineState) (view : View) (line : List ℕ) → HappensTo old (Line line) new → IsServed old view (line ∷ []) new view
served_line old new view line one = record { calls = Line line ∷ []; run = (new, one, refl); heard = refl; happens = nothing_happens view }

-- what was drained was kept and told
pub served_drain : (old new : MachineState) (u v w : View) (log told : List ℕ) → HappensTo old (Drain log told) new → Happens u v (Kept log ∷ []) → Happens v w (Told told ∷ []) → IsServed old u [] new w
served_drain old new u v w log told one kept tells = record {
  calls = Drain log told ∷ [];
  run = (new, one, refl);
  heard = refl;
  happens = happens_then u v w (Kept log ∷ []) (Told told ∷ []) kept tells;
}

-- the log failed
pub stopped_log : (old new : MachineState) (u v : View) (log told : List ℕ) (fault : FailedDevice) → HappensTo old (Drain log told) new → Fails u v fault Kept log → HasStopped old u [] v
stopped_log old new u v log told fault one fails = record {
  calls = Drain log told ∷ [];
  new = new;
  run = (new, one, refl);
  unheard = [];
  heard = refl;
  events = Kept (take fails.count log) ∷ [];
  cut = record { done = []; more = Kept log ∷ Told told ∷ []; whole_is = refl; ends = inr (Kept (take fails.count log), (fails.count, refl), refl) };
  happens = fails.happens;
}

-- the output failed
pub stopped_output : (old new : MachineState) (u v w : View) (log told : List ℕ) (fault : FailedDevice) → HappensTo old (Drain log told) new → Happens u v (Kept log ∷ []) → Fails v w fault Told told → HasStopped old u [] w
stopped_output old new u v w log told fault one kept fails = record {
  calls = Drain log told ∷ [];
  new = new;
  run = (new, one, refl);
  unheard = [];
  heard = refl;
  events = Kept log ∷ Told (take fails.count told) ∷ [];
  cut = record { done = Kept log ∷ []; more = Told told ∷ []; whole_is = refl; ends = inr (Told (take fails.count told), (fails.count, refl), refl) };
  happens = happens_then u v w (Kept log ∷ []) (Told (take fails.count told) ∷ []) kept fails.happens;
}

ends_later : (before done more events : List Event) → EndsIn done more events → EndsIn (before ++ done) more (before ++ events)
ends_later before done [] events same = ap (λ l. before ++ l) same
ends_later before done (event ∷ more) events (inl same) = inl (ap (λ l. before ++ l) same)
ends_later before done (event ∷ more) events (inr (part, is, all)) = inr (part, is, ap (λ l. before ++ l) all ∙ sym (append_assoc before done (part ∷ [])))

-- some was served, and then the service stopped
pub served_stops : (a b : MachineState) (u v w : View) (lines more : List (List ℕ)) → IsServed a u lines b v → HasStopped b v more w → HasStopped a u (lines ++ more) w
served_stops a b u v w lines more first s =
    let c = s.cut in
    record {
      calls = first.calls ++ s.calls;
      new = s.new;
      run = runs_then a b s.new first.calls s.calls first.run s.run;
      unheard = s.unheard;
      heard = ap (λ l. lines ++ l) s.heard ∙ (sym (append_assoc lines (lines_in s.calls) s.unheard) ∙ ap (λ l. l ++ s.unheard) (ap (λ l. l ++ lines_in s.calls) (sym first.heard) ∙ sym (flat_map-append line_in first.calls s.calls)));
      events = events_of first.calls ++ s.events;
      cut = record {
        done = events_of first.calls ++ c.done;
        more = c.more;
        whole_is = flat_map-append events_in first.calls s.calls ∙ (ap (λ l. events_of first.calls ++ l) c.whole_is ∙ sym (append_assoc (events_of first.calls) c.done c.more));
        ends = ends_later (events_of first.calls) c.done c.more s.events c.ends;
      };
      happens = happens_then u v w (events_of first.calls) s.events first.happens s.happens;
    }

-- more lines would have come
pub stopped_before : (a : MachineState) (u w : View) (lines more : List (List ℕ)) → HasStopped a u lines w → HasStopped a u (lines ++ more) w
stopped_before a u w lines more s = grind (arith, append_assoc)

-- nothing more was served
pub stopped_here : (a b : MachineState) (u v : View) (lines : List (List ℕ)) → IsServed a u lines b v → HasStopped a u lines v
stopped_here a b u v lines s = grind (arith, append-nil (lines_in s.calls), append-nil (events_of s.calls))

-- what holds of an error
pub on_err : {T E : Type 0} (result : Result T E) (P : Type 0) → P → OnErr result P
on_err result P p = grind arith

-- what holds of a value
pub on_ok : {T E : Type 0} (result : Result T E) (P : Type 0) → P → OnOk result P
on_ok result P p = grind arith

-- nothing more came
pub served_more : (a b c : MachineState) (u v w : View) (lines : List (List ℕ)) → IsServed a u lines b v → IsServed b v [] c w → IsServed a u lines c w
served_more a b c u v w lines first second = let P : List (List ℕ) → Type 0 = λ l. IsServed a u l c w in subst P (append-nil lines) (served_then a b c u v w lines [] first second)

pub served_same : (a b c : MachineState) (u v : View) (lines : List (List ℕ)) → IsServed a u lines b v → c ≡ b → IsServed a u lines c v
served_same a b c u v lines first same = let P : MachineState → Type 0 = λ m. IsServed a u lines m v in subst P (sym same) first

pub stops_more : (a b : MachineState) (u v w : View) (lines : List (List ℕ)) → IsServed a u lines b v → HasStopped b v [] w → HasStopped a u lines w
stops_more a b u v w lines first s = let P : List (List ℕ) → Type 0 = λ l. HasStopped a u l w in subst P (append-nil lines) (served_stops a b u v w lines [] first s)

-- one more of some lines
pub some_line : (all left rest : List (List ℕ)) (line : List ℕ) (a b c : MachineState) (u v : View) → ServesSome all left a u b v → left ≡ line ∷ rest → HappensTo b (Line line) c → ServesSome all rest a u c v
some_line all left rest line a b c u v s is one = grind (arith, served_then, served_line, append_assoc s.lines (line ∷ []) rest, served_then a b c u v v s.lines (line ∷ []) s.served (served_line b c v line one), served_line b c v line one)

pub some_more : (all left : List (List ℕ)) (a b c : MachineState) (u v w : View) → ServesSome all left a u b v → IsServed b v [] c w → ServesSome all left a u c w
some_more all left a b c u v w s t = record { lines = s.lines; cut = s.cut; served = served_more a b c u v w s.lines s.served t }

pub some_stopped : (all left : List (List ℕ)) (a b : MachineState) (u v : View) → ServesSome all left a u b v → HasStopped a u all v
some_stopped all left a b u v s = let P : List (List ℕ) → Type 0 = λ l. HasStopped a u l v in subst P (sym s.cut) (stopped_before a u v s.lines left (stopped_here a b u v s.lines s.served))

pub some_stops : (all left : List (List ℕ)) (a b : MachineState) (u v w : View) → ServesSome all left a u b v → HasStopped b v [] w → HasStopped a u all w
some_stops all left a b u v w s t = let P : List (List ℕ) → Type 0 = λ l. HasStopped a u l w in subst P (sym s.cut) (stopped_before a u w s.lines left (stops_more a b u v w s.lines s.served t))
