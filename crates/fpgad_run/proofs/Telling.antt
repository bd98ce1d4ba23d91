-- The acts of a script that runs, answered one after another.
use Rattle.fpgad_run.proofs.Prelude.{◌≡◌, ℕ, List, [], ◌∷◌, ◌++◌, length, Ok, refl, sym, ap, ◌∙◌, subst, append-nil, arith, map, flat_map, flat_map-append, map_push, Basis, Device, AreOwnJournals, AreParted, EachIsAlone, IsBook, HasOneOwner, Call, Run, ServiceState, empty_service, Running, SessionLine, Act, Session, last_id, Answer, own_graph, Asks, IsAnswer, LineIsToldAlone, AreToldAlone, answer_text, sink_text, Stage, Section, output_of, Telling, Tells, IsAnswered, calls_of, sections_after, told_operator, told_session, Run-append, HeldList, lengths-run, steady_asks, Begins, IsEven, Serves, sections_of, stage_of, told_so_far, Options, Arch, IsReplies, device_of}

-- the answers to the operator's lines, one after another
abbrev pub operator_texts : List Telling → List ℕ
operator_texts tellings = flat_map (λ t. told_operator t.act t.text) tellings

-- a running service that has answered these acts
pub record Progress (start : Stage) (running : Running) (acts : List (Act (List ℕ))) : Type 0 where
  pub tellings : List Telling
  pub all : map (λ t. t.act) tellings ≡ acts
  pub told : Tells start tellings (stage_of running)
  pub operator_text : sink_text running.operator_text ≡ operator_texts tellings
  pub sections : sections_of running ≡ sections_after [] tellings
  pub even : IsEven running

pub Tells-push : (a : Stage) (ts : List Telling) (b c : Stage) (t : Telling) → Tells a ts b → IsAnswered b t.act t.calls t.text c → Tells a (ts ++ t ∷ []) c
Tells-push a [] b c t done next = (c, (let P : Stage → Type 0 = λ s. IsAnswered s t.act t.calls t.text c in subst P done next), refl)
Tells-push a (x ∷ xs) b c t done next = (done.0, done.1, Tells-push done.0 xs b c t done.2 next)

pub sections_after-push : (sections : List Section) (ts : List Telling) (t : Telling) → sections_after sections (ts ++ t ∷ []) ≡ told_session (sections_after sections ts) t.act t.text
sections_after-push sections [] t = refl
sections_after-push sections (x ∷ xs) t = sections_after-push (told_session sections x.act x.text) xs t

pub progress_none : (graph : Basis) (core : ServiceState) (running : Running) → Begins graph core running → Progress (record { names = []; jobs = []; service = core; graph = graph }) running []
progress_none graph core running b = record { tellings = []; all = refl; told = b.stage; operator_text = b.operator_text; sections = b.sections; even = b.even }

-- a service that begins does so from its own core
pub begins_own : (graph : Basis) (core : ServiceState) (running : Running) → Begins graph core running → Begins running.graph.now running.core running
begins_own graph core running b = grind arith

pub progress_more : (start : Stage) (old new : Running) (acts : List (Act (List ℕ))) (act : Act (List ℕ)) → Progress start old acts → Serves old act new → Progress start new (acts ++ act ∷ [])
progress_more start old new acts act p s =
    let t : Telling = record { act = act; calls = s.calls; text = s.text } in
    record {
      tellings = p.tellings ++ t ∷ [];
      all = map_push (λ (t : Telling). t.act) p.tellings t ∙ ap (λ told. told ++ act ∷ []) p.all;
      told = Tells-push start p.tellings (stage_of old) (stage_of new) t p.told s.answered;
      operator_text = s.operator_text ∙ ap (λ o. o ++ told_operator act s.text) p.operator_text
          ∙ sym (flat_map-append (λ (t : Telling). told_operator t.act t.text) p.tellings (t ∷ []) ∙ ap (λ o. operator_texts p.tellings ++ o) (append-nil (told_operator act s.text)));
      sections = s.sections ∙ ap (λ ss. told_session ss act s.text) p.sections ∙ sym (sections_after-push [] p.tellings t);
      even = s.even;
    }

-- the calls are a run of the core
pub answered_runs : (old : Stage) (act : Act (List ℕ)) (calls : List Call) (text : List ℕ) (new : Stage) → IsAnswered old act calls text new → Run old.service calls new.service
answered_runs old act calls text new is = grind arith

pub told_runs : (old : Stage) (ts : List Telling) (new : Stage) → Tells old ts new → Run old.service (calls_of ts) new.service
told_runs old [] new is = ap (λ (s : Stage). s.service) is
told_runs old (t ∷ ts) new is = Run-append old.service t.calls (is.0).service (calls_of ts) new.service (answered_runs old t.act t.calls t.text is.0 is.1) (told_runs is.0 ts new is.2)

-- a session's line is answered by the core
pub session_answers : (names : List (List ℕ)) (jobs : HeldList) (graph : Basis) (old new : ServiceState) (name : List ℕ) (id : ℕ) (line : SessionLine) (answer : Answer) → id ≡ last_id names name → IsAnswer graph old id line answer new →
    (calls : List Call) × IsAnswered (record { names = names; jobs = jobs; service = old; graph = graph }) (Session name line) calls (answer_text answer) (record { names = names; jobs = jobs; service = new; graph = graph })
session_answers names jobs graph old new name id line answer at is = grind arith

-- it admits and evicts no one
pub lengths-answered : (graph : Basis) (old new : ServiceState) (id : ℕ) (line : SessionLine) (answer : Answer) → IsAnswer graph old id line answer new → length old.histories ≡ length new.histories
lengths-answered graph old new id line answer is = lengths-run old new is.0 (steady_asks id line is.0 answer is.1) is.2

-- what the core's main theorem says of every run from an empty device
pub record IsHeadline : Type 0 where
  pub alone : (device : Device) (calls : List Call) (state : ServiceState) → Run (empty_service device) calls state → EachIsAlone device calls state
  pub parted : (device : Device) (calls : List Call) (state : ServiceState) → Run (empty_service device) calls state → AreParted device state
  pub journals : (device : Device) (calls : List Call) (state : ServiceState) → Run (empty_service device) calls state → AreOwnJournals calls state
  pub book : (device : Device) (calls : List Call) (state : ServiceState) → Run (empty_service device) calls state → IsBook device calls state
  pub exact : (device : Device) (calls : List Call) (state : ServiceState) → Run (empty_service device) calls state → HasOneOwner state
  pub line : (device : Device) (before calls : List Call) (old new : ServiceState) (id : ℕ) (line : SessionLine) (answer : Answer) → Run (empty_service device) before old → Asks id line calls answer → Run old calls new → LineIsToldAlone device old id before calls line answer

tellings_alone : IsHeadline → (device : Device) (before : List Call) (old : Stage) (ts : List Telling) (last : Stage) → Run (empty_service device) before old.service → Tells old ts last → AreToldAlone device old before ts
tellings_alone headline device before old [] last runs told = tt
tellings_alone headline device before old (t ∷ ts) last runs told = grind (arith, tellings_alone headline device (before ++ t.calls) told.0 ts last (Run-append (empty_service device) before old.service t.calls (told.0).service runs (answered_runs old t.act t.calls t.text told.0 told.1)) told.2)

-- all answers are written
pub replies_all : (options : Options) (arch : Arch) (all : List (Act (List ℕ))) (running : Running) (acts : List (Act (List ℕ))) (output : List ℕ) → IsHeadline →
    Progress (record { names = []; jobs = []; service = empty_service (device_of options arch); graph = own_graph (device_of options arch) }) running acts → acts ≡ all → output ≡ told_so_far running →
    IsReplies options (Ok (arch, all)) output
replies_all options arch all running acts output headline p same is =
    let runs : Run (empty_service (device_of options arch)) (calls_of p.tellings) running.core =
    told_runs (record { names = []; jobs = []; service = empty_service (device_of options arch); graph = own_graph (device_of options arch) }) p.tellings (stage_of running) p.told in
    record {
      arch = arch;
      acts = all;
      begins = refl;
      tellings = p.tellings;
      last = stage_of running;
      all = p.all ∙ same;
      told = p.told;
      each_alone = tellings_alone headline (device_of options arch) [] (record { names = []; jobs = []; service = empty_service (device_of options arch); graph = own_graph (device_of options arch) }) p.tellings (stage_of running) refl p.told;
      runs = runs;
      alone = headline.alone _ _ _ runs;
      parted = headline.parted _ _ _ runs;
      journals = headline.journals _ _ _ runs;
      book = headline.book _ _ _ runs;
      exact = headline.exact _ _ _ runs;
      output_is = is ∙ ap (λ o. output_of o (sections_of running)) p.operator_text ∙ ap (λ ss. output_of (operator_texts p.tellings) ss) p.sections;
    }
