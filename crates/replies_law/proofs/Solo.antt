-- Alone on a device that is wide enough, a name's admissions are granted unless the name is in use.
use Rattle.replies_law.proofs.Prelude.{◌≡◌, ℕ, ◌+◌, ◌<◌, ◌≤◌, Bool, true, false, cond, List, [], ◌∷◌, ◌++◌, length, length-append, map, Option, Some, None, Result, Ok, Err, inr, refl, sym, ap, ◌∙◌, subst, arith, ⊤, IsSome, option_map, and_parts, false≢true, leb-true, nat_tests, Decides-eqb, bytes_eq-Decides, PlacedStrip, FitsAt, Plan, is_bad_width, Device, OpRefusal, IsAdmitted, History, Call, Run, CanAdmit, RefusesAdmission, Admit as AdmitCall, ServiceState, admitted_history, empty_service, live_of, placed_width, IsService-empty, history_of-push, are_parted, own_graph, Act, Operator, Session, OperatorLine, Evict, Move, Owners, Step, Take, Put, last_id, names_after, IsAdmission, IsServed, Stage, lengths-evicted, lengths-run, device_of, IsAnswered, Telling, Tells, Run-append, answered_runs, HaveMemory, AreLeft, IsAlone, IsLeft, Plays, admissions, fits, grants, is_about, is_admit, is_own, own_tellings, own_acts}
use Rattle.std.proofs.Common.{nat_le}
use Rattle.service_core.specs.declared.op_refusal.OpRefusal.TheVariants as Op
use Rattle.script_text.specs.declared.operator_line.OperatorLine.TheVariants.{Admit, List as ListAll}
use Rattle.replies_law.proofs.Found.{AllHadMemory, HadMemory}
use Rattle.replies_law.proofs.Memory.{all_had}
use Rattle.replies_law.proofs.Lines.{newest_id}
use Rattle.replies_law.proofs.Others.{Apart, AreFor, Same, eviction_local, for_line, for_tried, local_calls}
use Rattle.replies_law.proofs.Scripts.{is_the_same, own_of, run_sits}
use Rattle.replies_law.proofs.Seats.{AreGiven, IsGiven, admits, given_to, grant_the_same}
use Rattle.replies_law.proofs.Told.{are_given, grants_told}
use Rattle.replies_law.proofs.Stages.{Sound, sound_after, steady_for}

-- a script in which all acts are one name's
abbrev AllOwn : List ℕ → List (Act (List ℕ)) → Type 0
AllOwn name [] = ⊤
AllOwn name (act ∷ acts) = (is_own name act ≡ true) × AllOwn name acts

own_left : (name : List ℕ) (act : Act (List ℕ)) → is_own name act ≡ true → IsLeft name act
own_left name act h1 = grind arith

all_left : (name : List ℕ) (ts : List Telling) → AllOwn name (map (λ t. t.act) ts) → AreLeft name ts
all_left name [] all = tt
all_left name (t ∷ ts) all = (own_left name t.act all.0, all_left name ts all.1)

filter_own : (name : List ℕ) (acts : List (Act (List ℕ))) → AllOwn name (own_acts name acts)
filter_own name [] = tt
filter_own name (act ∷ acts) = grind (arith, filter_own name acts)

own_all : (name : List ℕ) (acts : List (Act (List ℕ))) → AllOwn name acts → own_acts name acts ≡ acts
own_all name [] all = refl
own_all name (act ∷ acts) all = ap (λ b. cond b (act ∷ own_acts name acts) (own_acts name acts)) all.0 ∙ ap (λ rest. act ∷ rest) (own_all name acts all.1)

-- only its last tenancy may be live
record Lonely (device : Device) (name : List ℕ) (stage : Stage) : Type 0 where
  calls : List Call
  runs : Run (empty_service device) calls stage.service
  sound : Sound device name stage
  last : (id : ℕ) → IsSome (live_of stage.service.histories id) → id ≡ last_id stage.names name

-- there is no strip if no tenancy is live
no_strips : (strips : List PlacedStrip) → ((id : ℕ) → placed_width strips id ≡ None) → strips ≡ []
no_strips [] none = refl
no_strips (s ∷ strips) none = grind (arith, Decides-eqb s.id s.id)

none_live : (device : Device) (name : List ℕ) (stage : Stage) → Lonely device name stage → live_of stage.service.histories (last_id stage.names name) ≡ None → (id : ℕ) → live_of stage.service.histories id ≡ None
none_live device name stage lonely none id = grind arith

-- so there is space for a strip
plan_empty : (device : Device) (name : List ℕ) (stage : Stage) → Lonely device name stage → live_of stage.service.histories (last_id stage.names name) ≡ None → stage.service.plan.strips ≡ []
plan_empty device name stage lonely none =
    no_strips stage.service.plan.strips (λ id. lonely.sound.kept.linked id ∙ ap (option_map (λ (h : History). h.strip.width)) (none_live device name stage lonely none id))

alone_fits : (plan : Plan) (width : ℕ) → plan.strips ≡ [] → 1 ≤ width → width ≤ plan.columns → FitsAt plan width 0
alone_fits plan width none wide narrow = grind arith

never_refused : (device : Device) (name : List ℕ) (stage : Stage) (width : ℕ) (refusal : OpRefusal) → Lonely device name stage → live_of stage.service.histories (last_id stage.names name) ≡ None → fits device.columns width ≡ true → length stage.service.histories < 65535 →
    HadMemory (AdmitCall width (Err refusal) ∷ []) → RefusesAdmission stage.service width refusal → ⊥
never_refused device name stage width refusal lonely none fit few had refuses = by_refusal refusal had refuses
  where
    both : (nat_le 1 width ≡ true) × (nat_le width device.columns ≡ true)
    both = and_parts (nat_le 1 width) (nat_le width device.columns) fit

    wide : 1 ≤ width
    wide = leb-true 1 width both.0

    narrow : width ≤ device.columns
    narrow = leb-true width device.columns both.1

    columns : stage.service.plan.columns ≡ device.columns
    columns = (are_parted device lonely.calls stage.service lonely.runs).columns

    strips : stage.service.plan.strips ≡ []
    strips = plan_empty device name stage lonely none

    within : width ≤ stage.service.plan.columns
    within = omega (arith, columns, narrow)

    good : is_bad_width stage.service.plan width ≡ false
    good = grind (arith, nat_tests, wide, within)

    by_refusal : (refusal : OpRefusal) → HadMemory (AdmitCall width (Err refusal) ∷ []) → RefusesAdmission stage.service width refusal → ⊥
    by_refusal Op.BadWidth had refuses = false≢true (sym good ∙ refuses)
    by_refusal Op.TooManyStrips had refuses = let long : 0 ≡ 64 = ap length (sym strips) ∙ refuses.1 in omega (arith, long)
    by_refusal Op.IdsSpent had refuses = let spent = refuses.2 in omega (arith, spent, few)
    by_refusal Op.NoRoom had refuses = refuses.1 0 (alone_fits stage.service.plan width strips wide within)
    by_refusal Op.NoMemory had refuses = had.0
    by_refusal Op.NoSuchTenancy had refuses = refuses

-- which tenancy is live after an act of the name
stays_last : (device : Device) (name : List ℕ) (old new : Stage) → Lonely device name old → new.names ≡ old.names → ((id : ℕ) → Apart (last_id old.names name) id → Same id old.service new.service) → (id : ℕ) → IsSome (live_of new.service.histories id) → id ≡ last_id new.names name
stays_last device name old new lonely names same id live = grind arith

newest_last : (device : Device) (name : List ℕ) (old new : Stage) (width : ℕ) (h : History) → Lonely device name old → live_of old.service.histories (last_id old.names name) ≡ None → new.names ≡ name ∷ old.names → new.service.histories ≡ old.service.histories ++ h ∷ [] →
    (id : ℕ) → IsSome (live_of new.service.histories id) → id ≡ last_id new.names name
newest_last device name old new width h lonely none names now id live = search (newest_id, history_of-push, arith)

-- an admission
record Grants (device : Device) (name : List ℕ) (columns : ℕ) (act : Act (List ℕ)) (calls : List Call) (old new : Stage) : Type 0 where
  given : IsGiven columns act calls
  grows : length new.service.histories ≤ length old.service.histories + is_admit act
  last : (id : ℕ) → IsSome (live_of new.service.histories id) → id ≡ last_id new.names name

admitted_fits : (device : Device) (name : List ℕ) (stage : Stage) (width : ℕ) → Lonely device name stage → CanAdmit stage.service width → fits device.columns width ≡ true
admitted_fits device name stage width lonely can = grind (arith, are_parted)

admission_grants : (o : Option History) (device : Device) (name : List ℕ) (old new : Stage) (width : ℕ) (calls : List Call) (text : List ℕ) → live_of old.service.histories (last_id old.names name) ≡ o → Lonely device name old → IsAdmission o old name width calls text new →
    HadMemory calls → length old.service.histories + 1 ≤ 65535 → Grants device name device.columns (Operator (Admit name width)) calls old new
admission_grants (Some h) device name old new width calls text live lonely is had few = grind arith
admission_grants None device name old new width calls text live lonely is had few = by_answer is.0 is.1 is.2 is.4 (subst HadMemory is.4 had)
  where
    by_answer : (answer : Result (ℕ × ℕ) OpRefusal) → IsAdmitted old.service width answer new.service → new.names ≡ names_after old.names name answer → calls ≡ AdmitCall width answer ∷ [] → HadMemory (AdmitCall width answer ∷ []) →
        Grants device name device.columns (Operator (Admit name width)) calls old new
    by_answer (Ok given) admits_it names called had =
        let hs : List History = old.service.histories in
        let h : History = admitted_history old.service.device (length hs + 1) width in
        let now : new.service.histories ≡ hs ++ h ∷ [] = ap (λ (s : ServiceState). s.histories) admits_it.3 in
        let long : length new.service.histories ≡ length (hs ++ h ∷ []) = ap length now in
        let more : length (hs ++ h ∷ []) ≡ length hs + length (h ∷ []) = length-append hs (h ∷ []) in
        record {
          given = inr (ap admits called ∙ sym (admitted_fits device name old width lonely admits_it.0));
          grows = omega (arith, long, more);
          last = newest_last device name old new width h lonely live names now;
        }
    by_answer (Err refusal) admits_it names called had = by_fit (fits device.columns width) refl
      where
        by_fit : (b : Bool) → fits device.columns width ≡ b → Grants device name device.columns (Operator (Admit name width)) calls old new
        by_fit true e = absurd (never_refused device name old width refusal lonely live e (omega (arith, few)) had admits_it.0)
        by_fit false e =
            let P : ServiceState → Type 0 = λ s. (id : ℕ) → IsSome (live_of s.histories id) → id ≡ last_id new.names name in
            let R : List (List ℕ) → Type 0 = λ ns. (id : ℕ) → IsSome (live_of old.service.histories id) → id ≡ last_id ns name in
            let long : length new.service.histories ≡ length old.service.histories = ap (λ (s : ServiceState). length s.histories) admits_it.1 in
            record {
              given = inr (ap admits called ∙ sym e);
              grows = omega (arith, long);
              last = subst P (sym admits_it.1) (subst R (sym names) lonely.last);
            }

steady_grants : (device : Device) (name : List ℕ) (act : Act (List ℕ)) (old new : Stage) (calls : List Call) → IsGiven device.columns act calls → Lonely device name old → new.names ≡ old.names → AreFor (last_id old.names name) calls → Run old.service calls new.service →
    Grants device name device.columns act calls old new
steady_grants device name act old new calls given lonely names are runs =
    let same : length old.service.histories ≡ length new.service.histories = lengths-run old.service new.service calls (steady_for (last_id old.names name) calls are) runs in
    record {
      given = given;
      grows = omega (arith, same);
      last = stays_last device name old new lonely names (λ id apart. local_calls id (last_id old.names name) old.service calls new.service are apart runs);
    }

operator_grants : (device : Device) (name : List ℕ) (old new : Stage) (line : OperatorLine (List ℕ)) (calls : List Call) (text : List ℕ) → Lonely device name old → IsServed old line calls text new → is_about name line ≡ true → HadMemory calls →
    length old.service.histories + is_admit (Operator line) ≤ 65535 → Grants device name device.columns (Operator line) calls old new
operator_grants device name old new (Admit other width) calls text lonely is about had few =
    let same : other ≡ name = sym ((bytes_eq-Decides name other).0 about) in
    let P : List ℕ → Type 0 = λ n. IsAdmission (live_of old.service.histories (last_id old.names n)) old n width calls text new in
    let Q : List ℕ → Type 0 = λ n. Grants device name device.columns (Operator (Admit n width)) calls old new in
    subst Q (sym same) (admission_grants (live_of old.service.histories (last_id old.names name)) device name old new width calls text refl lonely (subst P same is) had few)
operator_grants device name old new (Evict other) calls text lonely is about had few =
    let same : other ≡ name = sym ((bytes_eq-Decides name other).0 about) in
    let P : List ℕ → Type 0 = λ n. IsServed old (Evict n) calls text new in
    let own_tellings = subst P same is in
    let long : length old.service.histories ≡ length new.service.histories = lengths-evicted old.service new.service (last_id old.names name) own_tellings.0 own_tellings.1 in
    record {
      given = tt;
      grows = omega (arith, long);
      last = stays_last device name old new lonely own_tellings.2 (λ id apart. eviction_local id (last_id old.names name) old.service new.service own_tellings.0 apart own_tellings.1);
    }
operator_grants device name old new (Step other count) calls text lonely is about had few =
    let same : other ≡ name = sym ((bytes_eq-Decides name other).0 about) in
    let P : List ℕ → Type 0 = λ n. IsServed old (Step n count) calls text new in
    let own_tellings = subst P same is in
    let t : ℕ = last_id old.names name in
    let Q : List Call → Type 0 = λ cs. Run old.service cs new.service in
    steady_grants device name (Operator (Step other count)) old new calls tt lonely own_tellings.4 (subst (AreFor t) (sym own_tellings.6) (for_tried t own_tellings.0 old.service new.service own_tellings.2 (subst Q own_tellings.6 own_tellings.3))) own_tellings.3
operator_grants device name old new (Move other offset) calls text lonely is about had few = absurd (false≢true about)
operator_grants device name old new (Take other) calls text lonely is about had few = absurd (false≢true about)
operator_grants device name old new (Put number) calls text lonely is about had few = absurd (false≢true about)
operator_grants device name old new ListAll calls text lonely is about had few = absurd (false≢true about)
operator_grants device name old new Owners calls text lonely is about had few = absurd (false≢true about)

act_grants : (device : Device) (name : List ℕ) (old new : Stage) (act : Act (List ℕ)) (calls : List Call) (text : List ℕ) → Lonely device name old → IsAnswered old act calls text new → is_own name act ≡ true → HadMemory calls →
    length old.service.histories + is_admit act ≤ 65535 → Grants device name device.columns act calls old new
act_grants device name old new (Operator line) calls text lonely is own_tellings had few = operator_grants device name old new line calls text lonely is own_tellings had few
act_grants device name old new (Session other line) calls text lonely is own_tellings had few =
    let same : other ≡ name = sym ((bytes_eq-Decides name other).0 own_tellings) in
    let P : List ℕ → Type 0 = λ n. IsAnswered old (Session n line) calls text new in
    let mine = subst P same is in
    steady_grants device name (Session other line) old new calls tt lonely mine.3 (for_line (last_id old.names name) old.service line calls new.service mine.0 mine.1 mine.2) mine.2

-- one after another
all_granted : (device : Device) (name : List ℕ) (old last : Stage) (ts : List Telling) → Tells old ts last → Lonely device name old → AllOwn name (map (λ t. t.act) ts) → AllHadMemory ts →
    length old.service.histories + admissions (map (λ t. t.act) ts) ≤ 65535 → AreGiven device.columns ts
all_granted device name old last [] tells lonely own_tellings had few = tt
all_granted device name old last (t ∷ ts) tells lonely own_tellings had few =
    let mid : Stage = tells.0 in
    let now : length old.service.histories + is_admit t.act ≤ 65535 = omega (arith, few) in
    let did = act_grants device name old mid t.act t.calls t.text lonely tells.1 own_tellings.0 had.0 now in
    let grows = did.grows in
    let next : Lonely device name mid = record {
      calls = lonely.calls ++ t.calls;
      runs = Run-append (empty_service device) lonely.calls old.service t.calls mid.service lonely.runs (answered_runs old t.act t.calls t.text mid tells.1);
      sound = sound_after device name old mid t.act t.calls t.text lonely.sound tells.1 (own_left name t.act own_tellings.0);
      last = did.last;
    } in
    (did.given, all_granted device name mid last ts tells.2 next own_tellings.1 had.1 (omega (arith, few, grows)))

own_granted : (columns : ℕ) (name : List ℕ) (ts : List Telling) → AreGiven columns ts → AreGiven columns (own_tellings name ts)
own_granted columns name [] are = tt
own_granted columns name (t ∷ ts) are = grind (arith, own_granted columns name ts are.1)

own_memory : (name : List ℕ) (ts : List Telling) → HaveMemory ts → HaveMemory (own_tellings name ts)
own_memory name [] had = tt
own_memory name (t ∷ ts) had = grind (arith, own_memory name ts had.1)

pub is_alone : IsAlone
is_alone options other tracks other_tracks architecture other_architecture input other_input output other_output name r s small other_small arch rows acts are few plays had =
    let device : Device = device_of options r.arch in
    let narrow : Device = device_of other s.arch in
    let own_script : AllOwn name s.acts = subst (AllOwn name) (sym acts) (filter_own name r.acts) in
    let own_told : AllOwn name (map (λ t. t.act) s.tellings) = subst (AllOwn name) (sym s.all) own_script in
    let same : own_acts name r.acts ≡ own_acts name s.acts = sym acts ∙ sym (own_all name s.acts own_script) in
    let P : List (Act (List ℕ)) → Type 0 = λ acts. 0 + admissions acts ≤ 65535 in
    let count : 0 + admissions (map (λ t. t.act) s.tellings) ≤ 65535 = subst P (sym s.all) (omega (arith, few)) in
    let other_are : AreGiven other.columns (own_tellings name s.tellings) = own_granted other.columns name s.tellings (all_granted narrow name (record { names = []; jobs = []; service = empty_service narrow; graph = own_graph narrow }) s.last s.tellings s.told
    (record { calls = []; runs = refl; sound = record { kept = IsService-empty narrow; on = refl; even = refl; elsewhere = tt }; last = λ id live. absurd (false≢true live) }) own_told (all_had (record { names = []; jobs = []; service = empty_service narrow; graph = own_graph narrow }) s.last s.tellings s.told refl had) count) in
    let other_plays : Plays name s.tellings = record { left = all_left name s.tellings own_told; memory = own_memory name s.tellings had } in
    let start : Stage = record { names = []; jobs = []; service = empty_service device; graph = own_graph device } in
    let narrow_start : Stage = record { names = []; jobs = []; service = empty_service narrow; graph = own_graph narrow } in
    let given : map (λ t. given_to t.act t.calls) (own_tellings name r.tellings) ≡ map (λ t. given_to t.act t.calls) (own_tellings name s.tellings) = grant_the_same other.columns device narrow (own_tellings name r.tellings) (own_tellings name s.tellings) None arch rows (run_sits options tracks architecture input output name r plays)
    (run_sits other other_tracks other_architecture other_input other_output name s other_plays)
    (own_of options tracks architecture input output name r ∙ (same ∙ sym (own_of other other_tracks other_architecture other_input other_output name s))) (are_given other.columns name start r.last r.tellings r.told are) other_are in
    let same_grants : grants name r.tellings ≡ grants name s.tellings = sym (grants_told name start r.last r.tellings r.told) ∙ (given ∙ grants_told name narrow_start s.last s.tellings s.told) in
    is_the_same options other tracks other_tracks architecture other_architecture input other_input output other_output name r s small other_small arch rows same same_grants plays other_plays
