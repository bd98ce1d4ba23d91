-- The replies to steps by hand, whatever workers have.
use Rattle.live_machine.proofs.Prelude.{◌≡◌, ◌≢◌, ℕ, List, [], ◌∷◌, ◌++◌, codes, decimal, get_or, true, refl, sym, ap, subst, ◌∙◌, arith, append-nil, All-head, Operator, Step, Advanced, Finished, Stale, Call, Run, StepOutcome, Recorded, Full, Gone, NoMemory, Unfit, MakesStep, last_id, outcome_text, IsServed, Stage, Tagged, output_of, tag_of, tagged_text, Telling, Asked, LiveState, TakesAsked, asked_of, operator_told, Operates, AnswersLine, is_busy, IsHome, all_here, nomemory_reply, without_workers}
use Rattle.sessions.specs.declared.steps.StepOutcome.TheVariants.{Nothing}
use Rattle.live_machine.proofs.HereHome.{IsAtHome, busy_home}
use Rattle.live_machine.proofs.HereMade.{IsUnrecorded, unrecorded}
use Rattle.live_machine.proofs.HereServed.{stage_here}
use Rattle.live_machine.proofs.HereTried.{Retried, calls_in, retried, same_count, same_each, same_text}

-- what a line that asks for steps is answered
record TellsSteps (old : LiveState) (name : List ℕ) (count : ℕ) (reply : List ℕ) (new : LiveState) : Type 0 where
  calls : List Call
  text : List ℕ
  served : IsServed old.stage (Step name count) calls text new.stage
  reply_is : reply ≡ output_of (operator_told (Step name count) text)
  texts : new.texts ≡ old.texts

steps_told : (old new : LiveState) (number count : ℕ) (line reply name : List ℕ) → asked_of line ≡ Operates (Step name count) → AnswersLine old number line reply new → TellsSteps old name count reply new
steps_told old new number count line reply name asks answers = grind arith

told_steps : (old new : LiveState) (number count : ℕ) (line reply name : List ℕ) → asked_of line ≡ Operates (Step name count) → TellsSteps old name count reply new → AnswersLine old number line reply new
told_steps old new number count line reply name asks s =
    let t : Telling = record { act = Operator (Step name count); calls = s.calls; text = s.text } in
    let told : List Tagged = operator_told (Step name count) s.text in
    let P : Asked → Type 0 = λ a. TakesAsked old number (tag_of line) a (t ∷ []) told new in
    record {
      tellings = t ∷ [];
      told = told;
      takes = subst P (sym asks) (t, refl, s.served, refl, refl, s.texts);
      reply_is = s.reply_is;
    }

served_steps : (old : Stage) (name : List ℕ) (count : ℕ) (calls : List Call) (text : List ℕ) (new : Stage) → IsAtHome old.service (last_id old.names name) → IsServed old (Step name count) calls text new →
    (again : List Call) × IsServed (stage_here old) (Step name count) again text (stage_here new)
served_steps old name count calls text new home (tried, counted, all, runs, names, jobs, calls_are, text_is, graph, fits) =
    let id : ℕ = last_id old.names name in
    let P : List Call → Type 0 = λ cs. Run old.service cs new.service in
    let r : Retried StepOutcome (λ o. o) old.service id tried new.service = retried StepOutcome (λ o. o) old.service id tried new.service home all (subst P calls_are runs) in (
      calls_in StepOutcome r.again,
      (
        r.again,
        same_count StepOutcome r.again tried r.same ∙ counted,
        r.made,
        r.runs,
        names,
        jobs,
        refl,
        text_is ∙ sym (same_text StepOutcome outcome_text r.again tried r.same),
        graph,
        λ own. same_each StepOutcome (λ o. o ≢ Unfit) r.again tried r.same (fits own),
      ),
    )

-- the reply to steps of a job that is at home
pub steps_here : (old new : LiveState) (number count : ℕ) (line reply name : List ℕ) → asked_of line ≡ Operates (Step name count) → IsHome old name → AnswersLine old number line reply new → AnswersLine (without_workers old) number line reply (without_workers new)
steps_here old new number count line reply name asks home answers =
    let s = steps_told old new number count line reply name asks answers in
    let (again, served) = served_steps old.stage name count s.calls s.text new.stage home s.served in
    told_steps (without_workers old) (without_workers new) number count line reply name asks
    (record { calls = again; text = s.text; served = served; reply_is = s.reply_is; texts = s.texts })

-- the reply to a step that can be taken
pub step_here : (old new : LiveState) (number : ℕ) (line reply name : List ℕ) → asked_of line ≡ Operates (Step name 1) → is_busy old name ≡ true → AnswersLine old number line reply new → AnswersLine (without_workers old) number line reply (without_workers new)
step_here old new number line reply name asks busy answers = steps_here old new number 1 line reply name asks (busy_home old.stage.service (last_id old.stage.names name) busy) answers

record Tries (old : Stage) (name : List ℕ) (calls : List Call) (text : List ℕ) (new : Stage) : Type 0 where
  outcome : StepOutcome
  makes : MakesStep (last_id old.names name) calls outcome
  runs : Run old.service calls new.service
  names : new.names ≡ old.names
  jobs : new.jobs ≡ old.jobs
  text_is : text ≡ outcome_text outcome
  graph : new.graph ≡ old.graph

one_tried : (old : Stage) (name : List ℕ) (calls : List Call) (text : List ℕ) (new : Stage) → IsServed old (Step name 1) calls text new → Tries old name calls text new
one_tried old name calls text new ([], count, all, runs, names, jobs, calls_are, text_is, graph, fits) = absurd (omega (arith, count))
one_tried old name calls text new (m ∷ [], count, all, runs, names, jobs, calls_are, text_is, graph, fits) = search (append-nil, All-head, arith)
one_tried old name calls text new (m ∷ n ∷ others, count, all, runs, names, jobs, calls_are, text_is, graph, fits) = absurd (omega (arith, count))

-- a step whose reply is that memory ran out was not recorded
abbrev told_outcome : StepOutcome → List ℕ
told_outcome outcome = output_of (operator_told (Step [] 1) (outcome_text outcome))

-- the line that says that one line follows, and the line with the word for the outcome
abbrev count_line : List ℕ
count_line = tagged_text (codes "op") (codes "lines " ++ decimal 1)

abbrev word_line : StepOutcome → List ℕ
word_line outcome = tagged_text (codes "op") (outcome_text outcome) ++ []

abbrev first_letter : List ℕ → ℕ
first_letter line = get_or line 3 0

cancel : (first x y : List ℕ) → first ++ x ≡ first ++ y → x ≡ y
cancel [] x y is = is
cancel (byte ∷ first) x y is = let rest : first ++ x ≡ first ++ y = cc in cancel first x y rest

same_word : (outcome : StepOutcome) → count_line ++ word_line outcome ≡ count_line ++ word_line NoMemory → first_letter (word_line outcome) ≡ 110
same_word outcome is = ap first_letter (cancel count_line (word_line outcome) (word_line NoMemory) is)

no_memory_unrecorded : (outcome : StepOutcome) → told_outcome outcome ≡ told_outcome NoMemory → IsUnrecorded outcome
no_memory_unrecorded (Recorded Advanced) is = let e : 97 ≡ 110 = same_word (Recorded Advanced) is in absurd (omega (arith, e))
no_memory_unrecorded (Recorded Finished) is = let e : 102 ≡ 110 = same_word (Recorded Finished) is in absurd (omega (arith, e))
no_memory_unrecorded (Recorded Stale) is = let e : 115 ≡ 110 = same_word (Recorded Stale) is in absurd (omega (arith, e))
no_memory_unrecorded Full is = tt
no_memory_unrecorded Gone is = tt
no_memory_unrecorded NoMemory is = tt
no_memory_unrecorded Nothing is = tt
no_memory_unrecorded Unfit is = tt

same_state : (old new : LiveState) → all_here new.stage.service ≡ all_here old.stage.service → new.stage.names ≡ old.stage.names → new.stage.jobs ≡ old.stage.jobs → new.stage.graph ≡ old.stage.graph → new.texts ≡ old.texts → without_workers new ≡ without_workers old
same_state old new service names jobs graph texts = grind arith

pub nomemory_here : (old new : LiveState) (number : ℕ) (line reply name : List ℕ) → asked_of line ≡ Operates (Step name 1) → reply ≡ nomemory_reply name → AnswersLine old number line reply new → without_workers new ≡ without_workers old
nomemory_here old new number line reply name asks is answers =
    let s = steps_told old new number 1 line reply name asks answers in
    let t = one_tried old.stage name s.calls s.text new.stage s.served in
    let told : told_outcome t.outcome ≡ told_outcome NoMemory = sym (s.reply_is ∙ ap (λ text. output_of (operator_told (Step name 1) text)) t.text_is) ∙ is in
    same_state old new
    (unrecorded old.stage.service (last_id old.stage.names name) s.calls t.outcome new.stage.service (no_memory_unrecorded t.outcome told) t.makes t.runs)
    t.names t.jobs t.graph s.texts
