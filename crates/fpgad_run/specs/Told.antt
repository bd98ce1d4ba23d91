-- Private: a script that runs, and its answers so far.
use Rattle.std.specs.Prelude.{ℕ, ◌≡◌, List, [], ◌++◌, length}
use Rattle.fpgad_run.specs.Prelude.{Basis, Call, ServiceState, SessionLine, Answer, IsAnswer, answer_text, sink_text, Act, Stage, Section, output_of}
use Rattle.fpgad_run.specs.declared.in_order.Running.{Running}
use Rattle.fpgad_run.specs.declared.sections.Sections.{Sections}
use Rattle.fpgad_run.specs.Run.{IsAnswered, told_operator, told_session, with_text}
use Rattle.fpgad_run.specs.Zipped.{named_sections}

abbrev pub stage_of : Running → Stage
stage_of running = record { names = running.operator; jobs = running.jobs; service = running.core; graph = running.graph.now }

abbrev pub sections_in : Sections → List Section
sections_in sections = named_sections sections.names sections.texts.items

abbrev pub sections_of : Running → List Section
sections_of running = sections_in running.sections

-- each section has a name, and each id has a section
pub record IsEven (running : Running) : Type 0 where
  pub sections : length running.sections.texts.items ≡ length running.sections.names
  pub ids : length running.operator ≡ length running.core.histories

-- what would be written now
abbrev pub told_so_far : Running → List ℕ
told_so_far running = output_of (sink_text running.operator_text) (sections_of running)

-- nothing is answered yet
pub record Begins (graph : Basis) (core : ServiceState) (running : Running) : Type 0 where
  pub stage : stage_of running ≡ record { names = []; jobs = []; service = core; graph = graph }
  pub operator_text : sink_text running.operator_text ≡ []
  pub sections : sections_of running ≡ []
  pub even : IsEven running

-- an act is answered
pub record Serves (old : Running) (act : Act (List ℕ)) (new : Running) : Type 0 where
  pub calls : List Call
  pub text : List ℕ
  pub answered : IsAnswered (stage_of old) act calls text (stage_of new)
  pub operator_text : sink_text new.operator_text ≡ sink_text old.operator_text ++ told_operator act text
  pub sections : sections_of new ≡ told_session (sections_of old) act text
  pub even : IsEven new

-- the core answers a line of a name's session, over that graph, and the answer is in the name's
-- section
abbrev pub AnswersSession : Basis → Sections → ServiceState → List ℕ → ℕ → SessionLine → Sections → ServiceState → Type 0
AnswersSession graph old service name id line new new_service = (answer : Answer)
    × IsAnswer graph service id line answer new_service
    × (sections_in new ≡ with_text (sections_in old) name (answer_text answer)) × (length new.texts.items ≡ length new.names)
