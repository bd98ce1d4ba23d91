-- The answers to a script whose sessions run on threads.
use Rattle.std.specs.Prelude.{ℕ, ◌≡◌, ◌≢◌, List, [], ◌++◌, map, All, AllPairs, true, Option, IfSome, is_some}
use Rattle.std.specs.List.{AllZip}
use Rattle.std.specs.Option.{option_map_or}
use Rattle.script_threads.specs.Prelude.{Basis, Device, Call, Run, ServiceState, empty_service, live_of, own_graph, items_of, IsTold, told_texts, ItemAnswer, last_id, OperatorLine, RunReplies, Section, section_of, Parts as Script, Said}
use Rattle.script_threads.specs.Left.{MakesSteps}
use Rattle.script_threads.specs.Lines.{Replies, Serves}
use Rattle.script_threads.specs.Sessions.{evicted_text}
use Rattle.script_threads.specs.Turns.{is_turn, own_answers, told_answers}

-- a name's session, the name's last tenancy, and the answers to the session's items if that tenancy
-- is live
pub record Conversation : Type 0 where
  pub said : Said
  pub id : ℕ
  pub told : Option (List (Option ItemAnswer))

-- the answers as a text. If the tenancy isn't live, the core isn't asked
abbrev pub told_in : Conversation → Section
told_in c = record { name = c.said.name; text = option_map_or told_texts c.told (evicted_text c.said.input) }

-- each item has its answer; and the commands that are asked in the tenancy's name, with the answers
-- to them, are exactly those of the items, in order
pub record IsAnswered (calls : List Call) (c : Conversation) (told : List (Option ItemAnswer)) : Type 0 where
  pub each : AllZip (IsTold c.id) (items_of c.said.input) told
  pub asked : own_answers c.id calls ≡ told_answers (items_of c.said.input) told

-- the sessions of live tenancies, each of another tenancy, ran on threads, whose turns led from one
-- service to the other. A command is refused only in a turn in which its journal is full. No other
-- tenancy is asked a command in these turns
pub record Ran (names : List (List ℕ)) (begun : ServiceState) (sessions : List Said) (sections : List Section) (service : ServiceState) : Type 0 where
  pub conversations : List Conversation
  pub calls : List Call
  pub run : Run begun calls service
  pub kinds : All (λ call. is_turn call ≡ true) calls
  pub said : map (λ c. c.said) conversations ≡ sessions
  pub live : All (λ c. (c.id ≡ last_id names c.said.name) × (is_some c.told ≡ is_some (live_of begun.histories c.id))) conversations
  pub answered : All (λ c. IfSome c.told (IsAnswered calls c)) conversations
  pub apart : AllPairs (λ c d. is_some c.told ≡ true → is_some d.told ≡ true → c.id ≢ d.id) conversations
  pub no_other : (id : ℕ) → All (λ c. is_some c.told ≡ true → c.id ≢ id) conversations → own_answers id calls ≡ []
  pub sections_are : sections ≡ map told_in conversations

-- the operator's lines before the sessions are served from that state of the core, over that graph;
-- then the sessions run; then the jobs that they left make their steps; and then the operator's
-- other lines are served. The operator's text is that of all these lines
pub record IsServedFrom (graph : Basis) (start : ServiceState) (script : Script) (sections : List Section) (text : List ℕ) : Type 0 where
  pub names : List (List ℕ)
  pub service : ServiceState
  pub ahead_text : List ℕ
  pub ahead : Serves graph [] start script.ahead ahead_text names service
  pub settled : ServiceState
  pub ran : Ran names service script.sessions sections settled
  pub rested : ServiceState
  pub left : MakesSteps graph settled rested
  pub last_names : List (List ℕ)
  pub last : ServiceState
  pub rest_text : List ℕ
  pub rest : Serves graph names rested script.rest rest_text last_names last
  pub text_is : text ≡ ahead_text ++ rest_text

-- a script is served so from the empty device, over the device's own graph
abbrev pub IsServedOnThreads : Device → Script → RunReplies → Type 0
IsServedOnThreads device script answered = IsServedFrom (own_graph device) (empty_service device) script (map section_of answered.sections.items) answered.operator.items

-- private: the sessions run, the jobs that are left make their steps, and the service after that
-- serves the operator's other lines; their text follows the reply so far
pub record RunsOn (graph : Basis) (names : List (List ℕ)) (begun : ServiceState) (sessions : List Said) (rest : List (OperatorLine (List ℕ))) (sections : List Section) (before after : List ℕ) : Type 0 where
  pub settled : ServiceState
  pub ran : Ran names begun sessions sections settled
  pub rested : ServiceState
  pub left : MakesSteps graph settled rested
  pub last_names : List (List ℕ)
  pub last : ServiceState
  pub replies : Replies graph names rested rest before after last_names last
