-- The calls of a script on threads as one run of the core.
use Rattle.std.specs.Prelude.{ℕ, List, ◌++◌}
use Rattle.script_threads.specs.Prelude.{Basis, Device, AreOwnJournals, AreParted, EachIsAlone, IsBook, HasOneOwner, Call, Run, ServiceState, empty_service, Parts as Script, Section}
use Rattle.script_threads.specs.Lines.{with_give_backs}
use Rattle.script_threads.specs.Served.{IsServedFrom}

-- the calls of the lines before the sessions, then those of the threads, then those of the jobs
-- that are left, and then those of the other lines
abbrev pub calls_of : {graph : Basis} {start : ServiceState} {script : Script} {sections : List Section} {text : List ℕ} → IsServedFrom graph start script sections text → List Call
calls_of is = with_give_backs is.ahead.calls is.ahead.last ++ (is.ran.calls ++ (is.left.calls ++ with_give_backs is.rest.calls is.rest.last))

-- calls are one run from the empty device, and what holds for the calls that one thread makes holds
-- for them: each tenancy is answered what it is answered alone for its own events, its journal is
-- those events, and no tenancy's strip or resource is another's
pub record IsOneRun (device : Device) (calls : List Call) (last : ServiceState) : Type 0 where
  pub run : Run (empty_service device) calls last
  pub alone : EachIsAlone device calls last
  pub journals : AreOwnJournals calls last
  pub parted : AreParted device last
  pub book : IsBook device calls last
  pub exact : HasOneOwner last
