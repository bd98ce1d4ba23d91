-- A job that is done as it is asked for.
use Rattle.desk_netlists.proofs.Prelude.{◌≡◌, ◌≤◌, ℕ, Bool, List, Option, Result, IfOk, refl, IfOk-weaker, MAX_EFFORT, IsBeginning, NamedBytes, Outcome, IsDone, IsRouted, IsSizeFor, IsStem, MAX_READ, RouteJob, RouteWishes}

pub done_if : (text : List ℕ → Option (List ℕ)) (job : RouteJob) (old new : Option (List NamedBytes)) (r : Result (Unit {0}) Outcome) → IsBeginning (text job.wishes.netlist.now) MAX_READ job.request.netlist.now → job.request.seed ≡ job.wishes.seed →
    job.request.effort ≡ job.wishes.effort → IsSizeFor job.wishes.size job.arch.now job.request job.size → IsStem job.wishes.netlist.now job.name.now → IfOk r (λ _. IsRouted text job.wishes job old new) →
    IfOk r (λ _. IsBeginning (text job.wishes.arch.now) MAX_READ job.arch.now → IsDone text job.wishes old new)
done_if text job old new r netlist seed effort size name h = IfOk-weaker r _ _ (λ _ routed arch. record {
  job = job;
  asked = record { arch = arch; netlist = netlist; seed = seed; effort = effort; size = size; folder = refl; extras = refl; name = name };
  routed = routed;
}) h

-- whether steps are told changes no result
abbrev telling : (wishes : RouteWishes) → Bool → wishes.effort ≤ MAX_EFFORT → RouteWishes
telling wishes is_told lawful = record {
  arch = wishes.arch;
  netlist = wishes.netlist;
  folder = wishes.folder;
  tracks = wishes.tracks;
  size = wishes.size;
  seed = wishes.seed;
  effort = wishes.effort;
  pins = wishes.pins;
  is_told = is_told;
  form = wishes.form;
  extras = wishes.extras;
  effort_lawful = lawful;
}

pub done_telling : (text : List ℕ → Option (List ℕ)) (wishes : RouteWishes) (is_told : Bool) (lawful : wishes.effort ≤ MAX_EFFORT) (old new : Option (List NamedBytes)) → IsDone text (telling wishes is_told lawful) old new → IsDone text wishes old new
done_telling text wishes is_told lawful old new done = record {
  job = done.job;
  asked = record {
    arch = done.asked.arch;
    netlist = done.asked.netlist;
    seed = done.asked.seed;
    effort = done.asked.effort;
    size = done.asked.size;
    folder = done.asked.folder;
    extras = done.asked.extras;
    name = done.asked.name;
  };
  routed = record { run = done.routed.run; is_run = done.routed.is_run; written = done.routed.written };
}
