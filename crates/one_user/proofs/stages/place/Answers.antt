use Rattle.one_user.proofs.Prelude.{◌≡◌, ◌+◌, ap, sym, subst, ◌∙◌, arith, IfOk, IfSome, Basis, HasFigures, Task, outcome_of, AreCounts, IsPlaced, state_at, task_in, Run, Placing}
use Rattle.one_user.proofs.Asking.{Leads}
use Rattle.one_user.proofs.Courses.{at_self, place_leads, placed_own, placing_done}
use Rattle.one_user.proofs.stages.place.Goals as goal

pub route-requires : goal.route-requires
route-requires g c =
    let old = c.args.slot.now in
    let task = task_in old.state c.args.request.seed c.args.request.effort in
    let new = c.make_steps.new.slot in
    let leads = place_leads task old c.requires.slot c.requires.packed c.requires.effort c.ask.new.slot c.in_ok-refusal.field-0 c.in_ok-refusal.ensures.reply c.in_ok-refusal.ensures.slot in
    let went = subst (Leads task IsPlaced (state_at task Placing task.seed task.effort (old.state.generation + 1) (old.state.entries + 1)) c.ask.new.slot) c.in-None.is leads in
    let done = placing_done task (old.state.generation + 1) (old.state.entries + 1) c.ask.new.slot.id c.ask.new.slot new c.in_ok-_last._last went.1 (omega (arith, c.requires.slot.few)) c.in_ok-_last.ensures in
    let own : task_in new.state new.state.seed new.state.effort ≡ task = placed_own task new done in
    record {
      slot = at_self task new done;
      window = c.requires.window ∙ sym (ap (λ (t : Task). let b : Basis = record { arch = t.arch; strip = t.strip } in b) own);
      placed = subst IsPlaced (sym own) went.0;
      counts = subst (λ (t : Task). AreCounts t c.args.packed) (sym own) c.requires.counts;
    }

pub returns-clause-outcome : goal.returns-clause-outcome
returns-clause-outcome g c =
    let old = c.args.slot.now in
    let task = task_in old.state c.args.request.seed c.args.request.effort in
    let new = c.make_steps.new.slot in
    let leads = place_leads task old c.requires.slot c.requires.packed c.requires.effort c.ask.new.slot c.in_ok-refusal.field-0 c.in_ok-refusal.ensures.reply c.in_ok-refusal.ensures.slot in
    let went = subst (Leads task IsPlaced (state_at task Placing task.seed task.effort (old.state.generation + 1) (old.state.entries + 1)) c.ask.new.slot) c.in-None.is leads in
    let done = placing_done task (old.state.generation + 1) (old.state.entries + 1) c.ask.new.slot.id c.ask.new.slot new c.in_ok-_last._last went.1 (omega (arith, c.requires.slot.few)) c.in_ok-_last.ensures in
    let own : task_in new.state new.state.seed new.state.effort ≡ task = placed_own task new done in
    subst (λ (t : Task). IfOk c.route.result (λ (run : Run). run.outcome ≡ outcome_of t)) own c.route.ensures.outcome

pub returns-clause-figures : goal.returns-clause-figures
returns-clause-figures g c =
    let old = c.args.slot.now in
    let task = task_in old.state c.args.request.seed c.args.request.effort in
    let new = c.make_steps.new.slot in
    let leads = place_leads task old c.requires.slot c.requires.packed c.requires.effort c.ask.new.slot c.in_ok-refusal.field-0 c.in_ok-refusal.ensures.reply c.in_ok-refusal.ensures.slot in
    let went = subst (Leads task IsPlaced (state_at task Placing task.seed task.effort (old.state.generation + 1) (old.state.entries + 1)) c.ask.new.slot) c.in-None.is leads in
    let done = placing_done task (old.state.generation + 1) (old.state.entries + 1) c.ask.new.slot.id c.ask.new.slot new c.in_ok-_last._last went.1 (omega (arith, c.requires.slot.few)) c.in_ok-_last.ensures in
    let own : task_in new.state new.state.seed new.state.effort ≡ task = placed_own task new done in
    subst (λ (t : Task). IfOk c.route.result (λ (run : Run). IfSome run.figures (HasFigures t))) own c.route.ensures.figures
