use Rattle.one_user.proofs.Prelude.{◌≡◌, ◌+◌, ap, sym, subst, ◌∙◌, arith, IfOk, IfSome, Basis, Packing, Packed, HasFigures, Task, outcome_of, AreCounts, IsAt, IsPacked, state_at, task_in, Run}
use Rattle.one_user.proofs.Asking.{Leads}
use Rattle.one_user.proofs.Courses.{pack_leads, packing_done, task_own}
use Rattle.one_user.proofs.stages.pack.Goals as goal

pub packed_counts-requires : goal.packed_counts-requires
packed_counts-requires g c =
    let old = c.args.slot.now in
    let task = task_in old.state c.args.request.seed c.args.request.effort in
    let new = c.make_steps.new.slot in
    let leads = pack_leads task old c.requires.slot c.requires.loaded c.ask.new.slot c.in_ok-refusal.field-0 c.in_ok-refusal.ensures.reply c.in_ok-refusal.ensures.slot in
    let went = subst (Leads task IsPacked (state_at task Packing 0 0 (old.state.generation + 1) (old.state.entries + 1)) c.ask.new.slot) c.in-None.is leads in
    let done = packing_done task (old.state.generation + 1) (old.state.entries + 1) c.ask.new.slot.id c.ask.new.slot new c.in_ok-last.last went.0 went.1 (omega (arith, c.requires.slot.few)) c.in_ok-last.ensures in
    done.1

pub place-requires : goal.place-requires
place-requires g c =
    let old = c.args.slot.now in
    let task = task_in old.state c.args.request.seed c.args.request.effort in
    let new = c.make_steps.new.slot in
    let leads = pack_leads task old c.requires.slot c.requires.loaded c.ask.new.slot c.in_ok-refusal.field-0 c.in_ok-refusal.ensures.reply c.in_ok-refusal.ensures.slot in
    let went = subst (Leads task IsPacked (state_at task Packing 0 0 (old.state.generation + 1) (old.state.entries + 1)) c.ask.new.slot) c.in-None.is leads in
    let done = packing_done task (old.state.generation + 1) (old.state.entries + 1) c.ask.new.slot.id c.ask.new.slot new c.in_ok-last.last went.0 went.1 (omega (arith, c.requires.slot.few)) c.in_ok-last.ensures in
    let own : task_in new.state task.seed task.effort ≡ task = task_own task Packed 0 0 8194 new done.0 in
    record {
      effort = c.requires.effort;
      slot = subst (λ (t : Task). IsAt t Packed 0 0 8194 new) (sym own) done.0;
      window = c.requires.window ∙ sym (ap (λ (t : Task). let b : Basis = record { arch = t.arch; strip = t.strip } in b) own);
      packed = subst IsPacked (sym own) went.0;
      counts = subst (λ (t : Task). AreCounts t c.packed_counts.result) (sym own) (done.2 c.packed_counts.result c.packed_counts.ensures);
    }

pub returns-clause-outcome : goal.returns-clause-outcome
returns-clause-outcome g c =
    let old = c.args.slot.now in
    let task = task_in old.state c.args.request.seed c.args.request.effort in
    let new = c.make_steps.new.slot in
    let leads = pack_leads task old c.requires.slot c.requires.loaded c.ask.new.slot c.in_ok-refusal.field-0 c.in_ok-refusal.ensures.reply c.in_ok-refusal.ensures.slot in
    let went = subst (Leads task IsPacked (state_at task Packing 0 0 (old.state.generation + 1) (old.state.entries + 1)) c.ask.new.slot) c.in-None.is leads in
    let done = packing_done task (old.state.generation + 1) (old.state.entries + 1) c.ask.new.slot.id c.ask.new.slot new c.in_ok-last.last went.0 went.1 (omega (arith, c.requires.slot.few)) c.in_ok-last.ensures in
    let own : task_in new.state task.seed task.effort ≡ task = task_own task Packed 0 0 8194 new done.0 in
    subst (λ (t : Task). IfOk c.place.result (λ (run : Run). run.outcome ≡ outcome_of t)) own c.place.ensures.outcome

pub returns-clause-figures : goal.returns-clause-figures
returns-clause-figures g c =
    let old = c.args.slot.now in
    let task = task_in old.state c.args.request.seed c.args.request.effort in
    let new = c.make_steps.new.slot in
    let leads = pack_leads task old c.requires.slot c.requires.loaded c.ask.new.slot c.in_ok-refusal.field-0 c.in_ok-refusal.ensures.reply c.in_ok-refusal.ensures.slot in
    let went = subst (Leads task IsPacked (state_at task Packing 0 0 (old.state.generation + 1) (old.state.entries + 1)) c.ask.new.slot) c.in-None.is leads in
    let done = packing_done task (old.state.generation + 1) (old.state.entries + 1) c.ask.new.slot.id c.ask.new.slot new c.in_ok-last.last went.0 went.1 (omega (arith, c.requires.slot.few)) c.in_ok-last.ensures in
    let own : task_in new.state task.seed task.effort ≡ task = task_own task Packed 0 0 8194 new done.0 in
    subst (λ (t : Task). IfOk c.place.result (λ (run : Run). IfSome run.figures (HasFigures t))) own c.place.ensures.figures
