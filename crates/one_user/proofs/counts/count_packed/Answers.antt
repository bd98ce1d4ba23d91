use Rattle.one_user.proofs.Prelude.{◌≡◌, ◌+◌, ap, sym, subst, ◌∙◌, arith, IfOk, Packing, Packed, Task, outcome_of, AreCounts, IsAt, IsPacked, state_at, task_in}
use Rattle.one_user.proofs.Asking.{Leads}
use Rattle.one_user.proofs.Courses.{pack_leads, packing_done, task_own}
use Rattle.one_user.proofs.counts.count_packed.Goals as goal

pub packed_counts-requires : goal.packed_counts-requires
packed_counts-requires g c =
    let old = c.args.slot.now in
    let task = task_in old.state c.args.request.seed c.args.request.effort in
    let new = c.make_steps.new.slot in
    let leads = pack_leads task old c.requires.slot c.requires.loaded c.ask.new.slot c.in_ok-refusal.field-0 c.in_ok-refusal.ensures.reply c.in_ok-refusal.ensures.slot in
    let went = subst (Leads task IsPacked (state_at task Packing 0 0 (old.state.generation + 1) (old.state.entries + 1)) c.ask.new.slot) c.in-None.is leads in
    let done = packing_done task (old.state.generation + 1) (old.state.entries + 1) c.ask.new.slot.id c.ask.new.slot new c.in_ok-last.last went.0 went.1 (omega (arith, c.requires.slot.few)) c.in_ok-last.ensures in
    done.1

pub returns : goal.returns
returns g c =
    let old = c.args.slot.now in
    let task = task_in old.state c.args.request.seed c.args.request.effort in
    let new = c.make_steps.new.slot in
    let leads = pack_leads task old c.requires.slot c.requires.loaded c.ask.new.slot c.in_ok-refusal.field-0 c.in_ok-refusal.ensures.reply c.in_ok-refusal.ensures.slot in
    let went = subst (Leads task IsPacked (state_at task Packing 0 0 (old.state.generation + 1) (old.state.entries + 1)) c.ask.new.slot) c.in-None.is leads in
    let done = packing_done task (old.state.generation + 1) (old.state.entries + 1) c.ask.new.slot.id c.ask.new.slot new c.in_ok-last.last went.0 went.1 (omega (arith, c.requires.slot.few)) c.in_ok-last.ensures in
    done.2 c.packed_counts.result c.packed_counts.ensures
