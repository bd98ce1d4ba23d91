use Rattle.one_user.proofs.Prelude.{◌≡◌, ap, sym, subst, ◌∙◌, arith, SlotState, Loaded, Task, IsAt, IsLoaded, device_of, state_at, task_in}
use Rattle.one_user.proofs.Asking.{Leads}
use Rattle.one_user.proofs.Courses.{at_own, loaded_own, upload_leads}
use Rattle.one_user.proofs.stages.upload.Goals as goal

pub pack-requires : goal.pack-requires
pack-requires g c =
    let old = c.args.slot.now in
    let text = c.in_ok-netlist.netlist in
    let task : Task = record { arch = old.state.arch; strip = old.state.strip; text = text; seed = c.args.request.seed; effort = c.args.request.effort } in
    let leads = upload_leads old text c.args.request.seed c.args.request.effort c.requires.slot c.ask.new.slot c.in_ok-refusal.field-0 c.in_ok-refusal.ensures.reply c.in_ok-refusal.ensures.slot in
    let went = subst (Leads task IsLoaded (state_at task Loaded 0 0 0 1) c.ask.new.slot) c.in-None.is leads in
    let own : task_in c.ask.new.slot.state task.seed task.effort ≡ task = loaded_own task c.ask.new.slot went.1 in
    record {
      slot = subst (λ (t : Task). IsAt t Loaded 0 0 1 c.ask.new.slot) (sym own) (at_own task Loaded 0 0 0 1 1 c.ask.new.slot.id c.ask.new.slot went.1 (omega arith));
      window = c.requires.window ∙ sym (ap (λ (s : SlotState). device_of s.state) went.1);
      effort = c.requires.effort;
      loaded = subst IsLoaded (sym own) went.0;
    }
