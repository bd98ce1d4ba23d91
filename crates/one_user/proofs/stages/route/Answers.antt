use Rattle.one_user.proofs.Prelude.{◌≡◌, ◌+◌, None, ap, sym, subst, ◌∙◌, arith, refl, packed_of, end_value, Basis, has, ResourceUse, failure_of, answer_to, SlotState, Status, Command as Asked, product, wires_there, routing_of, HasRouted, IsLeft, ending_in, task_in}
use Rattle.std.specs.Prelude.{length}
use Rattle.one_user.proofs.Courses.{route_leads, routing_done}
use Rattle.one_user.proofs.Routings.{has_routed, left_is, none_failed, routed_files, routed_held, routed_loaded, same_left, share_of, some_ending, some_text}
use Rattle.one_user.proofs.stages.route.Goals as goal

pub files_of-requires : goal.files_of-requires
files_of-requires g c =
    let old = c.args.slot.now in
    let task = task_in old.state old.state.seed old.state.effort in
    let placed = c.requires.placed in
    let new = c.make_steps.new.slot in
    let went = route_leads task old c.requires.slot c.ask.new.slot c.in_ok-refusal.field-0 c.in_ok-refusal.ensures.reply c.in_ok-refusal.ensures.slot in
    let done = routing_done task placed (old.state.generation + 1) (old.state.entries + 1) c.ask.new.slot.id c.ask.new.slot new c.in_ok-last.last went.1 c.in_ok-last.ensures in
    let failure = failure_of (end_value (routing_of task)) in
    let count = old.state.entries + 1 + c.in_ok-last.last.number in
    let none : failure ≡ None = none_failed task placed (old.state.generation + 1) (old.state.entries + 1) count failure (sym (ap (λ (s : SlotState). s.state.name) done.0) ∙ (sym c.state.ensures ∙ c.in-Routed.is)) in
    let routed : HasRouted task new.state = subst (λ (s : SlotState). HasRouted task s.state) (sym done.0) (has_routed task placed (old.state.generation + 1) (old.state.entries + 1) count failure none) in
    record {
      routed = sym c.state.ensures ∙ c.in-Routed.is;
      room = omega (arith, ap (λ (s : SlotState). s.state.entries) done.0, c.requires.slot.few, done.2);
      loaded = routed_loaded task placed new.state routed;
      kept = routed.kept;
    }

pub returns-in_ok-files_of-in-Routed-clause-outcome : goal.returns-in_ok-files_of-in-Routed-clause-outcome
returns-in_ok-files_of-in-Routed-clause-outcome g c =
    let old = c.args.slot.now in
    let task = task_in old.state old.state.seed old.state.effort in
    let placed = c.requires.placed in
    let new = c.make_steps.new.slot in
    let went = route_leads task old c.requires.slot c.ask.new.slot c.in_ok-refusal.field-0 c.in_ok-refusal.ensures.reply c.in_ok-refusal.ensures.slot in
    let done = routing_done task placed (old.state.generation + 1) (old.state.entries + 1) c.ask.new.slot.id c.ask.new.slot new c.in_ok-last.last went.1 c.in_ok-last.ensures in
    let failure = failure_of (end_value (routing_of task)) in
    let count = old.state.entries + 1 + c.in_ok-last.last.number in
    let none : failure ≡ None = none_failed task placed (old.state.generation + 1) (old.state.entries + 1) count failure (sym (ap (λ (s : SlotState). s.state.name) done.0) ∙ (sym c.state.ensures ∙ c.in-Routed.is)) in
    let routed : HasRouted task new.state = subst (λ (s : SlotState). HasRouted task s.state) (sym done.0) (has_routed task placed (old.state.generation + 1) (old.state.entries + 1) count failure none) in
    routed_files task placed new.state c.in_ok-files_of-in-Routed.field-0 routed none c.in_ok-files_of-in-Routed.ensures

pub returns-in_ok-files_of-in-Routed-clause-figures : goal.returns-in_ok-files_of-in-Routed-clause-figures
returns-in_ok-files_of-in-Routed-clause-figures g c =
    let old = c.args.slot.now in
    let task = task_in old.state old.state.seed old.state.effort in
    let placed = c.requires.placed in
    let new = c.make_steps.new.slot in
    let went = route_leads task old c.requires.slot c.ask.new.slot c.in_ok-refusal.field-0 c.in_ok-refusal.ensures.reply c.in_ok-refusal.ensures.slot in
    let done = routing_done task placed (old.state.generation + 1) (old.state.entries + 1) c.ask.new.slot.id c.ask.new.slot new c.in_ok-last.last went.1 c.in_ok-last.ensures in
    let failure = failure_of (end_value (routing_of task)) in
    let count = old.state.entries + 1 + c.in_ok-last.last.number in
    let none : failure ≡ None = none_failed task placed (old.state.generation + 1) (old.state.entries + 1) count failure (sym (ap (λ (s : SlotState). s.state.name) done.0) ∙ (sym c.state.ensures ∙ c.in-Routed.is)) in
    let routed : HasRouted task new.state = subst (λ (s : SlotState). HasRouted task s.state) (sym done.0) (has_routed task placed (old.state.generation + 1) (old.state.entries + 1) count failure none) in
    let counts = c.requires.counts in
    let figures = c.figures_of-figures.ensures in
    let device = c.requires.window in (
      counts.0,
      counts.1,
      record {
        blocks = share_of c.args.packed.clusters (length (packed_of counts.0 task.arch).clusters) (product c.args.window.now.strip.width c.args.window.now.strip.rows 1) (product task.strip.width task.strip.rows 1)
            c.figures_of-figures.result.blocks figures.blocks counts.2 (ap (λ (b : Basis). product b.strip.width b.strip.rows 1) device);
        pads = share_of c.args.packed.pads (length counts.0.inputs + length counts.0.outputs) (product c.args.window.now.strip.width 2 c.args.window.now.strip.io_rat) (product task.strip.width 2 task.strip.io_rat)
            c.figures_of-figures.result.pads figures.pads counts.3 (ap (λ (b : Basis). product b.strip.width 2 b.strip.io_rat) device);
        nets = figures.nets ∙ counts.4;
        held = c.routed_resources.result.now;
        is_held = record { order = c.routed_resources.ensures.order; exact = λ r. c.routed_resources.ensures.exact r ∙ ap (λ held. has held r) (routed_held task new.state routed) };
        wires_used = ap (λ (s : ResourceUse). s.used) figures.wires;
        wires_there = ap (λ (s : ResourceUse). s.there) figures.wires ∙ ap wires_there device;
        tracks = figures.tracks ∙ ap (λ (b : Basis). b.arch.tracks) device;
        iterations = figures.iterations ∙ done.1;
      },
    )

pub unrouted_of-requires-clause-room : goal.unrouted_of-requires-clause-room
unrouted_of-requires-clause-room g c =
    let old = c.args.slot.now in
    let task = task_in old.state old.state.seed old.state.effort in
    let placed = c.requires.placed in
    let new = c.make_steps.new.slot in
    let went = route_leads task old c.requires.slot c.ask.new.slot c.in_ok-refusal.field-0 c.in_ok-refusal.ensures.reply c.in_ok-refusal.ensures.slot in
    let done = routing_done task placed (old.state.generation + 1) (old.state.entries + 1) c.ask.new.slot.id c.ask.new.slot new c.in_ok-last.last went.1 c.in_ok-last.ensures in
    let failure = failure_of (end_value (routing_of task)) in
    let count = old.state.entries + 1 + c.in_ok-last.last.number in
    omega (arith, ap (λ (s : SlotState). s.state.entries) done.0, c.requires.slot.few, done.2)

pub unrouted_of-requires-clause-ending : goal.unrouted_of-requires-clause-ending
unrouted_of-requires-clause-ending g c =
    let old = c.args.slot.now in
    let task = task_in old.state old.state.seed old.state.effort in
    let placed = c.requires.placed in
    let new = c.make_steps.new.slot in
    let went = route_leads task old c.requires.slot c.ask.new.slot c.in_ok-refusal.field-0 c.in_ok-refusal.ensures.reply c.in_ok-refusal.ensures.slot in
    let done = routing_done task placed (old.state.generation + 1) (old.state.entries + 1) c.ask.new.slot.id c.ask.new.slot new c.in_ok-last.last went.1 c.in_ok-last.ensures in
    let failure = failure_of (end_value (routing_of task)) in
    let count = old.state.entries + 1 + c.in_ok-last.last.number in
    let ended = left_is task placed (old.state.generation + 1) (old.state.entries + 1) count failure refl (λ is. c.in_default.not-Routed (c.state.ensures ∙ (ap (λ (s : SlotState). s.state.name) done.0 ∙ is))) in
    let left : IsLeft new.state ended.0 = subst (λ (s : SlotState). IsLeft s.state ended.0) (sym done.0) ended.1 in
    some_ending _ ended.0.ending left.ending

pub unrouted_of-requires-clause-net : goal.unrouted_of-requires-clause-net
unrouted_of-requires-clause-net g c =
    let old = c.args.slot.now in
    let task = task_in old.state old.state.seed old.state.effort in
    let placed = c.requires.placed in
    let new = c.make_steps.new.slot in
    let went = route_leads task old c.requires.slot c.ask.new.slot c.in_ok-refusal.field-0 c.in_ok-refusal.ensures.reply c.in_ok-refusal.ensures.slot in
    let done = routing_done task placed (old.state.generation + 1) (old.state.entries + 1) c.ask.new.slot.id c.ask.new.slot new c.in_ok-last.last went.1 c.in_ok-last.ensures in
    let failure = failure_of (end_value (routing_of task)) in
    let count = old.state.entries + 1 + c.in_ok-last.last.number in
    let ended = left_is task placed (old.state.generation + 1) (old.state.entries + 1) count failure refl (λ is. c.in_default.not-Routed (c.state.ensures ∙ (ap (λ (s : SlotState). s.state.name) done.0 ∙ is))) in
    let left : IsLeft new.state ended.0 = subst (λ (s : SlotState). IsLeft s.state ended.0) (sym done.0) ended.1 in
    some_text _ ended.0.net left.net

pub unrouted_of-requires-clause-places : goal.unrouted_of-requires-clause-places
unrouted_of-requires-clause-places g c =
    let old = c.args.slot.now in
    let task = task_in old.state old.state.seed old.state.effort in
    let placed = c.requires.placed in
    let new = c.make_steps.new.slot in
    let went = route_leads task old c.requires.slot c.ask.new.slot c.in_ok-refusal.field-0 c.in_ok-refusal.ensures.reply c.in_ok-refusal.ensures.slot in
    let done = routing_done task placed (old.state.generation + 1) (old.state.entries + 1) c.ask.new.slot.id c.ask.new.slot new c.in_ok-last.last went.1 c.in_ok-last.ensures in
    let failure = failure_of (end_value (routing_of task)) in
    let count = old.state.entries + 1 + c.in_ok-last.last.number in
    let ended = left_is task placed (old.state.generation + 1) (old.state.entries + 1) count failure refl (λ is. c.in_default.not-Routed (c.state.ensures ∙ (ap (λ (s : SlotState). s.state.name) done.0 ∙ is))) in
    let left : IsLeft new.state ended.0 = subst (λ (s : SlotState). IsLeft s.state ended.0) (sym done.0) ended.1 in
    some_text _ ended.0.places left.places

pub returns-in_ok-unrouted_of-in_default : goal.returns-in_ok-unrouted_of-in_default
returns-in_ok-unrouted_of-in_default g c =
    let old = c.args.slot.now in
    let task = task_in old.state old.state.seed old.state.effort in
    let placed = c.requires.placed in
    let new = c.make_steps.new.slot in
    let went = route_leads task old c.requires.slot c.ask.new.slot c.in_ok-refusal.field-0 c.in_ok-refusal.ensures.reply c.in_ok-refusal.ensures.slot in
    let done = routing_done task placed (old.state.generation + 1) (old.state.entries + 1) c.ask.new.slot.id c.ask.new.slot new c.in_ok-last.last went.1 c.in_ok-last.ensures in
    let failure = failure_of (end_value (routing_of task)) in
    let count = old.state.entries + 1 + c.in_ok-last.last.number in
    let ended = left_is task placed (old.state.generation + 1) (old.state.entries + 1) count failure refl (λ is. c.in_default.not-Routed (c.state.ensures ∙ (ap (λ (s : SlotState). s.state.name) done.0 ∙ is))) in
    let left : IsLeft new.state ended.0 = subst (λ (s : SlotState). IsLeft s.state ended.0) (sym done.0) ended.1 in
    record { outcome = same_left task new.state ended.0 c.in_ok-unrouted_of-in_default.field-0 left c.in_ok-unrouted_of-in_default.ensures ended.2; figures = tt }
