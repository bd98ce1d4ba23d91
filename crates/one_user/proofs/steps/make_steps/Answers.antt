use Rattle.one_user.proofs.Prelude.{sym, ap, subst, ◌∙◌, arith, IsSome, kind_that_runs, SlotState, device_of}
use Rattle.one_user.proofs.Running.{first_state, step_ends, step_goes_on}
use Rattle.one_user.proofs.steps.make_steps.Goals as goal

pub loop-step-init : goal.loop-step-init
loop-step-init g c = record { is = first_state c.args.slot.now c.requires.here c.requires.first; few = omega arith }

pub make_step-requires : goal.make_step-requires
make_step-requires g c =
    record {
      runs = subst (λ (s : SlotState). IsSome (kind_that_runs s.state.name)) (sym c.loop-step.invariant.is) c.requires.runs;
      here = ap (λ (s : SlotState). s.here) c.loop-step.invariant.is;
      room = omega (arith, ap (λ (s : SlotState). s.state.entries) c.loop-step.invariant.is, c.loop-step.invariant.few, c.requires.room);
      window = c.requires.window ∙ ap (λ (s : SlotState). device_of s.state) (sym c.loop-step.invariant.is);
    }

pub returns-in-Finished : goal.returns-in-Finished
returns-in-Finished g c =
    step_ends c.args.slot.now c.loop-step.slot c.make_step.new.slot c.loop-step._step c.in_ok-made.made c.loop-step.invariant.is c.in_ok-made.ensures c.in-Finished.is

pub loop-step-preserved : goal.loop-step-preserved
loop-step-preserved g c =
    let goes = step_goes_on c.args.slot.now c.loop-step.slot c.make_step.new.slot c.loop-step._step c.in_ok-made.made c.requires.runs c.loop-step.invariant.is c.in_ok-made.ensures c.in_default.not-Finished in
    record { is = goes.0; few = goes.1 }
