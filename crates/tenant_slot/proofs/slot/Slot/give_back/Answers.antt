use Rattle.tenant_slot.proofs.Prelude.{◌≡◌, Some, true, false, refl, sym, ap, ◌∙◌, IsAdvanceOf, SlotState, next_job, is_next, slot_state, seen_state}
use Rattle.tenant_slot.proofs.Taking.{is_back, is_given_back, is_not_back, is_stood, written_of}
use Rattle.tenant_slot.proofs.slot.Slot.give_back.Goals as goal

-- the step is the running job's next one
next : (c : goal.After-stand_ready) → next_job (slot_state c.self.inside.id c.self.inside.arch c.self.inside.strip c.self.inside.standing c.self.inside.entries) ≡ Some c.args.back.step
next c =
    let said : IsAdvanceOf (seen_state c.self.inside.arch c.self.inside.strip c.self.inside.standing c.self.inside.entries) c.args.back.step c.advance_of-made.result =
    rw (ap (λ (s : SlotState). s.state) c.self.view_is) (written_of c.args.self.now.state c.args.back.step c.args.self.now.id c.generation.result c.number.result c.sources.result.now c.advance_of-made.result c.generation.ensures c.number.ensures c.sources.ensures c.advance_of-made.ensures) in
    let own : c.args.back.step.id ≡ c.self.inside.id = c.requires ∙ sym (ap (λ (s : SlotState). s.id) c.self.view_is) in
    let runs : is_next (seen_state c.self.inside.arch c.self.inside.strip c.self.inside.standing c.self.inside.entries) c.advance_of-made.result ≡ true =
    ap (λ (s : SlotState). is_next s.state c.advance_of-made.result) c.self.view_is ∙ (sym c.is_next-runs.ensures ∙ c.if-runs.true) in
    is_back c.self.inside.id c.self.inside.arch c.self.inside.strip c.self.inside.standing c.self.inside.entries c.args.back.step c.advance_of-made.result c.self.invariant own said runs

pub invariant_of-self : goal.invariant_of-self
invariant_of-self c =
    rw (c.stand_ready.ensures, c.park-job.ensures) (is_stood c.self.inside.id c.self.inside.arch c.self.inside.strip c.self.inside.standing c.self.inside.entries c.args.back c.self.invariant (next c))

pub returns-then-runs : goal.returns-then-runs
returns-then-runs c = rw (c.stand_ready.ensures, c.park-job.ensures) (is_given_back c.self.inside.id c.self.inside.arch c.self.inside.strip c.self.inside.standing c.self.inside.entries c.args.self.now c.args.back c.self.view_is (next c))

pub returns-else-runs : goal.returns-else-runs
returns-else-runs c =
    let said : IsAdvanceOf (seen_state c.self.inside.arch c.self.inside.strip c.self.inside.standing c.self.inside.entries) c.args.back.step c.advance_of-made.result =
    rw (ap (λ (s : SlotState). s.state) c.self.view_is) (written_of c.args.self.now.state c.args.back.step c.args.self.now.id c.generation.result c.number.result c.sources.result.now c.advance_of-made.result c.generation.ensures c.number.ensures c.sources.ensures c.advance_of-made.ensures) in
    let stays : is_next (seen_state c.self.inside.arch c.self.inside.strip c.self.inside.standing c.self.inside.entries) c.advance_of-made.result ≡ false =
    ap (λ (s : SlotState). is_next s.state c.advance_of-made.result) c.self.view_is ∙ (sym c.is_next-runs.ensures ∙ c.if-runs.false) in
    let other = is_not_back c.self.inside.id c.self.inside.arch c.self.inside.strip c.self.inside.standing c.self.inside.entries c.args.back.step c.advance_of-made.result c.self.invariant said stays in
    record {
      only_here = refl;
      ready = λ is. absurd (other (ap next_job c.self.view_is ∙ is));
      dropped = λ not_next. refl;
    }
