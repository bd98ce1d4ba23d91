use Rattle.std.proofs.Common.{Bool, None, ap, refl, subst, sym, ◌∙◌}
use Rattle.shared_core.specs.CoreState.{CoreState, ready_number}
use Rattle.worker_pool.specs.Turns.{Marks, MarksUnless, with_service}
use Rattle.worker_pool.proofs.turns.give_back.Goals as goal

pub returns-then-is_last_try : goal.returns-then-is_last_try
returns-then-is_last_try g c =
    let after = c.give_back.new.self in
    let P : Bool → Type 0 = λ last. MarksUnless last (with_service c.args.core.now after.service) c.args.back.step.id None after in (
      after.service,
      c.give_back.ensures.back,
      subst P (sym (sym c.is_last_try.ensures ∙ c.if-is_last_try.true)) (refl, c.give_back.ensures.rest),
    )

pub returns-else-is_last_try : goal.returns-else-is_last_try
returns-else-is_last_try g c =
    let after = c.give_back.new.self in
    let P : Bool → Type 0 = λ last. MarksUnless last (with_service c.args.core.now after.service) c.args.back.step.id c.mark_ready-again.result c.mark_ready-again.new.self in
    let Q : CoreState → Type 0 = λ core. Marks core c.args.back.step.id c.mark_ready-again.result c.mark_ready-again.new.self in (
      after.service,
      c.give_back.ensures.back,
      subst P (sym (sym c.is_last_try.ensures ∙ c.if-is_last_try.false)) (
          subst Q c.give_back.ensures.rest (
            c.mark_ready-again.ensures.value ∙ ap (λ id. ready_number after id) c.id-id.ensures,
            c.mark_ready-again.ensures.core,
          )
          ),
    )
