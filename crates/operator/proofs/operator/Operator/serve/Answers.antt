use Rattle.operator.proofs.Prelude.{ℕ, ◌≡◌, [], ◌∷◌, ◌++◌, None, inl, inr, refl, sym, ap, subst, ◌∙◌, Evict as EvictCall, Move as MoveCall, Owners as OwnersCall, Take, owners_text, evicted_text, list_text, moved_text, outcome_text, taken_text, sink_text, Holds, tried_calls, tried_text}
use Rattle.operator.proofs.OperatorLemmas.{on_err, on_err_more, on_ok, lengths-evicted, lengths-moved, evicts, moves}
use Rattle.operator.proofs.Stepping.{lengths-run, steady_held, steady_take}
use Rattle.operator.proofs.operator.Operator.serve.Goals as goal

pub returns-in-Evict-clause-told : goal.returns-in-Evict-clause-told
returns-in-Evict-clause-told c =
    rw c.in-Evict.is
    (on_ok c.push_evicted.result
    (λ appended. (
      EvictCall c.last_id.result c.evict-answer.result ∷ [],
      evicted_text c.evict-answer.result,
      evicts c.args.self.now c.args.jobs.now c.args.graph.now c.args.core.now c.evict-answer.new.self c.in-Evict.name.now c.last_id.result c.evict-answer.result c.last_id.ensures c.evict-answer.ensures,
      appended,
      c.requires ∙ lengths-evicted c.args.core.now c.evict-answer.new.self c.last_id.result c.evict-answer.result c.evict-answer.ensures,
    ))
    c.push_evicted.ensures)

pub returns-in-Move-clause-told : goal.returns-in-Move-clause-told
returns-in-Move-clause-told c =
    rw c.in-Move.is
    (on_ok c.push_moved.result
    (λ appended. (
      MoveCall c.last_id-in-Move.result c.in-Move.offset c.move_strip-answer.result ∷ [],
      moved_text c.in-Move.offset c.move_strip-answer.result,
      moves c.args.self.now c.args.jobs.now c.args.graph.now c.args.core.now c.move_strip-answer.new.self c.in-Move.name.now c.last_id-in-Move.result c.in-Move.offset c.move_strip-answer.result c.last_id-in-Move.ensures c.move_strip-answer.ensures,
      appended,
      c.requires ∙ lengths-moved c.args.core.now c.move_strip-answer.new.self c.last_id-in-Move.result c.in-Move.offset c.move_strip-answer.result c.move_strip-answer.ensures,
    ))
    c.push_moved.ensures)

pub returns-in-List-clause-told : goal.returns-in-List-clause-told
returns-in-List-clause-told c =
    rw c.in-List.is
    (on_ok c.list.result (λ appended. ([], list_text c.args.core.now c.args.self.now, (refl, refl, refl), appended, c.requires)) c.list.ensures)

pub returns-in_ok-owners-in-Owners-clause-told : goal.returns-in_ok-owners-in-Owners-clause-told
returns-in_ok-owners-in-Owners-clause-told c =
    let owners = c.in_ok-owners-in-Owners.owners.items in
    let told : owners_text c.rows.result c.as_slice.result.now ≡ owners_text c.args.core.now.device.rows owners = rw (c.rows.ensures.value, c.as_slice.ensures.value) refl in
    rw c.in-Owners.is
    (on_ok c.push_owners.result
    (λ appended. (
      OwnersCall owners ∷ [],
      owners_text c.args.core.now.device.rows owners,
      (owners, c.in_ok-owners-in-Owners.ensures.value, refl, refl, refl),
      appended ∙ ap (λ t. sink_text c.args.reply.now ++ t) told,
      c.requires,
    ))
    c.push_owners.ensures)

pub returns-in-Admit-clause-told : goal.returns-in-Admit-clause-told
returns-in-Admit-clause-told c = rw c.in-Admit.is (on_ok c.admit.result (λ admits. admits c.args.jobs.now c.args.graph.now) c.admit.ensures.told)

pub returns-in-Step-clause-told : goal.returns-in-Step-clause-told
returns-in-Step-clause-told c =
    rw c.in-Step.is
    (on_ok c.step.result
    (λ s. (
      tried_calls s.tries.tried,
      tried_text s.tries.tried,
      (s.tries.tried, s.tries.counted, rw (← c.last_id-in-Step.ensures) s.tries.makes, s.tries.runs, refl, refl, refl, refl, refl, s.tries.fits),
      s.told,
      c.requires ∙ sym s.tries.even,
    ))
    c.step.ensures.told)

pub returns-in-Put-clause-told : goal.returns-in-Put-clause-told
returns-in-Put-clause-told c =
    let put = c.put-outcome.ensures.put in
    rw c.in-Put.is
    (on_ok c.push_outcome.result
    (λ appended. (
      put.0,
      outcome_text c.put-outcome.result,
      (c.put-outcome.result, put.1, put.2, refl, c.put-outcome.ensures.jobs, refl, refl, c.put-outcome.ensures.fits),
      appended,
      c.requires ∙ lengths-run c.args.core.now c.put-outcome.new.core put.0 (steady_held _ put.0 c.put-outcome.result put.1) put.2,
    ))
    c.push_outcome.ensures)

pub returns-in_ok-number-in-Take-clause-told : goal.returns-in_ok-number-in-Take-clause-told
returns-in_ok-number-in-Take-clause-told c =
    let new = c.take.new.core in
    let taken = c.in_ok-number-in-Take.ensures.taken in
    rw c.in-Take.is
    (on_ok c.push_taken.result
    (λ appended. (
      taken.1,
      taken_text c.in_ok-number-in-Take.number,
      (
        taken.0,
        (let P : ℕ → Type 0 = λ n. Holds n taken.0 taken.1 in subst P c.last_id-in-Take.ensures taken.2),
        taken.3,
        refl,
        taken.4,
        ap taken_text taken.5,
        refl,
        λ own none. taken.6 own none ∙ ap (λ n. Take n None ∷ []) c.last_id-in-Take.ensures,
      ),
      appended,
      c.requires ∙ lengths-run c.args.core.now new taken.1 (steady_take c.last_id-in-Take.result taken.0 taken.1 taken.2) taken.3,
    ))
    c.push_taken.ensures)

-- if memory runs out
pub returns-in-Evict-clause-stands : goal.returns-in-Evict-clause-stands
returns-in-Evict-clause-stands c =
    rw c.in-Evict.is
    (on_err c.push_evicted.result (
      inr (
        EvictCall c.last_id.result c.evict-answer.result ∷ [],
        evicted_text c.evict-answer.result,
        evicts c.args.self.now c.args.jobs.now c.args.graph.now c.args.core.now c.evict-answer.new.self c.in-Evict.name.now c.last_id.result c.evict-answer.result c.last_id.ensures c.evict-answer.ensures,
      ),
      c.requires ∙ lengths-evicted c.args.core.now c.evict-answer.new.self c.last_id.result c.evict-answer.result c.evict-answer.ensures,
    ))

pub returns-in-Move-clause-stands : goal.returns-in-Move-clause-stands
returns-in-Move-clause-stands c =
    rw c.in-Move.is
    (on_err c.push_moved.result (
      inr (
        MoveCall c.last_id-in-Move.result c.in-Move.offset c.move_strip-answer.result ∷ [],
        moved_text c.in-Move.offset c.move_strip-answer.result,
        moves c.args.self.now c.args.jobs.now c.args.graph.now c.args.core.now c.move_strip-answer.new.self c.in-Move.name.now c.last_id-in-Move.result c.in-Move.offset c.move_strip-answer.result c.last_id-in-Move.ensures c.move_strip-answer.ensures,
      ),
      c.requires ∙ lengths-moved c.args.core.now c.move_strip-answer.new.self c.last_id-in-Move.result c.in-Move.offset c.move_strip-answer.result c.move_strip-answer.ensures,
    ))

pub returns-in-List-clause-stands : goal.returns-in-List-clause-stands
returns-in-List-clause-stands c = rw c.in-List.is (on_err c.list.result (inl refl, c.requires))

pub returns-in_ok-owners-in-Owners-clause-stands : goal.returns-in_ok-owners-in-Owners-clause-stands
returns-in_ok-owners-in-Owners-clause-stands c = rw c.in-Owners.is (on_err c.push_owners.result (inl refl, c.requires))

pub returns-in_err-owners-in-Owners-clause-stands : goal.returns-in_err-owners-in-Owners-clause-stands
returns-in_err-owners-in-Owners-clause-stands c = rw c.in-Owners.is (on_err c.from_residual.result (inl refl, c.requires))

pub returns-in-Admit-clause-stands : goal.returns-in-Admit-clause-stands
returns-in-Admit-clause-stands c = rw c.in-Admit.is (on_err_more c.admit.result (λ stands. stands c.args.jobs.now c.args.graph.now) c.admit.ensures.stands)

pub returns-in-Step-clause-stands : goal.returns-in-Step-clause-stands
returns-in-Step-clause-stands c =
    rw c.in-Step.is
    (on_err_more c.step.result
    (λ some.
    let tries = some.2 in (
      (
        some.0,
        some.1,
        tried_calls tries.tried,
        tried_text tries.tried,
        (tries.tried, tries.counted, rw (← c.last_id-in-Step.ensures) tries.makes, tries.runs, refl, refl, refl, refl, refl, tries.fits),
      ),
      c.requires ∙ sym tries.even,
    ))
    c.step.ensures.stands)

pub returns-in-Put-clause-stands : goal.returns-in-Put-clause-stands
returns-in-Put-clause-stands c =
    let put = c.put-outcome.ensures.put in
    rw c.in-Put.is
    (on_err c.push_outcome.result (
      inr (put.0, outcome_text c.put-outcome.result, (c.put-outcome.result, put.1, put.2, refl, c.put-outcome.ensures.jobs, refl, refl, c.put-outcome.ensures.fits)),
      c.requires ∙ lengths-run c.args.core.now c.put-outcome.new.core put.0 (steady_held _ put.0 c.put-outcome.result put.1) put.2,
    ))

pub returns-in_ok-number-in-Take-clause-stands : goal.returns-in_ok-number-in-Take-clause-stands
returns-in_ok-number-in-Take-clause-stands c =
    let new = c.take.new.core in
    let taken = c.in_ok-number-in-Take.ensures.taken in
    rw c.in-Take.is
    (on_err c.push_taken.result (
      inr (
        taken.1,
        taken_text c.in_ok-number-in-Take.number,
        (
          taken.0,
          (let P : ℕ → Type 0 = λ n. Holds n taken.0 taken.1 in subst P c.last_id-in-Take.ensures taken.2),
          taken.3,
          refl,
          taken.4,
          ap taken_text taken.5,
          refl,
          λ own none. taken.6 own none ∙ ap (λ n. Take n None ∷ []) c.last_id-in-Take.ensures,
        ),
      ),
      c.requires ∙ lengths-run c.args.core.now new taken.1 (steady_take c.last_id-in-Take.result taken.0 taken.1 taken.2) taken.3,
    ))

pub returns-in_err-number-in-Take-clause-stands : goal.returns-in_err-number-in-Take-clause-stands
returns-in_err-number-in-Take-clause-stands c =
    let same = c.in_err-number-in-Take.ensures.stands in
    rw (c.in-Take.is, same.0, same.1) (on_err c.from_residual-in_err-number-in-Take.result (inl refl, c.requires))
