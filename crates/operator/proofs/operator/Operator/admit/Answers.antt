use Rattle.operator.proofs.Prelude.{◌≡◌, [], ◌∷◌, codes, length, inl, inr, refl, ap, ◌∙◌, Admit as AdmitCall, live_of, newest_first, admitted_text, last_id, names_after, refused_text}
use Rattle.operator.proofs.OperatorLemmas.{on_err, on_ok, refuses, admits, lengths-admitted}
use Rattle.operator.proofs.operator.Operator.admit.Goals as goal

pub returns-then-is_some-clause-told : goal.returns-then-is_some-clause-told
returns-then-is_some-clause-told c =
    on_ok c.push_refused.result
    (λ appended jobs graph. (
      [],
      refused_text 7 (codes "NameInUse"),
      refuses (live_of c.args.core.now.histories (last_id c.args.self.now c.args.name.now)) c.state.result (record { names = c.args.self.now; jobs = jobs; service = c.args.core.now; graph = graph }) c.args.name.now c.args.width
          (rw (← c.last_id.ensures) c.state.ensures.value) c.if-is_some.ensures,
      appended,
      c.requires,
    ))
    c.push_refused.ensures

pub returns-then-is_some-clause-stands : goal.returns-then-is_some-clause-stands
returns-then-is_some-clause-stands c = on_err c.push_refused.result (λ jobs graph. (inl refl, c.requires))

pub returns-in-Ok-clause-told : goal.returns-in-Ok-clause-told
returns-in-Ok-clause-told c =
    let names : newest_first c.note.new.admitted.items ≡ names_after c.args.self.now c.args.name.now c.admit-answer.result = rw (c.in-Ok.is, c.note.ensures.names, c.reserve-2.ensures.items, ← c.self.view_is) refl in
    on_ok c.push_admitted.result
    (λ appended jobs graph. (
      AdmitCall c.args.width c.admit-answer.result ∷ [],
      admitted_text c.admit-answer.result,
      admits (live_of c.args.core.now.histories (last_id c.args.self.now c.args.name.now)) c.state.result (record { names = c.args.self.now; jobs = jobs; service = c.args.core.now; graph = graph })
          (record { names = newest_first c.note.new.admitted.items; jobs = jobs; service = c.admit-answer.new.self; graph = graph }) c.args.name.now c.args.width c.admit-answer.result
          (rw (← c.last_id.ensures) c.state.ensures.value) c.if-is_some.ensures c.admit-answer.ensures names refl refl,
      appended,
      ap length names ∙ lengths-admitted c.args.core.now c.admit-answer.new.self c.args.width c.admit-answer.result c.args.self.now c.args.name.now c.requires c.admit-answer.ensures,
    ))
    c.push_admitted.ensures

pub returns-in-Ok-clause-stands : goal.returns-in-Ok-clause-stands
returns-in-Ok-clause-stands c =
    let names : newest_first c.note.new.admitted.items ≡ names_after c.args.self.now c.args.name.now c.admit-answer.result = rw (c.in-Ok.is, c.note.ensures.names, c.reserve-2.ensures.items, ← c.self.view_is) refl in
    on_err c.push_admitted.result
    (λ jobs graph. (
      inr (
        AdmitCall c.args.width c.admit-answer.result ∷ [],
        admitted_text c.admit-answer.result,
        admits (live_of c.args.core.now.histories (last_id c.args.self.now c.args.name.now)) c.state.result (record { names = c.args.self.now; jobs = jobs; service = c.args.core.now; graph = graph })
            (record { names = newest_first c.note.new.admitted.items; jobs = jobs; service = c.admit-answer.new.self; graph = graph }) c.args.name.now c.args.width c.admit-answer.result
            (rw (← c.last_id.ensures) c.state.ensures.value) c.if-is_some.ensures c.admit-answer.ensures names refl refl,
      ),
      ap length names ∙ lengths-admitted c.args.core.now c.admit-answer.new.self c.args.width c.admit-answer.result c.args.self.now c.args.name.now c.requires c.admit-answer.ensures,
    ))

pub returns-in-Err-clause-told : goal.returns-in-Err-clause-told
returns-in-Err-clause-told c =
    let names : newest_first c.reserve-2.new.self.items ≡ names_after c.args.self.now c.args.name.now c.admit-answer.result = rw (c.in-Err.is, c.reserve-2.ensures.items, ← c.self.view_is) refl in
    on_ok c.push_admitted-in-Err.result
    (λ appended jobs graph. (
      AdmitCall c.args.width c.admit-answer.result ∷ [],
      admitted_text c.admit-answer.result,
      admits (live_of c.args.core.now.histories (last_id c.args.self.now c.args.name.now)) c.state.result (record { names = c.args.self.now; jobs = jobs; service = c.args.core.now; graph = graph })
          (record { names = newest_first c.reserve-2.new.self.items; jobs = jobs; service = c.admit-answer.new.self; graph = graph }) c.args.name.now c.args.width c.admit-answer.result
          (rw (← c.last_id.ensures) c.state.ensures.value) c.if-is_some.ensures c.admit-answer.ensures names refl refl,
      appended,
      ap length names ∙ lengths-admitted c.args.core.now c.admit-answer.new.self c.args.width c.admit-answer.result c.args.self.now c.args.name.now c.requires c.admit-answer.ensures,
    ))
    c.push_admitted-in-Err.ensures

pub returns-in-Err-clause-stands : goal.returns-in-Err-clause-stands
returns-in-Err-clause-stands c =
    let names : newest_first c.reserve-2.new.self.items ≡ names_after c.args.self.now c.args.name.now c.admit-answer.result = rw (c.in-Err.is, c.reserve-2.ensures.items, ← c.self.view_is) refl in
    on_err c.push_admitted-in-Err.result
    (λ jobs graph. (
      inr (
        AdmitCall c.args.width c.admit-answer.result ∷ [],
        admitted_text c.admit-answer.result,
        admits (live_of c.args.core.now.histories (last_id c.args.self.now c.args.name.now)) c.state.result (record { names = c.args.self.now; jobs = jobs; service = c.args.core.now; graph = graph })
            (record { names = newest_first c.reserve-2.new.self.items; jobs = jobs; service = c.admit-answer.new.self; graph = graph }) c.args.name.now c.args.width c.admit-answer.result
            (rw (← c.last_id.ensures) c.state.ensures.value) c.if-is_some.ensures c.admit-answer.ensures names refl refl,
      ),
      ap length names ∙ lengths-admitted c.args.core.now c.admit-answer.new.self c.args.width c.admit-answer.result c.args.self.now c.args.name.now c.requires c.admit-answer.ensures,
    ))
