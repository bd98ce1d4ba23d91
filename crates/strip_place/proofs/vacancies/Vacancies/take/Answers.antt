use Rattle.strip_place.proofs.Prelude.{◌≡◌, ◌<◌, ◌∙◌, Bool, List, length, ap, arith, subst, sym, Vacancies, first_from, lowest_vacant}
use Rattle.strip_place.proofs.vacancies.Vacancies.take.Goals as goal

pub index_mut-requires : goal.index_mut-requires
index_mut-requires c =
    let seen = subst (λ (v : Vacancies). lowest_vacant v c.args.kind < length v.marks) (sym c.self.view_is) c.requires in
    let logic = rw c.in-Logic.is at seen in
    let site : c.first_free-site.result ≡ first_from c.self.inside.marks.items c.self.inside.logic = c.first_free-site.ensures ∙ ap (λ (marks : List Bool). first_from marks c.self.inside.logic) c.as_slice.ensures.value in
    omega (arith, logic, site, c.as_slice.ensures.len, ap (λ (marks : List Bool). length marks) c.as_slice.ensures.value)

pub overflow_cast-result : goal.overflow_cast-result
overflow_cast-result c =
    let seen = subst (λ (v : Vacancies). lowest_vacant v c.args.kind < length v.marks) (sym c.self.view_is) c.requires in
    let logic = rw c.in-Logic.is at seen in
    let site : c.first_free-site.result ≡ first_from c.self.inside.marks.items c.self.inside.logic = c.first_free-site.ensures ∙ ap (λ (marks : List Bool). first_from marks c.self.inside.logic) c.as_slice.ensures.value in
    omega (arith, logic, site, c.self.invariant.few)

pub index_mut-requires-in-Pad : goal.index_mut-requires-in-Pad
index_mut-requires-in-Pad c =
    let seen = subst (λ (v : Vacancies). lowest_vacant v c.args.kind < length v.marks) (sym c.self.view_is) c.requires in
    let pads = rw c.in-Pad.is at seen in
    let site : c.first_free-site-in-Pad.result ≡ first_from c.self.inside.marks.items c.self.inside.pads = c.first_free-site-in-Pad.ensures ∙ ap (λ (marks : List Bool). first_from marks c.self.inside.pads) c.as_slice-in-Pad.ensures.value in
    omega (arith, pads, site, c.as_slice-in-Pad.ensures.len, ap (λ (marks : List Bool). length marks) c.as_slice-in-Pad.ensures.value)

pub overflow_cast-result-in-Pad : goal.overflow_cast-result-in-Pad
overflow_cast-result-in-Pad c =
    let seen = subst (λ (v : Vacancies). lowest_vacant v c.args.kind < length v.marks) (sym c.self.view_is) c.requires in
    let pads = rw c.in-Pad.is at seen in
    let site : c.first_free-site-in-Pad.result ≡ first_from c.self.inside.marks.items c.self.inside.pads = c.first_free-site-in-Pad.ensures ∙ ap (λ (marks : List Bool). first_from marks c.self.inside.pads) c.as_slice-in-Pad.ensures.value in
    omega (arith, pads, site, c.self.invariant.few)

pub returns-in-Logic-clause-taken : goal.returns-in-Logic-clause-taken
returns-in-Logic-clause-taken c = rw (c.in-Logic.is, ← c.self.view_is, c.first_free-site.ensures, c.as_slice.ensures.value)

pub returns-in-Pad-clause-taken : goal.returns-in-Pad-clause-taken
returns-in-Pad-clause-taken c = rw (c.in-Pad.is, ← c.self.view_is, c.first_free-site-in-Pad.ensures, c.as_slice-in-Pad.ensures.value)
