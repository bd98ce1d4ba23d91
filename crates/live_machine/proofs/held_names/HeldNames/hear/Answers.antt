use Rattle.live_machine.proofs.Prelude.{◌≡◌, ◌∙◌, List, Some, None, refl, sym, ap, subst, position, set, on_ok_weaker, Held, HearsOf, IsSaidBy, held_of}
use Rattle.live_machine.proofs.NameLemmas.{at_none, at_place, hears_at, is_of, named_at}
use Rattle.live_machine.proofs.held_names.HeldNames.hear.Goals as goal

pub hear-requires : goal.hear-requires
hear-requires c =
    let held = c.self.inside.holds.items in
    let name = c.args.name.now in
    let place = c.in-Some.place in
    let is : position (is_of name) held ≡ Some place = ap (position (is_of name)) (sym c.as_slice.ensures.value) ∙ (sym c.place_of.ensures ∙ c.in-Some.is) in
    subst (λ n. IsSaidBy n c.args.line.now) (sym (named_at held name place c.index_mut.result.now (at_place held name place is) c.index_mut.ensures.value)) c.requires

pub returns-in-Some-clause-ok : goal.returns-in-Some-clause-ok
returns-in-Some-clause-ok c =
    let held = c.self.inside.holds.items in
    let name = c.args.name.now in
    let line = c.args.line.now in
    let place = c.in-Some.place in
    let new = c.hear.new.self in
    let is : position (is_of name) held ≡ Some place = ap (position (is_of name)) (sym c.as_slice.ensures.value) ∙ (sym c.place_of.ensures ∙ c.in-Some.is) in
    on_ok_weaker c.hear.result
    (λ hears. subst (λ (all : List Held). HearsOf (held_of all name) all line (set held place new)) c.self.view_is
    (hears_at held name place c.index_mut.result.now line new (at_place held name place is) c.index_mut.ensures.value c.hear.ensures.name hears))
    c.hear.ensures.ok

pub returns-in-None-clause-ok : goal.returns-in-None-clause-ok
returns-in-None-clause-ok c =
    let held = c.self.inside.holds.items in
    let name = c.args.name.now in
    let line = c.args.line.now in
    let is : position (is_of name) held ≡ None = ap (position (is_of name)) (sym c.as_slice.ensures.value) ∙ (sym c.place_of.ensures ∙ c.in-None.is) in
    subst (λ (all : List Held). HearsOf (held_of all name) all line all) c.self.view_is (subst (λ h. HearsOf h held line held) (sym (at_none held name is)) refl)
