use Rattle.live_machine.proofs.Prelude.{◌≡◌, ◌∙◌, get_or, Some, None, sym, ap, subst, position, Held, IsSaidText, text_of, with_held, without_name}
use Rattle.live_machine.proofs.NameLemmas.{at_none, at_place, freed_changed, is_of, named_at}
use Rattle.live_machine.proofs.held_names.take_text.Goals as goal

pub returns-in-Some-clause-names : goal.returns-in-Some-clause-names
returns-in-Some-clause-names c =
    let held = c.args.holds.now in
    let name = c.args.name.now in
    let place = c.in-Some.place in
    let old : Held = get_or held place c.index-holds-place.result in
    let same : old ≡ get_or held place old = ap (get_or held place) c.index-holds-place.is in
    let new = c.take_text.new.self in
    let is : position (is_of name) held ≡ Some place = sym c.place_of.ensures ∙ c.in-Some.is in
    let at = at_place held name place is in
    let own : new.name ≡ name = ap (λ (h : Held). h.name) c.take_text.ensures.rest ∙ named_at held name place old at same in
    ap (λ all. without_name all name) (at.changed new own) ∙ subst (λ n. without_name (with_held held new) n ≡ without_name held n) own (freed_changed held new)

pub returns-in-Some-clause-text : goal.returns-in-Some-clause-text
returns-in-Some-clause-text c =
    let held = c.args.holds.now in
    let name = c.args.name.now in
    let place = c.in-Some.place in
    let old : Held = get_or held place c.index-holds-place.result in
    let same : old ≡ get_or held place old = ap (get_or held place) c.index-holds-place.is in
    let is : position (is_of name) held ≡ Some place = sym c.place_of.ensures ∙ c.in-Some.is in
    c.take_text.ensures.text ∙ sym (ap text_of ((at_place held name place is).found old same))

pub returns-in-Some-clause-said : goal.returns-in-Some-clause-said
returns-in-Some-clause-said c =
    let held = c.args.holds.now in
    let name = c.args.name.now in
    let place = c.in-Some.place in
    let old : Held = get_or held place c.index-holds-place.result in
    let same : old ≡ get_or held place old = ap (get_or held place) c.index-holds-place.is in
    let is : position (is_of name) held ≡ Some place = sym c.place_of.ensures ∙ c.in-Some.is in
    subst (λ n. IsSaidText n c.take_text.result) (named_at held name place old (at_place held name place is) same) c.take_text.ensures.said

pub returns-in-None-clause-text : goal.returns-in-None-clause-text
returns-in-None-clause-text c =
    let is : position (is_of c.args.name.now) c.args.holds.now ≡ None = sym c.place_of.ensures ∙ c.in-None.is in
    sym (ap text_of (at_none c.args.holds.now c.args.name.now is))
