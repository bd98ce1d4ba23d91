use Rattle.live_machine.proofs.Prelude.{◌≡◌, ◌∙◌, List, Some, None, refl, sym, ap, subst, position, set, Held, TakesOf, held_of}
use Rattle.backlog.specs.declared.backlog.Turn.TheVariants.{Nothing}
use Rattle.live_machine.proofs.NameLemmas.{at_none, at_place, is_of, takes_at}
use Rattle.live_machine.proofs.held_names.HeldNames.take.Goals as goal

pub returns-in-Some : goal.returns-in-Some
returns-in-Some c =
    let held = c.self.inside.holds.items in
    let name = c.args.name.now in
    let place = c.in-Some.place in
    let is : position (is_of name) held ≡ Some place = ap (position (is_of name)) (sym c.as_slice.ensures.value) ∙ (sym c.place_of.ensures ∙ c.in-Some.is) in
    subst (λ (all : List Held). TakesOf (held_of all name) all c.take.result (set held place c.take.new.self)) c.self.view_is
    (takes_at held name place c.index_mut.result.now c.take.result c.take.new.self (at_place held name place is) c.index_mut.ensures.value c.take.ensures)

pub returns-in-None : goal.returns-in-None
returns-in-None c =
    let held = c.self.inside.holds.items in
    let name = c.args.name.now in
    let is : position (is_of name) held ≡ None = ap (position (is_of name)) (sym c.as_slice.ensures.value) ∙ (sym c.place_of.ensures ∙ c.in-None.is) in
    subst (λ (all : List Held). TakesOf (held_of all name) all Nothing all) c.self.view_is (subst (λ h. TakesOf h held Nothing held) (sym (at_none held name is)) (refl, refl))
