use Rattle.live_machine.proofs.Prelude.{◌≡◌, ◌∙◌, Some, None, sym, ap, position, held_of}
use Rattle.live_machine.proofs.NameLemmas.{at_none, at_place, is_of}
use Rattle.live_machine.proofs.held_names.HeldNames.get.Goals as goal

pub returns-in-Some : goal.returns-in-Some
returns-in-Some c =
    let held = c.self.inside.holds.items in
    let name = c.args.name.now in
    let is : position (is_of name) held ≡ Some c.in-Some.place = ap (position (is_of name)) (sym c.as_slice.ensures.value) ∙ (sym c.place_of.ensures ∙ c.in-Some.is) in
    sym ((at_place held name c.in-Some.place is).found c.index.result.now c.index.ensures) ∙ ap (λ all. held_of all name) c.self.view_is

pub returns-in-None : goal.returns-in-None
returns-in-None c =
    let held = c.self.inside.holds.items in
    let name = c.args.name.now in
    let is : position (is_of name) held ≡ None = ap (position (is_of name)) (sym c.as_slice.ensures.value) ∙ (sym c.place_of.ensures ∙ c.in-None.is) in
    sym (at_none held name is) ∙ ap (λ all. held_of all name) c.self.view_is
