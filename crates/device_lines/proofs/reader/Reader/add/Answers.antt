use Rattle.device_lines.proofs.Prelude.{◌∙◌, ap, sym, [], ◌∷◌, map, map-append, owned_node, seen_of}
use Rattle.device_lines.proofs.StepLemmas.{is_added, is_disordered}
use Rattle.device_lines.proofs.reader.Reader.add.Goals as goal

pub returns-then-not-goes_on_with : goal.returns-then-not-goes_on_with
returns-then-not-goes_on_with c =
    is_disordered (seen_of c.args.self.now) c.args.rest (owned_node c.args.owned) (sym c.if-not-goes_on_with.true ∙ c.goes_on_with.ensures)

pub returns-in-Ok : goal.returns-in-Ok
returns-in-Ok c =
    is_added (seen_of c.args.self.now) c.args.rest (owned_node c.args.owned) _ (sym c.if-not-goes_on_with.false ∙ c.goes_on_with.ensures)
    (sym (map-append owned_node c.args.self.now.device.owned.items (c.args.owned ∷ [])) ∙ ap (map owned_node) (sym c.in-Ok.ensures.items))
