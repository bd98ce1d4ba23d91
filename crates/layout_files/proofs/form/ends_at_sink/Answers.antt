use Rattle.layout_files.proofs.Prelude.{◌∙◌, ◌-◌, Some, ap, length, sym, Node, Source, position-Some, is_sink_kind}
use Rattle.layout_files.proofs.Printing.{last_place, last_test, same_inside}
use Rattle.layout_files.proofs.form.ends_at_sink.Goals as goal

pub returns-in-Some : goal.returns-in-Some
returns-in-Some c =
    let path = c.args.path.now in
    let place = c.in-Some.place in
    let none : Node = record { x = 0; kind = Source; y = 0; n = 0 } in
    let within = (position-Some (λ (node : Node). is_sink_kind node.kind) path place none (sym c.first_sink.ensures ∙ c.in-Some.is)).0 in (
      λ t. sym c.first_sink.ensures ∙ c.in-Some.is ∙ ap Some (last_place place (length path) t),
      λ ends. last_test place (length path) within (same_inside place (length path - 1) (sym c.in-Some.is ∙ c.first_sink.ensures ∙ ends)),
    )
