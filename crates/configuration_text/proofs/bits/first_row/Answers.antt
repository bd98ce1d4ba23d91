use Rattle.configuration_text.proofs.Prelude.{◌∙◌, drop, sym, ap, drop-drop}
use Rattle.configuration_text.proofs.bits.first_row.Goals as goal

pub returns-then-place-len : goal.returns-then-place-len
returns-then-place-len c =
    let netlist = c.args.netlist.now in
    sym (drop-drop 1 c.line_index-place.result netlist) ∙ ap (λ n. drop 1 (drop n netlist)) c.line_index-place.ensures
