use Rattle.layout_files.proofs.Prelude.{◌∙◌, refl}
use Rattle.layout_files.proofs.Finding.{same_layout}
use Rattle.layout_files.proofs.finder.find_layout.Goals as goal

pub returns : goal.returns
returns c = λ layout names fits print.
    let circuit = c.args.circuit.now in
    let arch = c.args.arch.now in
    let same = c.in_ok-add_names.ensures names.once in
    let places = c.in_ok-places.ensures circuit arch layout names fits print.places in
    let packing = c.in_ok-globals.ensures circuit arch layout same refl names fits print.form (c.deref.ensures.value ∙ places) print.packing in
    let nets = c.in_ok-nets.ensures circuit arch layout same names fits print.form print.routes in
    c.new.ensures ∙ same_layout layout _ _ _ packing.0 packing.1 nets
