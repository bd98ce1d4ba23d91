use Rattle.layout_check.proofs.Prelude.{◌∙◌, ap, flat_map, map, subst, MatchOption, traced_ble, AreBlesOf, IsHeldFault, IfOk}
use Rattle.layout_check.proofs.held.check_traced.Goals as goal

pub returns : goal.returns
returns c =
    let are = c.as_slice-3.ensures.value ∙ c.in_ok-elements.ensures ∙ ap (λ arch. flat_map (λ block. map (traced_ble arch block) block.bles) c.blocks-2.result.now) c.arch.ensures
    ∙ ap (λ blocks. flat_map (λ block. map (traced_ble c.args.graph.now.arch block) block.bles) blocks) c.blocks-2.ensures in
    subst (λ es. IfOk c.check_elements.result (λ fault. MatchOption fault (AreBlesOf c.args.circuit.now es) (IsHeldFault c.args.circuit.now es))) are c.check_elements.ensures
