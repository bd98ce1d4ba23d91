use Rattle.one_user.proofs.Prelude.{◌≡◌, ◌∙◌, Some, ap, sym, slice_get, slice_get-get_or, all_loop, part_loop, writes_part, crowded_line}
use Rattle.one_user.proofs.crowding_text.write_nodes.Goals as goal

pub returns-in_err-write_crowded : goal.returns-in_err-write_crowded
returns-in_err-write_crowded g c =
    let here : slice_get c.args.nodes.now c.loop-crowded.crowded-index ≡ Some c.crowded-item.result = slice_get-get_or _ _ c.crowded-item.result c.loop-crowded-test.true ∙ ap Some (sym c.crowded-item.is) in
    writes_part _ c.from_residual.ensures.0
    (part_loop (crowded_line c.args.crowding.now.packed c.args.crowding.now.rows) c.args.nodes.now c.loop-crowded.crowded-index c.crowded-item.result here c.loop-crowded.invariant c.in_err-write_crowded.ensures)

pub loop-crowded-preserved : goal.loop-crowded-preserved
loop-crowded-preserved g c =
    let here : slice_get c.args.nodes.now c.loop-crowded.crowded-index ≡ Some c.crowded-item.result = slice_get-get_or _ _ c.crowded-item.result c.loop-crowded-test.true ∙ ap Some (sym c.crowded-item.is) in
    all_loop (crowded_line c.args.crowding.now.packed c.args.crowding.now.rows) c.args.nodes.now c.loop-crowded.crowded-index c.crowded-item.result here c.loop-crowded.invariant c.in_ok-write_crowded.ensures
