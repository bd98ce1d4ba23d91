use Rattle.page.proofs.Prelude.{slice_get-get_or, all_loop, part_loop, writes_part, item_text}
use Rattle.page.proofs.page.write_items.Goals as goal

pub returns-in_err-write_item : goal.returns-in_err-write_item
returns-in_err-write_item g c =
    writes_part _ c.from_residual.ensures.0
    (part_loop item_text c.args.items.now c.loop-item.item-index _ (slice_get-get_or _ _ _ c.loop-item-test.true) c.loop-item.invariant c.in_err-write_item.ensures)

pub loop-item-preserved : goal.loop-item-preserved
loop-item-preserved g c =
    all_loop item_text c.args.items.now c.loop-item.item-index _ (slice_get-get_or _ _ _ c.loop-item-test.true) c.loop-item.invariant c.in_ok-write_item.ensures
