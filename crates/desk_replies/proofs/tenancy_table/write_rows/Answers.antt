use Rattle.desk_replies.proofs.Prelude.{◌≡◌, ◌∙◌, Some, ap, sym, slice_get, slice_get-get_or, all_loop, part_loop, writes_part, row_text}
use Rattle.desk_replies.proofs.tenancy_table.write_rows.Goals as goal

pub returns-in_err-write_row : goal.returns-in_err-write_row
returns-in_err-write_row g c =
    let here : slice_get c.args.tenancies.now c.loop-uses.uses-index ≡ Some c.uses-item.result = slice_get-get_or _ _ c.uses-item.result c.loop-uses-test.true ∙ ap Some (sym c.uses-item.is) in
    writes_part _ c.from_residual.ensures.0
    (part_loop row_text c.args.tenancies.now c.loop-uses.uses-index c.uses-item.result here c.loop-uses.invariant c.in_err-write_row.ensures)

pub loop-uses-preserved : goal.loop-uses-preserved
loop-uses-preserved g c =
    let here : slice_get c.args.tenancies.now c.loop-uses.uses-index ≡ Some c.uses-item.result = slice_get-get_or _ _ c.uses-item.result c.loop-uses-test.true ∙ ap Some (sym c.uses-item.is) in
    all_loop row_text c.args.tenancies.now c.loop-uses.uses-index c.uses-item.result here c.loop-uses.invariant c.in_ok-write_row.ensures
