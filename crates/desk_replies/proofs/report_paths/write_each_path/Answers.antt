use Rattle.desk_replies.proofs.Prelude.{◌≡◌, ◌∙◌, Some, ap, map, sym, slice_get, slice_get-get_or, writes_part, account_now, shown_more, shown_part, ShowsPath}
use Rattle.desk_replies.proofs.PathTexts.{path_unknown}
use Rattle.desk_replies.proofs.report_paths.write_each_path.Goals as goal

pub loop-uses-preserved : goal.loop-uses-preserved
loop-uses-preserved g c =
    let tenancies = c.args.tenancies.now in
    let accounts = map account_now c.args.accounts.now in
    let at = c.loop-uses.uses-index in
    let here : slice_get tenancies at ≡ Some c.uses-item.result = slice_get-get_or _ _ c.uses-item.result c.loop-uses-test.true ∙ ap Some (sym c.uses-item.is) in
    shown_more (ShowsPath c.args.is_row accounts) tenancies at c.uses-item.result _ _ _ here c.loop-uses.invariant c.in_ok-write_one_path.ensures

pub returns-in_err-write_one_path : goal.returns-in_err-write_one_path
returns-in_err-write_one_path g c =
    let tenancies = c.args.tenancies.now in
    let accounts = map account_now c.args.accounts.now in
    let at = c.loop-uses.uses-index in
    let here : slice_get tenancies at ≡ Some c.uses-item.result = slice_get-get_or _ _ c.uses-item.result c.loop-uses-test.true ∙ ap Some (sym c.uses-item.is) in
    let part = shown_part (ShowsPath c.args.is_row accounts) (path_unknown c.args.is_row accounts) tenancies at c.uses-item.result _ _ _ here c.loop-uses.invariant c.in_err-write_one_path.ensures in
    (part.0, part.1, writes_part c.from_residual.result c.from_residual.ensures.0 part.2)
