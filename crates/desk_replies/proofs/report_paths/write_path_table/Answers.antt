use Rattle.desk_replies.proofs.Prelude.{◌++◌, map, refl, subst, true, part_first, writes_part, writes_then, ShowsEach, each_of, account_now, ShowsPath, path_headings}
use Rattle.desk_replies.proofs.PathTexts.{path_unknown}
use Rattle.desk_replies.proofs.report_paths.write_path_table.Goals as goal

pub returns-in_err-write_path_headings : goal.returns-in_err-write_path_headings
returns-in_err-write_path_headings g c =
    let accounts = map account_now c.args.accounts.now in
    let rows = each_of (ShowsPath true accounts) (path_unknown true accounts) c.args.report.now.tenancies.items in
    (path_headings ++ rows.0, (rows.0, rows.1, refl), writes_part c.from_residual.result c.from_residual.ensures.0 (part_first rows.0 c.in_err-write_path_headings.ensures))

pub returns : goal.returns
returns g c =
    let accounts = map account_now c.args.accounts.now in
    let rows = c.write_each_path.ensures in
    let shown = subst (λ tenancies. ShowsEach (ShowsPath true accounts) tenancies rows.0) c.deref.ensures.value rows.1 in
    (path_headings ++ rows.0, (rows.0, shown, refl), writes_then c.in_ok-write_path_headings.ensures _ _ c.write_each_path.result rows.2)
