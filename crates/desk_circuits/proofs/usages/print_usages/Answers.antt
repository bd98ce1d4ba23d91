use Rattle.desk_circuits.proofs.Prelude.{◌++◌, map, refl, part_first, writes_part, writes_then, account_now, ShowsUsage, usage_headings}
use Rattle.desk_circuits.proofs.Shown.{each_of, usage_unknown}
use Rattle.desk_circuits.proofs.usages.print_usages.Goals as goal

pub returns-in_err-write_headings : goal.returns-in_err-write_headings
returns-in_err-write_headings g c =
    let is_table = c.args.is_table in
    let lines = each_of (ShowsUsage is_table) (usage_unknown is_table) (map account_now c.args.accounts.now) in
    (usage_headings is_table ++ lines.0, (lines.0, lines.1, refl), writes_part c.from_residual.result c.from_residual.ensures.0 (part_first lines.0 c.in_err-write_headings.ensures))

pub returns : goal.returns
returns g c =
    let lines = c.write_usages.ensures in
    (usage_headings c.args.is_table ++ lines.0, (lines.0, lines.1, refl), writes_then c.in_ok-write_headings.ensures _ _ c.write_usages.result lines.2)
