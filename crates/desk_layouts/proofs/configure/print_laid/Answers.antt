use Rattle.desk_layouts.proofs.Prelude.{IfOk-weaker}
use Rattle.desk_layouts.proofs.configure.print_laid.Goals as goal

pub returns-in-Ok-clause-printed : goal.returns-in-Ok-clause-printed
returns-in-Ok-clause-printed g c =
    let laid = c.args.laid.now in
    let lines = c.in-Ok.lines in
    let laws = c.laws_of_configurations.ensures in
    IfOk-weaker c.print_lines.result _ _ (λ done taken. (
      lines,
      c.in-Ok.ensures.gives,
      record {
        connects = laws.connects lines laid.circuit laid.arch laid.strip laid.layout c.requires.strip c.requires.implemented;
        one_driver = laws.one_driver lines laid.circuit laid.arch laid.strip laid.layout c.requires.implemented;
        apart = laws.apart laid.circuit laid.arch laid.strip laid.layout c.requires.strip c.requires.implemented;
        values = c.values_are_rows.ensures lines laid.circuit laid.arch laid.strip laid.layout c.requires.circuit c.requires.implemented;
      },
      taken,
    )) c.print_lines.ensures.printed
