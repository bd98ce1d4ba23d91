use Rattle.desk_layouts.proofs.Prelude.{IfErr-weaker, IfOk-weaker, ForSome}
use Rattle.desk_layouts.proofs.Refusals.{unwritten_or}
use Rattle.desk_layouts.proofs.configure.run.Goals as goal

pub returns-clause-printed : goal.returns-clause-printed
returns-clause-printed g c =
    IfOk-weaker c.print_checked.result _ _ (λ done h. (
      h.0,
      record { given = c.in_ok-given.given; read = c.in_ok-given.ensures.read; configuration = h.1 },
      h.2,
    )) c.print_checked.ensures.printed

pub returns-clause-failed : goal.returns-clause-failed
returns-clause-failed g c =
    let fails = g.F.FileTexts.fails c.args.files.now in
    let written = ForSome c.args.wishes.verilog (λ path. fails path.now) in
    let text = g.F.FileTexts.text c.args.files.now in
    let failed = g.W.Sink.has_failed c.print_checked.new.writer in
    IfErr-weaker c.print_checked.result _ _ (unwritten_or fails written text failed c.args.wishes.paths c.in_ok-given.given c.in_ok-given.ensures.read) c.print_checked.ensures.failed
