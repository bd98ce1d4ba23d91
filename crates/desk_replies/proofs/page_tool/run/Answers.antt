use Rattle.desk_replies.proofs.Prelude.{refl, subst, sym, AreLines, true, ◌-◌, ◌^◌, IsBeginning}
use Rattle.desk_replies.proofs.PageLemmas.{page_shown}
use Rattle.desk_replies.proofs.page_tool.run.Goals as goal

pub returns-in_default : goal.returns-in_default
returns-in_default g c =
    let text = g.F.FileTexts.text c.args.files.now in
    page_shown g.W.Sink.contents g.W.Sink.has_failed _ _ text (g.R.Source.remaining c.args.reader.now) c.args.wishes c.in_ok-script.script.items c.lines_of-lines.result c.print.result c.in_ok-script.ensures.read c.print.ensures
    (rw c.in_default.is (subst (λ script. AreLines true script c.lines_of-lines.result) c.as_slice.ensures.value c.lines_of-lines.ensures))

pub returns : goal.returns
returns g c =
    let text = g.F.FileTexts.text c.args.files.now in
    let arch = subst (λ bytes. IsBeginning (text c.in-Some.path.now) (2 ^ 64 - 1) bytes) (sym c.as_slice-3.ensures.value) c.in_ok-arch.ensures.read in
    page_shown g.W.Sink.contents g.W.Sink.has_failed _ _ text (g.R.Source.remaining c.args.reader.now) c.args.wishes c.in_ok-script.script.items _ c.print-2.result c.in_ok-script.ensures.read c.print-2.ensures (rw c.in-Some.is (arch, c.as_slice-2.ensures.value, refl))
