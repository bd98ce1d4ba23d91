use Rattle.tagged_lines.proofs.Prelude.{◌≡◌, ◌∷◌, rules, physical_lines, writes_part}
use Rattle.tagged_lines.proofs.WritingSteps.{written_all, written_more, written_none, written_part}
use Rattle.tagged_lines.proofs.writing.write_tagged.Goals as goal

pub loop-rest-init : goal.loop-rest-init
loop-rest-init g c = written_none g.W.Sink.contents g.W.Sink.has_failed c.args.sink.now c.args.tag.now c.args.text.now

pub returns-in_err-write_slices : goal.returns-in_err-write_slices
returns-in_err-write_slices g c =
    let lines : physical_lines c.loop-rest.rest.now ≡ c.split_line.result.0.now ∷ physical_lines c.split_line.result.1.now = c.split_line.ensures.lines (search rules) in
    writes_part c.from_residual.result c.from_residual.ensures.0
    (written_part c.args.tag.now c.args.text.now c.loop-rest.rest.now c.split_line.result.0.now c.split_line.result.1.now c.loop-rest.invariant lines c.in_err-write_slices.ensures)

pub loop-rest-preserved : goal.loop-rest-preserved
loop-rest-preserved g c =
    let lines : physical_lines c.loop-rest.rest.now ≡ c.split_line.result.0.now ∷ physical_lines c.split_line.result.1.now = c.split_line.ensures.lines (search rules) in
    written_more c.args.tag.now c.args.text.now c.loop-rest.rest.now c.split_line.result.0.now c.split_line.result.1.now c.loop-rest.invariant lines c.in_ok-write_slices.ensures

pub returns : goal.returns
returns g c = written_all c.args.tag.now c.args.text.now c.loop-rest.rest.now c.loop-rest.invariant (search rules)
