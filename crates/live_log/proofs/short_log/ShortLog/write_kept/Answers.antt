use Rattle.live_log.proofs.Prelude.{◌≡◌, ◌∷◌, rules, physical_lines, writes_part}
use Rattle.live_log.proofs.WritingSteps.{written_all, written_more, written_part}
use Rattle.live_log.proofs.short_log.ShortLog.write_kept.Goals as goal

pub returns-in_err-write_line : goal.returns-in_err-write_line
returns-in_err-write_line g c =
    let first : c.loop-rest.marks.now ≡ c.in-Some.kept.now ∷ c.in-Some.others.now = c.in-Some.ensures.cases.0 in
    let lines : physical_lines c.loop-rest.rest.now ≡ c.split_line.result.0.now ∷ physical_lines c.split_line.result.1.now = c.split_line.ensures.lines (search rules) in
    writes_part c.from_residual.result c.from_residual.ensures.0
    (written_part c.in-Some.kept.now c.loop-rest.marks.now c.in-Some.others.now c.loop-rest.rest.now c.split_line.result.0.now c.split_line.result.1.now c.loop-rest.invariant first lines c.in_err-write_line.ensures)

pub loop-rest-preserved : goal.loop-rest-preserved
loop-rest-preserved g c =
    let first : c.loop-rest.marks.now ≡ c.in-Some.kept.now ∷ c.in-Some.others.now = c.in-Some.ensures.cases.0 in
    let lines : physical_lines c.loop-rest.rest.now ≡ c.split_line.result.0.now ∷ physical_lines c.split_line.result.1.now = c.split_line.ensures.lines (search rules) in
    written_more c.in-Some.kept.now c.loop-rest.marks.now c.in-Some.others.now c.loop-rest.rest.now c.split_line.result.0.now c.split_line.result.1.now c.loop-rest.invariant first lines c.in_ok-write_line.ensures

pub returns : goal.returns
returns g c = written_all c.loop-rest.marks.now c.loop-rest.rest.now c.loop-rest.invariant (search rules)
