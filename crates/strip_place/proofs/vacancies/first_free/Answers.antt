use Rattle.strip_place.proofs.Marks.{searching_all, searching_free, searching_more, searching_none}
use Rattle.strip_place.proofs.vacancies.first_free.Goals as goal

pub loop-site-init : goal.loop-site-init
loop-site-init c = searching_none c.args.marks.now c.args.from c.requires

pub loop-site-preserved : goal.loop-site-preserved
loop-site-preserved c = searching_more c.args.marks.now c.args.from c.loop-site.site _ c.loop-site-test.true c.if-marks-site.true c.loop-site.invariant

pub returns-else-marks-site : goal.returns-else-marks-site
returns-else-marks-site c = searching_free c.args.marks.now c.args.from c.loop-site.site _ c.loop-site-test.true c.if-marks-site.false c.loop-site.invariant

pub returns-after-loop-site : goal.returns-after-loop-site
returns-after-loop-site c = searching_all c.args.marks.now c.args.from c.loop-site.site c.loop-site-test.false c.loop-site.invariant
