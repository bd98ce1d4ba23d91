use Rattle.script_threads.proofs.Prelude.{◌≡◌, length, rules}
use Rattle.script_threads.proofs.LeftLemmas.{all_made, keeps_count, none_made, one_more}
use Rattle.script_threads.proofs.left_jobs.end_jobs.Goals as goal

pub loop-number-init : goal.loop-number-init
loop-number-init c = none_made c.args.graph.now c.args.core.now

pub loop-number-preserved : goal.loop-number-preserved
loop-number-preserved c =
    one_more c.args.graph.now c.args.core.now c.loop-number.core c.end_job.new.core c.loop-number.number c.loop-number.invariant c.end_job.ensures

pub returns-clause-made : goal.returns-clause-made
returns-clause-made c =
    let all : c.loop-number.number ≡ length c.args.core.now.histories = search rules in
    all_made c.args.graph.now c.args.core.now c.loop-number.core c.loop-number.number all c.loop-number.invariant

pub returns-clause-even : goal.returns-clause-even
returns-clause-even c = keeps_count c.args.core.now c.loop-number.core c.args.graph.now c.loop-number.number c.loop-number.invariant
