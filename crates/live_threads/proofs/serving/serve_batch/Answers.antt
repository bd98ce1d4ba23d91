use Rattle.live_threads.proofs.Prelude.{◌<◌, length, rules}
use Rattle.live_threads.proofs.LineLemmas.{first_is_line, line_left}
use Rattle.live_threads.proofs.ServedLemmas.{on_err, some_line, some_more, some_stopped, some_stops}
use Rattle.live_threads.proofs.serving.serve_batch.Goals as goal

pub line-requires-clause-is_line : goal.line-requires-clause-is_line
line-requires-clause-is_line g c =
    let some : 0 < length c.loop-rest.rest.now = search rules in
    first_is_line c.loop-rest.rest.now c.split_line.result.0.now c.split_line.result.1.now c.cut_line.result.now (c.split_line.ensures.lines some) c.cut_line.ensures

pub returns-in_err-line-clause-stopped : goal.returns-in_err-line-clause-stopped
returns-in_err-line-clause-stopped g c = on_err c.from_residual.result _ (some_stopped _ _ _ _ _ _ c.loop-rest.invariant.served)

pub returns-in_err-deliver-clause-stopped : goal.returns-in_err-deliver-clause-stopped
returns-in_err-deliver-clause-stopped g c =
    let some : 0 < length c.loop-rest.rest.now = search rules in
    let left = line_left c.loop-rest.rest.now c.split_line.result.0.now c.split_line.result.1.now c.cut_line.result.now (c.split_line.ensures.lines some) c.cut_line.ensures in
    on_err c.from_residual-in_err-deliver.result _
    (some_stops _ _ _ _ _ _ _ (some_line _ _ _ _ _ _ _ _ _ c.loop-rest.invariant.served left c.in_ok-line.ensures.happens) c.in_err-deliver.ensures.stopped)

pub loop-rest-preserved-in_ok-deliver : goal.loop-rest-preserved-in_ok-deliver
loop-rest-preserved-in_ok-deliver g c =
    let some : 0 < length c.loop-rest.rest.now = search rules in
    let left = line_left c.loop-rest.rest.now c.split_line.result.0.now c.split_line.result.1.now c.cut_line.result.now (c.split_line.ensures.lines some) c.cut_line.ensures in
    record {
      ready = c.in_ok-deliver.ensures.ready;
      served = some_more _ _ _ _ _ _ _ _ (some_line _ _ _ _ _ _ _ _ _ c.loop-rest.invariant.served left c.in_ok-line.ensures.happens) c.in_ok-deliver.ensures.served;
    }

pub loop-rest-preserved : goal.loop-rest-preserved
loop-rest-preserved g c =
    let some : 0 < length c.loop-rest.rest.now = search rules in
    let left = line_left c.loop-rest.rest.now c.split_line.result.0.now c.split_line.result.1.now c.cut_line.result.now (c.split_line.ensures.lines some) c.cut_line.ensures in
    record {
      ready = c.in_ok-line.ensures.ready;
      served = some_line _ _ _ _ _ _ _ _ _ c.loop-rest.invariant.served left c.in_ok-line.ensures.happens;
    }
