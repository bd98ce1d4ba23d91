use Rattle.live_machine.proofs.Prelude.{◌≡◌, ℕ, sym, ap, ◌∙◌, last_id, takeable_in, ServiceState, live_of, Live, state_in, all_here}
use Rattle.live_lines.specs.Live.{state_of}
use Rattle.live_machine.proofs.RunningLemmas.{runs_here}
use Rattle.live_machine.proofs.server.LineServer.is_busy.Goals as goal

pub returns : goal.returns
returns c =
    let lines = c.args.self.now.lines in
    let name = c.args.name.now in
    let core : c.service.result.now ≡ (state_in lines).stage.service = c.service.ensures ∙ ap (λ (l : Live). (state_of l).stage.service) c.live-live.ensures in
    let id : c.last_id.result ≡ last_id (state_in lines).stage.names name = c.last_id.ensures ∙ ap (λ n. last_id n name) (c.names.ensures ∙ ap (λ (l : Live). (state_of l).stage.names) c.live-live.ensures) in
    c.has_job.ensures.value
    ∙ (sym (runs_here c.service.result.now c.last_id.result c.has_job.ensures.alone)
    ∙ (ap (λ (s : ServiceState). takeable_in (live_of (all_here s).histories c.last_id.result)) core
    ∙ ap (λ (n : ℕ). takeable_in (live_of (all_here (state_in lines).stage.service).histories n)) id))
