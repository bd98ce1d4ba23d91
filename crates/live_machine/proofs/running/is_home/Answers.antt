use Rattle.live_machine.proofs.Prelude.{◌≡◌, ap, ◌∙◌, last_id, Live, state_in}
use Rattle.live_lines.specs.Live.{state_of}
use Rattle.live_machine.proofs.RunningLemmas.{home_by}
use Rattle.live_machine.proofs.running.is_home.Goals as goal

pub returns : goal.returns
returns c =
    let live = state_in c.args.lines.now in
    let name = c.args.name.now in
    let core : c.service-core.result.now ≡ live.stage.service = c.service-core.ensures ∙ ap (λ (l : Live). (state_of l).stage.service) c.live-live.ensures in
    let id : c.last_id-id.result ≡ last_id live.stage.names name = c.last_id-id.ensures ∙ ap (λ n. last_id n name) (c.names.ensures ∙ ap (λ (l : Live). (state_of l).stage.names) c.live-live.ensures) in
    home_by live name c.service-core.result.now c.last_id-id.result c.has_job.result c.has_step.result core id c.has_job.ensures.alone c.has_job.ensures.value c.has_step.ensures
