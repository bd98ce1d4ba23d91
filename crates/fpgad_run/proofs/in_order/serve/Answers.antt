use Rattle.fpgad_run.proofs.Prelude.{Ok, ◌∙◌, ap, subst, sym, own_graph, Stage, empty_service, IsReplies}
use Rattle.fpgad_run.proofs.SectionLemmas.{on_value}
use Rattle.fpgad_run.proofs.Telling.{begins_own}
use Rattle.fpgad_run.proofs.in_order.serve.Goals as goal

pub serve_all-requires : goal.serve_all-requires
serve_all-requires c = begins_own c.in_ok-graph.graph c.in_ok-core.core c.new-running.result c.new-running.ensures

pub returns-in-Ok : goal.returns-in-Ok
returns-in-Ok c =
    let told =
    c.in-Ok.ensures.told c.args.options.now c.args.arch
    (ap (λ (s : Stage). s.service) c.new-running.ensures.stage ∙ c.in_ok-core.ensures ∙ ap empty_service c.device-device.ensures)
    (ap (λ (s : Stage). s.graph) c.new-running.ensures.stage ∙ c.in_ok-graph.ensures ∙ ap own_graph c.device-device.ensures) in
    on_value c.into_replies.result (λ replies is. subst (IsReplies c.args.options.now (Ok (c.args.arch, c.args.script))) (sym is) told) c.into_replies.ensures
