use Rattle.std.proofs.Common.{subst}
use Rattle.front_lines.specs.Commands.{ClientState}
use Rattle.front_lines.specs.Serving.{HasServed, ServesAll}
use Rattle.front_run.proofs.ClosingLemmas.{all_served}
use Rattle.front_run.proofs.serving.serve_feed.Goals as goal

pub returns : goal.returns
returns g c =
    let who = c.args.service.now.speaker in
    let client = (g.D.Dialogue.view c.args.client.now).remaining in
    let requests = g.Q.Requests.contents c.args.service.now.requests in
    let requests_new = g.Q.Requests.contents c.serve_client-end.new.service.requests in
    let replies = (g.F.Dialogue.view c.args.service.now.replies).remaining in
    let output = (g.D.Dialogue.view c.args.client.now).output in
    let output_then = (g.D.Dialogue.view c.serve_client-end.new.client).output in
    let S : ClientState → Type 0 = λ state. HasServed who state client requests requests_new replies output output_then in
    let A : ClientState → Type 0 = λ state. ServesAll who state client requests requests_new replies output output_then c.serve_client-end.result in
    record {
      output_then = output_then;
      served = subst S c.new-text.ensures c.serve_client-end.ensures.served;
      closes = c.write_last-written.ensures;
      all = λ done. all_served who client requests requests_new replies output output_then c.serve_client-end.result (c.outcome_of.ensures done) (subst A c.new-text.ensures c.serve_client-end.ensures.all);
    }
