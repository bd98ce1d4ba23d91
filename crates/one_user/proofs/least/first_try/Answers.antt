use Rattle.one_user.proofs.Prelude.{ap, ◌∙◌, min, FirstTry}
use Rattle.one_user.proofs.TooFew.{first_is}
use Rattle.one_user.proofs.least.first_try.Goals as goal

pub returns : goal.returns
returns c =
    let first : FirstTry = record { tracks = c.min-tracks.result; crossing = c.in_ok-crossing.crossing } in
    first_is c.args.plan c.args.placing.now first c.least_tracks-needed.result c.in_ok-crossing.ensures c.least_tracks-needed.ensures.enough c.least_tracks-needed.ensures.least
    (c.min-tracks.ensures ∙ ap (λ n. min n 65) c.max.ensures)
