use Rattle.strip_place.proofs.Prelude.{◌<◌, ◌++◌, ◌∷◌, [], List, length, map, take, get_or, arith, ap, sym, ◌∙◌, get_or_read, map_push, take_all, take_more, Point, no_point, point_at}
use Rattle.strip_place.proofs.start.points_at.Goals as goal

pub loop-site-preserved : goal.loop-site-preserved
loop-site-preserved c =
    let spots = c.args.spots.now in
    let sites = c.args.sites.now in
    let i = c.loop-site.site-index in
    let lt : i < length sites = omega arith in
    c.in_ok-push.ensures.items ∙ ap (λ (p : Point). c.loop-site.points.items ++ p ∷ []) (get_or_read spots (get_or sites i 0) c.index-spots-site.result (c.requires i 0 lt) c.index-spots-site.is no_point) ∙ ap (λ (front : List Point). front ++ point_at spots (get_or sites i 0) ∷ []) c.loop-site.invariant
    ∙ sym (map_push (point_at spots) (take i sites) (get_or sites i 0)) ∙ ap (map (point_at spots)) (sym (take_more sites i 0 lt))

pub returns : goal.returns
returns c =
    let spots = c.args.spots.now in
    let all = take_all c.loop-site.site-index c.args.sites.now (omega arith) in
    c.in_ok-push-2.ensures.items ∙ ap (λ (p : Point). c.loop-site.points.items ++ p ∷ []) c.new.ensures ∙ ap (λ (front : List Point). front ++ no_point ∷ []) (c.loop-site.invariant ∙ ap (map (point_at spots)) all)
