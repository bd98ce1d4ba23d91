use Rattle.plane_search.proofs.Prelude.{◌∙◌, sym, subst, Path, Improves}
use Rattle.plane_search.proofs.Bests.{stays, gets_less, nothing_less, none_found, here_if_less, here_if_not, less_by}
use Rattle.plane_search.proofs.search.TrackSearch.improve.Goals as goal

pub returns-then-most-bound : goal.returns-then-most-bound
returns-then-most-bound g c =
    let plane = c.tracks-tracks.ensures.lawful.planes c.args.view.now.track c.args.view.now.on in
    λ nodes about later. stays c.args.path.now c.requires later
    (nothing_less plane c.args.path.now c.requires c.bound.result _ c.bound.ensures c.if-most-bound.true (c.lesser_limit-most.ensures nodes about later))

pub returns-then-not-branch : goal.returns-then-not-branch
returns-then-not-branch g c =
    let plane = c.tracks-tracks.ensures.lawful.planes c.args.view.now.track c.args.view.now.on in
    λ nodes about later. stays c.args.path.now c.requires later
    (none_found plane c.in_ok-list_in_order.ensures.are c.args.path.now c.requires (c.lesser_limit-most.ensures nodes about later) (c.in_ok-find_nodes.ensures.none cc))

pub returns-then-is_less : goal.returns-then-is_less
returns-then-is_less g c =
    let f = g.P.Planes.family c.args.view.now.planes.now in
    let plane = c.tracks-tracks.ensures.lawful.planes c.args.view.now.track c.args.view.now.on in
    let are = c.in_ok-list_in_order.ensures.are in
    let found = c.find_nodes.new.self.found in
    let least = c.in_ok-find_nodes.ensures.found cc in
    λ nodes about later.
    let beyond = c.lesser_limit-most.ensures nodes about later in
    let under = sym (less_by plane are c.args.path.now c.requires beyond found least) ∙ c.if-is_less.ensures in
    subst (λ (path : Path). Improves f c.args.view.now.track c.args.known_cost nodes c.args.path.now path) (sym c.swap.ensures.x_after)
    (gets_less c.args.path.now found least.known later (here_if_less plane are c.args.path.now c.requires beyond found least under) c.if-is_less.ensures under)

pub returns-else-is_less : goal.returns-else-is_less
returns-else-is_less g c =
    let plane = c.tracks-tracks.ensures.lawful.planes c.args.view.now.track c.args.view.now.on in
    let are = c.in_ok-list_in_order.ensures.are in
    let found = c.find_nodes.new.self.found in
    let least = c.in_ok-find_nodes.ensures.found cc in
    λ nodes about later.
    let beyond = c.lesser_limit-most.ensures nodes about later in
    stays c.args.path.now c.requires later
    (here_if_not plane are c.args.path.now c.requires beyond found least (λ e. c.if-is_less.ensures (less_by plane are c.args.path.now c.requires beyond found least ∙ e)))
