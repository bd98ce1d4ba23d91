use Rattle.strip_picture.proofs.Prelude.{◌≡◌, ◌∙◌, ◌+◌, ◌++◌, ◌∷◌, [], ℕ, List, take, ap, sym, subst, take_more, RouteNode, HasTracks}
use Rattle.strip_picture.proofs.channels.used_tracks.Goals as goal

pub loop-read-preserved : goal.loop-read-preserved
loop-read-preserved c =
    let nodes : List RouteNode = c.args.nodes.now in
    let i : ℕ = c.loop-read.read-index in
    let read : RouteNode = c.read-item.result in
    let used : List ℕ = c.mark_track-used.result.items in
    let more : take (i + 1) nodes ≡ take i nodes ++ read ∷ [] = take_more nodes i read c.loop-read-test.true ∙ ap (λ (one : RouteNode). take i nodes ++ one ∷ []) (sym c.read-item.is) in
    subst (λ (seen : List RouteNode). HasTracks seen used) (sym more) (c.mark_track-used.ensures (take i nodes) c.loop-read.invariant)
