use Rattle.strip_picture.proofs.Prelude.{◌++◌, ◌∷◌, [], ℕ, List, sym, subst, RouteNode, HasTracks}
use Rattle.strip_picture.proofs.Tracks.{marked_wire}
use Rattle.strip_picture.proofs.channels.mark_track.Goals as goal

pub returns-in-Some : goal.returns-in-Some
returns-in-Some c nodes h =
    let read : RouteNode = c.args.read in
    subst (λ (used : List ℕ). HasTracks (nodes ++ read ∷ []) used) (sym c.with_track.ensures) (marked_wire nodes read c.args.used.items c.in-Some.number c.in-Some.ensures h)
