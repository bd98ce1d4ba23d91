use Rattle.strip_place.proofs.Prelude.{◌≡◌, List, Some, length, slice_get, arith, ap, sym, ◌∙◌, subst, blocks_of, Place, places_at_start, Task, task_of, PlacingUnderWay, places_by_block, placed_after}
use Rattle.strip_place.proofs.Annealing.{kinds_long}
use Rattle.strip_place.proofs.placing.Placing.place_of.Goals as goal

pub place-requires : goal.place-requires
place-requires c =
    let b = c.self.inside in
    let same = ap (λ (p : PlacingUnderWay). length (blocks_of p.packed)) c.self.view_is in
    omega (arith, c.requires, same, kinds_long b.packed, ap (λ (t : Task). length t.kinds) c.self.invariant.task)

pub returns : goal.returns
returns c =
    let b = c.self.inside in
    let places : b.board.places ≡ placed_after b.board.strip (task_of b.packed) (places_at_start b.board.strip b.packed b.kept) b.seed b.effort b.passes = c.self.invariant.places ∙ ap (λ (t : Task). placed_after b.board.strip t (places_at_start b.board.strip b.packed b.kept) b.seed b.effort b.passes) c.self.invariant.task in
    subst (λ (p : PlacingUnderWay). slice_get (places_by_block p) c.args.block ≡ Some c.place.result) c.self.view_is
    (ap (λ (s : List Place). slice_get s c.args.block) (sym places) ∙ c.place.ensures)
