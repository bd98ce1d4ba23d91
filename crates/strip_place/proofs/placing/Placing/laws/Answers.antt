use Rattle.strip_place.proofs.Prelude.{◌≡◌, ap, sym, ◌∙◌, subst, places_at_start, Task, task_of, AreOneToOne, PlacingUnderWay, places_by_block, placed_after, ArePlaced}
use Rattle.strip_place.proofs.Standing.{placed_by}
use Rattle.strip_place.proofs.placing.Placing.laws.Goals as goal

pub returns : goal.returns
returns c =
    let b = c.self.inside in
    let lawful = c.len.ensures.lawful in
    let size = lawful.size in
    let places : b.board.places ≡ placed_after b.board.strip (task_of b.packed) (places_at_start b.board.strip b.packed b.kept) b.seed b.effort b.passes = c.self.invariant.places ∙ ap (λ (t : Task). placed_after b.board.strip t (places_at_start b.board.strip b.packed b.kept) b.seed b.effort b.passes) c.self.invariant.task in
    let standing : AreOneToOne b.board.strip (task_of b.packed).kinds lawful.sites = subst (λ (t : Task). AreOneToOne b.board.strip t.kinds lawful.sites) c.self.invariant.task lawful.standing in
    let placed = placed_by b.board.strip (λ kind. c.laws_of_places.ensures.apart b.board.strip kind size) (λ place. c.laws_of_places.ensures.kinds_apart b.board.strip place size) b.packed lawful.sites standing in
    subst (λ (p : PlacingUnderWay). ArePlaced p.strip p.packed (places_by_block p)) c.self.view_is
    (subst (ArePlaced b.board.strip b.packed) (sym lawful.shown ∙ places) placed)
