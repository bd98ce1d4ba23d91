use Rattle.shared_core.proofs.Prelude.{rules, ◌≡◌, Some, marked_of, entries_of}
use Rattle.shared_core.proofs.Sums.{rising-from_zero}
use Rattle.shared_core.proofs.shared.Core.is_marked.Goals as goal

pub has-requires : goal.has-requires
has-requires g c =
    let at : marked_of c.self.inside.marks.items c.args.id ≡ Some c.in-Some.marks.now = search rules in
    let rises = rising-from_zero _ _ _ (c.self.invariant.placed.rising c.args.id) in
    (entries_of c.self.inside.service.histories c.args.id, rw at at rises)
