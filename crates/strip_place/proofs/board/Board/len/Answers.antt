use Rattle.strip_place.proofs.Prelude.{refl, subst, IsLawfulBoard}
use Rattle.strip_place.proofs.board.Board.len.Goals as goal

pub returns-clause-lawful : goal.returns-clause-lawful
returns-clause-lawful c =
    let b = c.self.inside in
    subst IsLawfulBoard c.self.view_is (record { size = c.self.invariant.size; sites = b.seats.sites; shown = refl; standing = c.self.invariant.standing })
