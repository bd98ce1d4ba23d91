use Rattle.script_threads.proofs.Prelude.{ℕ, subst, GivesOneLease}
use Rattle.script_threads.proofs.SeatLemmas.{lease_gives}
use Rattle.script_threads.proofs.seated.seat.Goals as goal

pub returns-clause-leased : goal.returns-clause-leased
returns-clause-leased g c =
    let P : ℕ → Type 0 = λ id. GivesOneLease c.args.core.now.marks id c.lease-lease.new.self.marks in
    subst P c.last_id-id.ensures (lease_gives c.args.core.now c.last_id-id.result c.lease-lease.result c.lease-lease.new.self c.lease-lease.ensures)
