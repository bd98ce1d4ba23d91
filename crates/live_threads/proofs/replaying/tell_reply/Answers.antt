use Rattle.live_threads.proofs.Prelude.{◌≡◌, ℕ, List, true, rules, subst, Fails, Told, is_told, part_told}
use Rattle.live_threads.proofs.replaying.tell_reply.Goals as goal

pub returns-clause-part : goal.returns-clause-part
returns-clause-part g c =
    let is : is_told c.args.told c.args.number ≡ true = search rules in
    let F : List ℕ → Type 0 = λ bytes. Fails (g.O.Outlet.view c.args.outlet.now) (g.O.Outlet.view c.tell.new.self) c.in-Err.device Told bytes in
    part_told _ _ _ _ _ c.in-Err.device is (subst F c.as_slice.ensures.value c.in-Err.ensures)
