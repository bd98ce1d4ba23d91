use Rattle.live_run.proofs.Prelude.{◌≡◌, ℕ, List, true, rules, subst, Fails, Told, is_told}
use Rattle.live_run.proofs.RetellLemmas.{part_told}
use Rattle.live_run.proofs.retelling.tell_reply.Goals as goal

pub returns : goal.returns
returns g c =
    let is : is_told c.args.told c.args.number ≡ true = search rules in
    let F : List ℕ → Type 0 = λ bytes. Fails (g.D.Dialogue.view c.args.dialogue.now) (g.D.Dialogue.view c.write.new.self) c.in-Err.fault Told bytes in
    let fails = subst F c.as_slice.ensures.value c.in-Err.ensures in
    (part_told _ _ _ _ _ c.in-Err.fault is fails, fails.failed)
