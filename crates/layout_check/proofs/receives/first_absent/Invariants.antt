use Rattle.layout_check.proofs.Prelude.{◌≡◌, take, true, list_all, has}
use Rattle.layout_check.proofs.receives.first_absent.Given as goal

abbrev pub invariant-loop-net : goal.invariant-loop-net
invariant-loop-net l = list_all (has l.others) (take l.net-index l.nets) ≡ true
