use Rattle.layout_check.proofs.Prelude.{◌≡◌, take, All}
use Rattle.layout_check.proofs.drivers.other_driver.Given as goal

abbrev pub invariant-loop-other : goal.invariant-loop-other
invariant-loop-other l = All (λ k. k ≡ l.driver) (take l.other-index l.drivers)
