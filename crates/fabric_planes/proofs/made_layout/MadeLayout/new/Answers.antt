use Rattle.fabric_planes.proofs.Prelude.{◌∙◌}
use Rattle.fabric_planes.proofs.made_layout.MadeLayout.new.Goals as goal

pub invariant_of-result : goal.invariant_of-result
invariant_of-result g c =
    rw (c.in_ok-arch.ensures.cases ∙ c.arch.ensures, c.strip.ensures) (record { laid = c.in_ok-layout.ensures })
