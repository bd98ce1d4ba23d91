-- Private: a device fails once it has no read left.
use Rattle.std.specs.Prelude.{◌≡◌, ℕ, Bool, true, false, ◌||◌, ◌==◌, refl}
use Rattle.std.proofs.Common.{eq-eqb}

pub or_true : (failed : Bool) (reads : ℕ) → reads ≡ 0 → (failed || reads == 0) ≡ true
or_true true reads none = refl
or_true false reads none = eq-eqb reads 0 none
