-- Which wishes have a plan.
use Rattle.std.specs.Prelude.{ℕ, ◌+◌, ◌*◌, ◌/◌, ◌≤◌}
use Rattle.std.specs.Int.{div_ceil}
use Rattle.arch_file.specs.Arch.{IsWithin}
use Rattle.arch_file.specs.declared.arch.TheConstants.{MAX_CLUSTER_SIZE, MAX_LUT_SIZE}
use Rattle.grid.specs.declared.TheConstants.{MAX_COLUMNS, MAX_ROWS}
use Rattle.strips.specs.declared.layout.TheConstants.{MAX_STRIPS}
use Rattle.random_script.specs.declared.plan.LoadParameters.{LoadParameters}
use Rattle.random_script.specs.declared.plan.TheConstants.{MAX_TABLES}

-- each wish is within its limits
pub record AreWithin (wishes : LoadParameters) : Type 0 where
  pub tables : IsWithin 1 wishes.tables MAX_TABLES
  pub tenancies : IsWithin 1 wishes.tenancies MAX_STRIPS
  pub inputs : IsWithin 1 wishes.inputs MAX_LUT_SIZE
  pub cluster : IsWithin 1 wishes.cluster MAX_CLUSTER_SIZE

-- the places for logic blocks of a strip: a quarter more than there are full clusters, and one
abbrev pub places_for : LoadParameters → ℕ
places_for wishes = div_ceil wishes.tables wishes.cluster + div_ceil wishes.tables wishes.cluster / 4 + 1

-- strips with that number of places in that number of rows fit on a device, and a guard column
-- between two
pub record HasRoom (tenancies places rows : ℕ) : Type 0 where
  pub narrow : div_ceil places rows ≤ MAX_COLUMNS
  pub together : tenancies * (div_ceil places rows + 1) ≤ MAX_COLUMNS + 1

-- the wishes are within their limits, and strips as high as a device may be fit on a device
pub record HavePlan (wishes : LoadParameters) : Type 0 where
  pub within : AreWithin wishes
  pub room : HasRoom wishes.tenancies (places_for wishes) MAX_ROWS
