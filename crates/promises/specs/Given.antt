-- The architecture that a command line gives.
use Rattle.std.specs.Prelude.{ℕ, ◌≡◌, ◌≢◌, List, Option, Some, None}
use Rattle.std.specs.Borrow.{Bor}
use Rattle.promises.specs.Prelude.{Architecture, InScript, Text, Unreadable}
use Rattle.promises.specs.declared.given_architecture.GivenArchitecture.{GivenArchitecture}
use Rattle.promises.specs.declared.given_architecture.GivenArchitecture.TheVariants.{InScript as AtHead, Text as InFile, Unreadable as NotRead}

-- it is at the script's head exactly if there is no path
abbrev pub IsGivenBy : Option (Bor (List ℕ)) → GivenArchitecture → Type 0
IsGivenBy None given = given ≡ AtHead
IsGivenBy (Some path) given = given ≢ AtHead

-- it is where the value says
abbrev pub IsThere : GivenArchitecture → Architecture → Type 0
IsThere AtHead architecture = architecture ≡ InScript
IsThere (InFile text) (Text read) = read.now ≡ text.items
IsThere (InFile text) architecture = ⊥
IsThere NotRead architecture = architecture ≡ Unreadable
