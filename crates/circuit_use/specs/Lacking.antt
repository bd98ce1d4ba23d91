-- What sets the size of a device.
use Rattle.std.specs.Prelude.{ℕ, ◌*◌, Bool, true, false, List, [], ◌∷◌, codes, nat_lt}
use Rattle.std.specs.List.{concat}
use Rattle.circuit_use.specs.declared.lacking.Lacking.{Lacking}
use Rattle.circuit_use.specs.declared.lacking.Lacking.TheVariants.{Nothing, Blocks, Pads, BlocksAndPads}

-- by whether logic blocks and pads have too few places
abbrev pub lacking_by : Bool → Bool → Lacking
lacking_by false false = Nothing
lacking_by true false = Blocks
lacking_by false true = Pads
lacking_by true true = BlocksAndPads

-- of which places a device has too few, with that many pads at each end of a column
abbrev pub lacking_on : ℕ → ℕ → ℕ → ℕ → ℕ → Lacking
lacking_on blocks pads io_rat columns rows = lacking_by (nat_lt (columns * rows) blocks) (nat_lt (2 * columns * io_rat) pads)

-- the line that says so
abbrev pub lacking_line : Lacking → List ℕ
lacking_line Nothing = concat (codes "size set by nothing\n" ∷ [])
lacking_line Blocks = concat (codes "size set by logic blocks\n" ∷ [])
lacking_line Pads = concat (codes "size set by pads\n" ∷ [])
lacking_line BlocksAndPads = concat (codes "size set by logic blocks and pads\n" ∷ [])
