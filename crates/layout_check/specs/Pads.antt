-- Private: the nets of a pad for a use.
use Rattle.std.specs.Prelude.{ℕ, List}
use Rattle.layout_check.specs.Prelude.{Block, input_at, output_at}
use Rattle.layout_check.specs.declared.ports.PadUse.{PadUse}
use Rattle.layout_check.specs.declared.ports.PadUse.TheVariants.{Input, Output}

abbrev pub pad_nets : PadUse → Block → List ℕ
pad_nets Input block = input_at block
pad_nets Output block = output_at block
