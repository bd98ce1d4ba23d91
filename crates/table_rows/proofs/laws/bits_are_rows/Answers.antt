use Rattle.table_rows.proofs.Bits.{bits_same}
use Rattle.table_rows.proofs.laws.bits_are_rows.Goals as goal

pub returns : goal.returns
returns c = bits_same
