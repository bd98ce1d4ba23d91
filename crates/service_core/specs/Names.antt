-- The numbers and names that refusals are printed with.
use Rattle.std.specs.Prelude.{ℕ, List, codes}
use Rattle.service_core.specs.declared.op_refusal.OpRefusal.{OpRefusal}
use Rattle.service_core.specs.declared.op_refusal.OpRefusal.TheVariants as Op
use Rattle.service_core.specs.declared.not_served.NotServed.{NotServed}
use Rattle.service_core.specs.declared.not_served.NotServed.TheVariants.{NoMemory, JournalFull, NoSuchTenancy}

abbrev pub op_refusal_number : OpRefusal → ℕ
op_refusal_number Op.NoMemory = 1
op_refusal_number Op.NoRoom = 2
op_refusal_number Op.TooManyStrips = 3
op_refusal_number Op.BadWidth = 4
op_refusal_number Op.NoSuchTenancy = 5
op_refusal_number Op.IdsSpent = 6

abbrev pub op_refusal_text : OpRefusal → List ℕ
op_refusal_text Op.NoMemory = codes "NoMemory"
op_refusal_text Op.NoRoom = codes "NoRoom"
op_refusal_text Op.TooManyStrips = codes "TooManyStrips"
op_refusal_text Op.BadWidth = codes "BadWidth"
op_refusal_text Op.NoSuchTenancy = codes "NoSuchTenancy"
op_refusal_text Op.IdsSpent = codes "IdsSpent"

abbrev pub not_served_number : NotServed → ℕ
not_served_number NoMemory = 1
not_served_number (JournalFull note) = 2
not_served_number (NoSuchTenancy note) = 5

abbrev pub not_served_text : NotServed → List ℕ
not_served_text NoMemory = codes "NoMemory"
not_served_text (JournalFull note) = codes "JournalFull"
not_served_text (NoSuchTenancy note) = codes "NoSuchTenancy"
