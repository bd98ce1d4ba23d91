-- Private: how the code stores whether numbers of tracks are absolute or fractional.
use Rattle.std.specs.Prelude.{Bool, true, false}
use Rattle.arch_file.specs.declared.values.FcType.{FcType}
use Rattle.arch_file.specs.declared.values.FcType.TheVariants.{Absolute, Fractional}

abbrev pub is_fractional_type : FcType → Bool
is_fractional_type Absolute = false
is_fractional_type Fractional = true
