-- Pins by class and by side.
use Rattle.std.specs.Prelude.{ℕ, ◌||◌, List, Bool, true, false, count_by}
use Rattle.arch_file.specs.declared.arch.Pin.{Pin}
use Rattle.arch_file.specs.declared.arch.PinClass.{PinClass}
use Rattle.arch_file.specs.declared.arch.PinClass.TheVariants.{Input, Output, Clock}
use Rattle.arch_file.specs.declared.arch.Sides.{Sides}

-- whether it is an input of a table
abbrev pub is_input_class : PinClass → Bool
is_input_class Input = true
is_input_class class = false

-- whether it is the output of a BLE
abbrev pub is_output_class : PinClass → Bool
is_output_class Output = true
is_output_class class = false

-- whether it is a clock
abbrev pub is_clock_class : PinClass → Bool
is_clock_class Clock = true
is_clock_class class = false

-- the number of pins of a class
abbrev pub input_count : List Pin → ℕ
input_count pins = count_by (λ pin. is_input_class pin.class) pins

abbrev pub output_count : List Pin → ℕ
output_count pins = count_by (λ pin. is_output_class pin.class) pins

abbrev pub clock_count : List Pin → ℕ
clock_count pins = count_by (λ pin. is_clock_class pin.class) pins

-- whether the pin can be reached on some side
abbrev pub has_side : Sides → Bool
has_side sides = sides.top || (sides.bottom || (sides.left || sides.right))
