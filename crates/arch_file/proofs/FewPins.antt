-- The number of pins of an architecture is small.
use Rattle.arch_file.proofs.Prelude.{◌≡◌, ℕ, ◌+◌, ◌≤◌, List, [], ◌∷◌, length, cond, refl, arith, sum_by-cons, Arch, Pin, PinClass, Input, Output, Clock, IsArch, input_count, output_count, is_output_class}
use Rattle.arch_file.specs.Arch.{clock_count, is_input_class, is_clock_class}

one_class : (class : PinClass) → cond (is_input_class class) 1 0 + (cond (is_output_class class) 1 0 + cond (is_clock_class class) 1 0) ≡ 1
one_class Input = refl
one_class Output = refl
one_class Clock = refl

-- each pin has one class
count_classes : (pins : List Pin) → length pins ≡ input_count pins + (output_count pins + clock_count pins)
count_classes [] = refl
count_classes (pin ∷ pins) =
    let inputs : Pin → ℕ = λ p. cond (is_input_class p.class) 1 0 in
    let outputs : Pin → ℕ = λ p. cond (is_output_class p.class) 1 0 in
    let clocks : Pin → ℕ = λ p. cond (is_clock_class p.class) 1 0 in
    omega (arith, count_classes pins, sum_by-cons inputs pin pins, sum_by-cons outputs pin pins, sum_by-cons clocks pin pins, one_class pin.class)

pub few_pins : (arch : Arch) → IsArch arch → length arch.pins ≤ 145
few_pins arch lawful = omega (arith, count_classes arch.pins, lawful.inputs.1, lawful.outputs, lawful.cluster_size.1, lawful.clocks)
