-- Bits of numbers.
use Rattle.configuration_text.proofs.Prelude.{◌≡◌, ℕ, ◌+◌, ◌*◌, ◌/◌, ◌%◌, ◌^◌, ◌==◌, sym, ap, ◌∙◌, div-div-eq-div-mul, div-one, pow-add, bit_of}

pub bit_more : (number j : ℕ) → bit_of number (1 + j) ≡ bit_of (number / 2) j
bit_more number j =
    let twice : 2 ^ (1 + j) ≡ 2 * 2 ^ j = pow-add 2 1 j in
    ap (λ (n : ℕ). (number / n) % 2 == 1) twice ∙ ap (λ (n : ℕ). n % 2 == 1) (sym (div-div-eq-div-mul number 2 (2 ^ j)))

pub bit_first : (number : ℕ) → bit_of number 0 ≡ (number % 2 == 1)
bit_first number = ap (λ (n : ℕ). n % 2 == 1) (div-one number)
