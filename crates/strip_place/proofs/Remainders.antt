-- Remainders by a product.
use Rattle.strip_place.proofs.Prelude.{◌≡◌, ◌+◌, ◌-◌, ◌*◌, ◌/◌, ◌%◌, ◌<◌, ◌≤◌, ℕ, arith, div-mul-le_self, lt-div-mul-add, mul-le-mul_right, le_of_mul-le-mul_right, lt_of_mul-lt-mul_right}

-- the upper half of the product is at most the quotient
pub not_above : (base word by inverse : ℕ) → 0 < base → inverse * by ≤ base → word * inverse / base * by ≤ word
not_above base word by inverse some few =
    let quotient : ℕ = word * inverse / base in
    let whole : quotient * base ≤ word * inverse = div-mul-le_self (word * inverse) base in
    let times : quotient * base * by ≤ word * inverse * by = mul-le-mul_right by whole in
    let most : inverse * by * word ≤ base * word = mul-le-mul_right word few in
    let together : quotient * by * base ≤ word * base = omega (arith, times, most) in
    le_of_mul-le-mul_right together some

-- and at most one less
pub not_far_below : (base word by inverse : ℕ) → 0 < by → word < base → base < inverse * by + by → word < word * inverse / base * by + by + by
not_far_below base word by inverse some small near =
    let quotient : ℕ = word * inverse / base in
    let filled : 0 < base = omega (arith, small) in
    let next : word * inverse + 1 ≤ quotient * base + base = (let below : word * inverse < quotient * base + base = lt-div-mul-add filled in omega (arith, below)) in
    let times : (word * inverse + 1) * by ≤ (quotient * base + base) * by = mul-le-mul_right by next in
    let least : (base + 1) * word ≤ (inverse * by + by) * word = mul-le-mul_right word (omega (arith, near)) in
    let few : (word + 1) * by ≤ base * by = mul-le-mul_right by (omega (arith, small)) in
    let together : word * base < (quotient * by + by + by) * base = omega (arith, times, least, few, some) in
    lt_of_mul-lt-mul_right base together

-- what is left is the remainder, or the divisor more
pub is_rest : (word by quotient : ℕ) → quotient * by ≤ word → word - quotient * by < by → word - quotient * by ≡ word % by
is_rest word by quotient within small = grind arith

pub is_rest_past : (word by quotient : ℕ) → 0 < by → by ≤ word - quotient * by → word < quotient * by + by + by → word - quotient * by - by ≡ word % by
is_rest_past word by quotient some past near = grind arith
