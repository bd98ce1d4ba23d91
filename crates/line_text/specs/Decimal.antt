-- Numbers written in decimal digits.
use Rattle.std.specs.Prelude.{ℕ, ◌+◌, ◌-◌, ◌*◌, ◌^◌, Bool, ◌&&◌, ◌==◌, nat_lt, nat_le, if◌then◌else◌, List, length, fold, Option, Some, None}
use Rattle.std.specs.List.{list_all, before_first, after_first}
use Rattle.line_text.specs.declared.decimal.TheConstants.{MAX_WHOLE}

-- `0` to `9`
abbrev pub is_digit : ℕ → Bool
is_digit byte = nat_le 48 byte && nat_le byte 57

-- the number with one more digit at its end
abbrev pub with_digit : ℕ → ℕ → ℕ
with_digit n byte = n * 10 + (byte - 48)

-- the number that the digits spell, 0 if there are no digits
abbrev pub value_of : List ℕ → ℕ
value_of digits = fold with_digit 0 digits

-- a whole number: 1 to 9 digits
abbrev pub whole_of : List ℕ → Option ℕ
whole_of bytes =
    if list_all is_digit bytes && nat_le 1 (length bytes) && nat_le (length bytes) 9 then Some (value_of bytes) else None

-- a number below 2 to the number of bits: any number of digits, at least one
abbrev pub decimal_of : ℕ → List ℕ → Option ℕ
decimal_of bits bytes =
    if list_all is_digit bytes && nat_le 1 (length bytes) && nat_lt (value_of bytes) (2 ^ bits) then Some (value_of bytes) else None

-- whether the byte is the decimal point
abbrev pub is_point : ℕ → Bool
is_point byte = byte == 46

-- the digits before the point, and those after it
abbrev pub whole_digits : List ℕ → List ℕ
whole_digits bytes = before_first is_point bytes

abbrev pub fraction_digits : List ℕ → List ℕ
fraction_digits bytes = after_first is_point bytes

-- whether these are the digits before and after a point: at least one in all, at most six after it,
-- and at most a million before it
abbrev pub is_decimal : List ℕ → List ℕ → Bool
is_decimal whole fraction =
    list_all is_digit whole && list_all is_digit fraction && nat_le 1 (length whole + length fraction) && nat_le (length fraction) 6 && nat_le (value_of whole) MAX_WHOLE

-- a decimal number, in millionths
abbrev pub millionths_of : List ℕ → Option ℕ
millionths_of bytes =
    if is_decimal (whole_digits bytes) (fraction_digits bytes) then Some (value_of (whole_digits bytes) * 1000000 + value_of (fraction_digits bytes) * 10 ^ (6 - length (fraction_digits bytes))) else None
