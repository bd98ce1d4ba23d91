-- Where the parts of a line end.
use Rattle.std.specs.Prelude.{ℕ, Bool, not, ◌==◌}
use Rattle.line_text.specs.Decimal.{is_digit}

abbrev pub is_space : ℕ → Bool
is_space byte = byte == 32

abbrev pub is_no_digit : ℕ → Bool
is_no_digit byte = not (is_digit byte)
