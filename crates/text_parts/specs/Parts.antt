-- The bytes of a part of a text.
use Rattle.std.specs.Prelude.{ℕ, List, decimal}
use Rattle.text_parts.specs.declared.parts.Part.{Part}
use Rattle.text_parts.specs.declared.parts.Part.TheVariants.{Text, Bytes, Number, Long}

-- a text or bytes are written unchanged, a number in decimal digits
abbrev pub bytes_of_part : Part → List ℕ
bytes_of_part (Text text) = text.now
bytes_of_part (Bytes bytes) = bytes.now
bytes_of_part (Number number) = decimal number
bytes_of_part (Long number) = decimal number
