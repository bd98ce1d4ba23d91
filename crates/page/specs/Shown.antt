-- Bytes as the text of an HTML element, or of an attribute in quotes.
use Rattle.std.specs.Prelude.{ℕ, ◌==◌, ◌&&◌, Bool, not, if◌then◌else◌, nat_le, List, [], ◌∷◌, codes}

-- a byte with a meaning in HTML is written by its name, a line end as it is, and another one that
-- is no printable ASCII character as the replacement character
abbrev pub escape_of : ℕ → List ℕ
escape_of byte =
    if byte == 38 then codes "&amp;"
    else if byte == 60 then codes "&lt;"
    else if byte == 62 then codes "&gt;"
    else if byte == 34 then codes "&quot;"
    else if byte == 39 then codes "&#39;"
    else if byte == 10 then codes "\n"
    else if nat_le 32 byte && nat_le byte 126 then byte ∷ []
    else codes "&#65533;"

-- no tag begins or ends at the byte, and no attribute's value: it is no `<`, `>`, `"` or `'`
abbrev pub is_inert : ℕ → Bool
is_inert byte = not (byte == 60) && (not (byte == 62) && (not (byte == 34) && not (byte == 39)))
