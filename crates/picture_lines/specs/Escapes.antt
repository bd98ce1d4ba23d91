-- Bytes as the text of an XML element or attribute.
use Rattle.std.specs.Prelude.{ℕ, ◌==◌, ◌&&◌, if◌then◌else◌, nat_le, List, [], ◌∷◌, codes}

-- a byte with a meaning in XML is written by its name, and one that isn't a printable ASCII
-- character as the replacement character
abbrev pub escape_of : ℕ → List ℕ
escape_of byte =
    if byte == 38 then codes "&amp;"
    else if byte == 60 then codes "&lt;"
    else if byte == 62 then codes "&gt;"
    else if byte == 34 then codes "&quot;"
    else if byte == 39 then codes "&#39;"
    else if nat_le 32 byte && nat_le byte 126 then byte ∷ []
    else codes "&#65533;"
