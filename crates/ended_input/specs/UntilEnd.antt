-- An input that ends at its first line `op end`.
use Rattle.std.specs.Prelude.{ℕ, ◌≡◌, ◌==◌, ◌&&◌, ◌≤◌, ◌+◌, ◌<◌, List, [], ◌∷◌, ◌++◌, Bool, true, false, Option, Some, None, codes, length, take, nat_eq, if◌then◌else◌}
use Rattle.std.specs.List.{starts_with}
use Rattle.ended_input.specs.declared.until_end.Seen.{Seen}
use Rattle.ended_input.specs.declared.until_end.Seen.TheVariants.{End, Beginning, Other}
use Rattle.std.specs.Io.KnownBytes.{Consumes, IsAtEnd, Keeps}

-- the line, with LF
abbrev pub end_line : List ℕ
end_line = codes "op end\n"

-- what is before the first such line; the bytes are at the beginning of a line, or not
abbrev pub before_end : Bool → List ℕ → List ℕ
before_end start [] = []
before_end start (b ∷ bytes) = if start && starts_with nat_eq (b ∷ bytes) end_line then [] else b ∷ before_end (b == 10) bytes

-- private: the first bytes of such a line
abbrev pub held_bytes : ℕ → List ℕ
held_bytes count = take count end_line

-- private: what is left of an input of which those bytes are left to read
abbrev pub left_of : Bool → Bool → ℕ → List ℕ → List ℕ
left_of true start held bytes = []
left_of false start held bytes = before_end start (held_bytes held ++ bytes)

-- private: what is at the beginning of bytes that are at the beginning of a line, or not
abbrev pub IsSeen : Bool → List ℕ → Seen → Type 0
IsSeen start bytes End = (start ≡ true) × (true ≡ starts_with nat_eq bytes end_line)
IsSeen start bytes Beginning = (start ≡ true) × (length bytes < 7) × (true ≡ starts_with nat_eq end_line bytes)
IsSeen start bytes Other = start ≡ true → (false ≡ starts_with nat_eq bytes end_line) × (length bytes < 7 → false ≡ starts_with nat_eq end_line bytes)

-- private: of these bytes so many are given, and then the input is over, or it goes on so
pub record IsCut (start : Bool) (bytes : List ℕ) (given : ℕ) (over after : Bool) (held : ℕ) : Type 0 where
  pub within : given ≤ length bytes
  pub same : (more : List ℕ) → before_end start (bytes ++ more) ≡ take given bytes ++ left_of over after held more

-- private: the buffer begins with what is held back, and so many bytes that were read
pub record Fills (held : ℕ) (old new : Option (List ℕ)) (count : ℕ) (buffer : List ℕ) : Type 0 where
  pub bytes : List ℕ
  pub begins : take (held + count) buffer ≡ held_bytes held ++ bytes
  pub within : held + count ≤ length buffer
  pub consumes : Consumes old new bytes
  pub end : count ≡ 0 → IsAtEnd new

-- private: so many bytes of the buffer are given, or nothing
abbrev pub Gives : Option (List ℕ) → Option (List ℕ) → Option ℕ → List ℕ → Type 0
Gives old new None buffer = Keeps old new
Gives old new (Some given) buffer = (given ≤ length buffer) × Consumes old new (take given buffer) × (given ≡ 0 → IsAtEnd new)
