-- How far an input has been read, line by line.
use Rattle.std.specs.Prelude.{ℕ, ◌≡◌, List, ◌++◌, Bool, true, false, Option, Result, Ok, Err, ⊤}
use Rattle.std.specs.Io.KnownBytes.{Consumes, IsAtEnd, prepend_known}
use Rattle.std.specs.List.{flat_map, list_all}
use Rattle.front_lines.specs.Prelude.{FailedDevice, View, LineFeed as Feed, ahead_of, IsKept, is_one_line, with_feed}

-- the bytes that are to come: those that were read ahead, and those that are left
abbrev pub to_come : Feed → View → Option (List ℕ)
to_come feed view = prepend_known (ahead_of feed) view.remaining

-- private: the line that had begun has ended with this part
pub record HasLine (old new : Option (List ℕ)) (kept kept_then : List ℕ) : Type 0 where
  pub part : List ℕ
  pub one : is_one_line part ≡ true
  pub line : (begun : List ℕ) → IsKept kept begun → IsKept kept_then (begun ++ part)
  pub consumes : Consumes old new (with_feed part)

-- private: the line that has begun goes on with this part, and for now the input has no more
pub record HasPaused (old new : Option (List ℕ)) (kept kept_then : List ℕ) : Type 0 where
  pub part : List ℕ
  pub one : is_one_line part ≡ true
  pub line : (begun : List ℕ) → IsKept kept begun → IsKept kept_then (begun ++ part)
  pub consumes : Consumes old new part
  pub end : IsAtEnd new

-- private: true means that a line has ended
abbrev pub ReadsOn : Option (List ℕ) → Option (List ℕ) → List ℕ → List ℕ → Result Bool FailedDevice → Type 0
ReadsOn old new kept kept_then (Ok true) = HasLine old new kept kept_then
ReadsOn old new kept kept_then (Ok false) = HasPaused old new kept kept_then
ReadsOn old new kept kept_then (Err fault) = ⊤

-- these lines were read, and some bytes after them; the others were left
pub record HasBytes (old : Option (List ℕ)) (lines : List (List ℕ)) : Type 0 where
  pub left : Option (List ℕ)
  pub more : List ℕ
  pub consumes : Consumes old left (flat_map with_feed lines ++ more)
  pub are_lines : list_all is_one_line lines ≡ true
