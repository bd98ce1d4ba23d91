-- Private: how a text is cut off from the start of a script.
use Rattle.std.specs.Prelude.{ℕ, ◌≡◌, ◌≤◌, ◌+◌, ◌⊎◌, List, [], ◌∷◌, ◌++◌, length, true, false, Some, None, Ok}
use Rattle.script_text.specs.Prelude.{physical_lines, without_cr}
use Rattle.std.specs.List.{flat_map}
use Rattle.script_text.specs.Texts.{bytes_ahead}
use Rattle.script_text.specs.Script.{acts_from}
use Rattle.script_text.specs.Threaded.{nothing_said, threaded_behind, threaded_of}

-- no line of the bytes ends the text, so all of them belong to it
abbrev pub HasNoEnd : ℕ → List ℕ → Type 0
HasNoEnd number bytes = (bytes_ahead (physical_lines bytes) ≡ None) × (acts_from number true (physical_lines bytes) ≡ Ok []) × (threaded_behind number bytes ≡ Ok nothing_said)

-- each line of the bytes ends with LF
abbrev pub IsEnded : List ℕ → Type 0
IsEnded bytes = (bytes ≡ []) ⊎ ((front : List ℕ) × (bytes ≡ front ++ 10 ∷ []))

-- the lines of the bytes, each ended by LF, without a CR before it
abbrev pub without_crs : List ℕ → List ℕ
without_crs bytes = flat_map (λ line. without_cr line ++ 10 ∷ []) (physical_lines bytes)

-- the bytes begin with this text, and the script goes on with the line of that number
pub record IsCut (number : ℕ) (bytes ahead : List ℕ) (next : ℕ) (rest : List ℕ) : Type 0 where
  pub text : bytes_ahead (physical_lines bytes) ≡ Some ahead
  pub goes_on : acts_from number true (physical_lines bytes) ≡ acts_from next false (physical_lines rest)
  pub threads : threaded_behind number bytes ≡ threaded_of next rest
  pub ended : IsEnded ahead
  pub counted : next + length rest ≤ number + length bytes
  pub later : number ≤ next
