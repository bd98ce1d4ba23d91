-- The text that each name's session is in.
use Rattle.std.specs.Prelude.{ℕ, ◌≡◌, List, [], ◌∷◌, length, false, Option, None, if◌then◌else◌}
use Rattle.std.specs.Str.{bytes_eq}
use Rattle.live_lines.specs.Prelude.{SessionLine, GivesItem, TextSoFar}
use Rattle.live_lines.specs.declared.said.Said.{Said}

-- the text that each name is in, if it is in one
abbrev pub Texts : Type 0
Texts = List ℕ → Option TextSoFar

-- no name is in a text
abbrev pub no_texts : Texts
no_texts name = None

-- a line of a name gives that item, if it gives one; the texts of other names stay as they are
pub record HearsLine (old : Texts) (name line : List ℕ) (item : Option SessionLine) (new : Texts) : Type 0 where
  pub gives : GivesItem (old name) line item (new name)
  pub others : (other : List ℕ) → bytes_eq other name ≡ false → new other ≡ old other

-- private: the text that a name is in, from the list of the names and the list of their texts
abbrev pub text_in : List (List ℕ) → List (Option TextSoFar) → Texts
text_in [] texts name = None
text_in (n ∷ names) [] name = None
text_in (n ∷ names) (t ∷ texts) name = if bytes_eq name n then t else text_in names texts name

abbrev pub texts_of : Said → Texts
texts_of said = text_in said.names said.readers.items

-- private: each name has a reader
abbrev pub IsEven : Said → Type 0
IsEven said = length said.readers.items ≡ length said.names
